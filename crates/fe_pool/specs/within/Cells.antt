-- How a node in a pool's vector, a `Cell`, appears in the columns. No public clause cites this module.
-- See `docs/model.md`, "Waiting requests".
use Rattle.std.specs.Prelude.{ℕ, List, map, Option, Some, None}
use Rattle.fe_pool.specs.Columns.{Link, Columns}
use Rattle.fe_pool.specs.declared.family.Family.{Family}
use Rattle.fe_pool.specs.declared.family.Family.TheVariants.{OfWord, OfSession}
use Rattle.fe_pool.specs.declared.cells.NodeContents.{NodeContents}
use Rattle.fe_pool.specs.declared.cells.Cell.{Cell}
use Rattle.fe_pool.specs.declared.cells.Cell.TheVariants.{Free, Taken}

module _ {T : Type 0} where
  -- the item of a taken node
  abbrev pub item_of : Cell T → Option T
  item_of (Free _) = None
  item_of (Taken entry) = Some entry.item

  -- the next free node after a free one
  abbrev pub follower_of : Cell T → Option ℕ
  follower_of (Free follower) = follower
  follower_of (Taken _) = None

  -- the neighbours of a taken node on its list of a word
  abbrev pub word_link_of : Cell T → Link
  word_link_of (Free _) = None
  word_link_of (Taken entry) = entry.of_word

  -- the neighbours of a taken node on its list of a session
  abbrev pub session_link_of : Cell T → Link
  session_link_of (Free _) = None
  session_link_of (Taken entry) = entry.of_session

  -- the contents of a taken node, with other neighbours in one family
  abbrev pub with_link : NodeContents T → Family → Link → NodeContents T
  with_link entry OfWord to = record entry { of_word = to }
  with_link entry OfSession to = record entry { of_session = to }

  -- the columns of the vector
  abbrev pub columns_of : List (Cell T) → Columns T
  columns_of cells = record {
    items = map item_of cells;
    followers = map follower_of cells;
    of_word = map word_link_of cells;
    of_session = map session_link_of cells;
  }
