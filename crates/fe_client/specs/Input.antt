-- What is read of a conversation's input, and what is taken of it line by line (`docs/commands.md`,
-- "Commands").
use Rattle.std.specs.Prelude.{◌≡◌, ◌≢◌, ◌⊎◌, ℕ, ◌-◌, Bool, true, false, List, [], ◌∷◌, ◌++◌, take, drop}
use Rattle.fe_text.specs.Line.{HasNoFeed}
use Rattle.fe_client.specs.declared.fault.CallFault.{CallFault}
use Rattle.fe_client.specs.Events.{Event}
use Rattle.fe_client.specs.Conversation.{Conversation}
use Rattle.fe_client.specs.Ends.{Cause, Unread}
use Rattle.fe_client.specs.declared.input.Input.{Input}

-- the bytes that were read and are not taken
abbrev pub kept_of : Input → List ℕ
kept_of i = take (i.end - i.next) (drop i.next i.piece.items)

-- what one read does if nothing was kept: it was interrupted, or these bytes are kept now, or the input has
-- ended
abbrev pub Fills : Bool → List ℕ → List Event → Type 0
Fills true kept events = ((kept ≡ []) × (events ≡ [])) ⊎ ((kept ≢ []) × (events ≡ Event.Read kept ∷ []))
Fills false kept events = events ≡ Event.Read [] ∷ []

-- This line, which a line feed ends, is the first of what was read and not taken. `left` follows it, and no
-- line was taken meanwhile.
pub record TakesFed {S : Type 0} (leads : S → List Event → S → Type 0) (before after : S)
    (kept left line : List ℕ) : Type 0 where
  pub so : List Event
  pub talk : Conversation kept 0 so (line ++ 10 ∷ left)
  pub no_feed : HasNoFeed line
  pub happened : leads before so after

-- This line is all that was left, and has no line feed.
pub record TakesLast {S : Type 0} (leads : S → List Event → S → Type 0) (before after : S)
    (kept line : List ℕ) : Type 0 where
  pub so : List Event
  pub talk : Conversation kept 0 so line
  pub no_feed : HasNoFeed line
  pub happened : leads before (so ++ (Event.Read [] ∷ [])) after

-- The first line, which has that number, is not taken.
pub record NotTaken {S : Type 0} (leads : S → List Event → S → Type 0) (end : CallFault)
    (because : Cause → Type 0) (number : ℕ) (before after : S) (kept : List ℕ) : Type 0 where
  pub so : List Event
  pub left : List ℕ
  pub talk : Conversation kept 0 so left
  pub why : Unread end because number left
  pub happened : leads before so after
