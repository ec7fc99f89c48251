-- How the neighbours of the nodes represent the lists, and how all lists are read from them. No public clause
-- cites this module (`docs/model.md`, "Waiting requests").
use Rattle.std.specs.Prelude.{◌≡◌, ℕ, zero, suc, ◌<◌, ◌^◌, ◌⊎◌, List, [], ◌∷◌, length, map, Option, Some}
use Rattle.std.specs.Prelude.{None, slice_index_or, slice_set}
use Rattle.std.specs.List.{range_with_len}
use Rattle.fe_pool.specs.declared.neighbours.Neighbours.{Neighbours}
use Rattle.fe_pool.specs.Pool.{Contents, first_or}
use Rattle.fe_pool.specs.Columns.{Link, Columns, link_at, IsLoose}

-- the node is in the list
abbrev pub IsNodeAmong : ℕ → List ℕ → Type 0
IsNodeAmong node [] = ⊥
IsNodeAmong node (x ∷ xs) = (node ≡ x) ⊎ IsNodeAmong node xs

-- no node is in the list twice
abbrev pub AllDifferent : List ℕ → Type 0
AllDifferent [] = Unit {0}
AllDifferent (x ∷ xs) = (IsNodeAmong x xs → ⊥) × AllDifferent xs

abbrev pub previous_of : Link → Option ℕ
previous_of None = None
previous_of (Some neighbours) = neighbours.previous

abbrev pub next_of : Link → Option ℕ
next_of None = None
next_of (Some neighbours) = neighbours.next

-- the neighbours of each node of the list are those the list gives it, between `before` and `after`
abbrev pub IsNodeRun : List Link → Option ℕ → List ℕ → Option ℕ → Type 0
IsNodeRun links before [] after = Unit {0}
IsNodeRun links before (node ∷ nodes) after =
    (link_at links node ≡ Some (record { previous = before; next = first_or after nodes }))
    × IsNodeRun links (Some node) nodes after

-- the list is complete: nothing comes before it or after it
abbrev pub IsWholeRun : List Link → List ℕ → Type 0
IsWholeRun links nodes = IsNodeRun links None nodes None

-- each node that has neighbours is on a complete list
abbrev pub AllListed : List Link → Type 0
AllListed links = (node : ℕ) (neighbours : Neighbours) → link_at links node ≡ Some neighbours
    → (nodes : List ℕ) × IsWholeRun links nodes × IsNodeAmong node nodes

-- the nodes that follow one another from a node on, up to a maximum number
abbrev pub run_from : List Link → ℕ → Option ℕ → List ℕ
run_from links zero at = []
run_from links (suc steps) None = []
run_from links (suc steps) (Some node) = node ∷ run_from links steps (next_of (link_at links node))

-- the list from the node on, if nothing comes before the node
abbrev pub list_after : List Link → ℕ → Option ℕ → List ℕ
list_after links node None = run_from links (length links) (Some node)
list_after links node (Some _) = []

-- the list that begins at a node with these neighbours, empty if none does
abbrev pub list_begun : List Link → ℕ → Link → List ℕ
list_begun links node None = []
list_begun links node (Some neighbours) = list_after links node neighbours.previous

-- the lists that the neighbours form, each at its first node
unfoldable pub lists : List Link → List (List ℕ)
lists links =
    map (λ node. list_begun links node (link_at links node)) (range_with_len 0 (length links))

-- the neighbours with `next` as the successor of the node `at`, if there is such a node
abbrev pub with_next : List Link → Option ℕ → Option ℕ → List Link
with_next links None next = links
with_next links (Some at) next =
    slice_set links at (Some (record { previous = previous_of (link_at links at); next = next }))

-- the neighbours with `previous` as the predecessor of the node `at`, if there is such a node
abbrev pub with_previous : List Link → Option ℕ → Option ℕ → List Link
with_previous links None previous = links
with_previous links (Some at) previous =
    slice_set links at (Some (record { previous = previous; next = next_of (link_at links at) }))

-- these are the free nodes from `first` on
abbrev pub IsFreeRun : List (Option ℕ) → Option ℕ → List ℕ → Type 0
IsFreeRun followers first [] = first ≡ None
IsFreeRun followers first (node ∷ nodes) =
    (first ≡ Some node) × IsFreeRun followers (slice_index_or followers node None) nodes

-- the columns as a contract sees them
abbrev pub contents : {T : Type 0} → Columns T → Contents T
contents c = record { items = c.items; of_word = lists c.of_word; of_session = lists c.of_session }

-- the invariant of every pool: there are fewer than 2^32 nodes, all columns have one length, the free nodes
-- from `first_free` on are exactly those without an item, each once, a free node is on no list, and each node
-- that has neighbours is on a list that agrees with them
pub record IsPool {T : Type 0} (c : Columns T) (first_free : Option ℕ) : Type 0 where
  pub fits : length c.items < 2 ^ 32
  pub followers_length : length c.followers ≡ length c.items
  pub of_word_length : length c.of_word ≡ length c.items
  pub of_session_length : length c.of_session ≡ length c.items
  pub free : List ℕ
  pub free_linked : IsFreeRun c.followers first_free free
  pub free_different : AllDifferent free
  pub free_listed : (node : ℕ) → node < length c.items → slice_index_or c.items node None ≡ None
      → IsNodeAmong node free
  pub free_empty : (node : ℕ) → IsNodeAmong node free
      → (node < length c.items) × (slice_index_or c.items node None ≡ None)
  pub loose : (node : ℕ) → slice_index_or c.items node None ≡ None → IsLoose c node
  pub words : AllListed c.of_word
  pub sessions : AllListed c.of_session
