-- A table: a finite map, stored as the list of its keys in ascending order and the list of their values.
use Rattle.std.specs.Prelude.{◌≡◌, ℕ, ◌<◌, ◌≤◌, List, length, slice_get, slice_index_or, T}
use Rattle.std.specs.List.{zip}
use Rattle.std.specs.Ordering.{nat_cmp}
use Rattle.std.specs.FinMap.{FinMap, is_sorted, insert, entries}
use Rattle.std.specs.Option.{option_map_or}
use Rattle.std.specs.Borrow.{Bor}

-- an entry whose value is seen through a reference
abbrev pub shown_entry : {X : Type 0} → ℕ × Bor X → ℕ × X
shown_entry e = (e.0, e.1.now)

-- the map with another value for the key at a position of the ascending order, or the same map if it has no
-- such position
abbrev pub put_at : {X : Type 0} → FinMap nat_cmp X → ℕ → X → FinMap nat_cmp X
put_at m position x = option_map_or (λ e. insert m e.0 x) (slice_get (entries m) position) m

-- the invariant of a table with this room, whose vectors have these capacities
pub record IsTable {X : Type 0} (room : ℕ) (keys : List ℕ) (values : List X)
    (key_capacity value_capacity : ℕ) : Type 0 where
  -- the keys ascend, so no two are equal
  pub ascending : T (is_sorted nat_cmp (zip keys values))
  -- each key has a value
  pub paired : length values ≡ length keys
  -- there are at most `room` keys
  pub few : length keys ≤ room
  -- the memory for `room` keys and values is reserved
  pub keys_reserved : room ≤ key_capacity
  pub values_reserved : room ≤ value_capacity

-- the entry at this position has the key
pub record IsAt {X : Type 0} (entries : List (ℕ × X)) (key position : ℕ) : Type 0 where
  pub in_range : position < length entries
  pub has_key : (e : ℕ × X) → (slice_index_or entries position e).0 ≡ key

-- the key belongs at this position: the keys before it are smaller, and those from it on are greater
pub record IsGapFor {X : Type 0} (entries : List (ℕ × X)) (key position : ℕ) : Type 0 where
  pub in_range : position ≤ length entries
  pub smaller_before : (i : ℕ) (e : ℕ × X) → i < position → (slice_index_or entries i e).0 < key
  pub greater_after : (i : ℕ) (e : ℕ × X) → position ≤ i → i < length entries
      → key < (slice_index_or entries i e).0
