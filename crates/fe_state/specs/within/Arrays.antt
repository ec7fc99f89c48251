-- The set of array ids that is kept beside the table of arrays, to find an id's position fast; and a
-- session's window, the numbers that it may use, in a ring of cells (`docs/model.md`, "The state of the
-- server").
use Rattle.std.specs.Prelude.{◌≡◌, ℕ, ◌+◌, ◌≤◌, zero, suc, ◌%◌, List, length, Option, Some, None}
use Rattle.std.specs.Prelude.{slice_index_or}
use Rattle.std.specs.FinMap.{FinMap, keys, empty, insert}
use Rattle.std.specs.Ordering.{nat_cmp}
use Rattle.indexmap.specs.IndexSet.{IndexSet, index_set_len, spare}
use Rattle.fe_state.specs.Limits.{most_arrays, window_length, greatest_floor}

-- a set that says at which position of the table each id stands, with room for `most_arrays` in all
pub record IsIndex {S X : Type 0} (ids : IndexSet ℕ S) (arrays : FinMap nat_cmp X) : Type 0 where
  -- it has the ids of the arrays, in rising order, which is that of creation
  pub order : ids.keys ≡ keys arrays
  -- it has room for `most_arrays` ids, those it has among them
  pub room : most_arrays ≤ index_set_len ids + spare ids

-- what the cell of a number holds: the one at the number's remainder by the window's length
abbrev pub cell_of : {X : Type 0} → List (Option X) → ℕ → Option X
cell_of cells number = slice_index_or cells (number % window_length) None

-- a map with what a cell holds put at a number
abbrev pub with_cell : {X : Type 0} → FinMap nat_cmp X → ℕ → Option X → FinMap nat_cmp X
with_cell m number None = m
with_cell m number (Some x) = insert m number x

-- what the cells hold for this many numbers from a floor on
unfoldable pub held : {X : Type 0} → List (Option X) → ℕ → ℕ → FinMap nat_cmp X
held cells floor zero = empty
held cells floor (suc n) = with_cell (held cells floor n) (floor + n) (cell_of cells (floor + n))

-- what the cells of a session hold for the numbers of its window
abbrev pub window_of : {X : Type 0} → List (Option X) → ℕ → FinMap nat_cmp X
window_of cells floor = held cells floor window_length

-- a ring: the cells of a session, one for each number of its window, beside a floor from 1 to the greatest
pub record IsRing {X : Type 0} (floor : ℕ) (cells : List (Option X)) : Type 0 where
  pub least : 1 ≤ floor
  pub most : floor ≤ greatest_floor
  pub whole : length cells ≡ window_length
