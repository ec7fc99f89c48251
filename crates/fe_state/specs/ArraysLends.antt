-- What the arrays are once a `&mut` to one of them has ended (`docs/model.md`, "The state of the server").
use Rattle.std.specs.Prelude.{ℕ}
use Rattle.std.specs.Borrow.{Fml, MutBor, Lends}
use Rattle.std.specs.FinMap.{FinMap, insert}
use Rattle.std.specs.Ordering.{nat_cmp}
use Rattle.fe_state.specs.declared.array.Array.{Array}
use Rattle.fe_state.specs.contracts.array.Array.{the_row as array_row}
use Rattle.fe_state.specs.contracts.arrays.Arrays.{the_row}

-- the id has the array that r ends with, and every other id keeps its array
abbrev pub lends_array : MutBor (FinMap nat_cmp Array) → ℕ → MutBor Array → Fml
lends_array arrays id r = Lends the_row array_row arrays r (insert arrays.now id)
