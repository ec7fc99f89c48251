use Rattle.std.proofs.Common.{ℕ, arith}
use Rattle.std.specs.Ordering.{nat_cmp}
use Rattle.std.specs.FinMap.{get-empty, len-empty}
use Rattle.fe_waits.proofs.WordLemmas.{get-insert_here}
use Rattle.test_calls.proofs.waits.new_waits.Goals as goal

pub add_array-requires-clause-new : goal.add_array-requires-clause-new
add_array-requires-clause-new c = rw c.in_ok-waits.ensures.arrays (get-empty nat_cmp 1)

pub add_array-requires-clause-room : goal.add_array-requires-clause-room
add_array-requires-clause-room c = rw (c.in_ok-waits.ensures.arrays, len-empty nat_cmp ℕ) (omega arith)

pub returns-in-Ok : goal.returns-in-Ok
returns-in-Ok c = rw c.in-Ok.ensures.ok.arrays (get-insert_here _ 1 8)
