use Rattle.std.proofs.Common.{◌≡◌}
use Rattle.test_calls.proofs.waits.cancel_each.Given as goal

abbrev pub invariant-loop-slot : goal.invariant-loop-slot
invariant-loop-slot g l = l.waits.arrays ≡ l.fn.waits.arrays
