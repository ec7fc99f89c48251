use Rattle.std.proofs.Common.{◌≡◌, Some}
use Rattle.std.specs.FinMap as map
use Rattle.test_calls.proofs.waits.empty.Given as goal

abbrev pub invariant-loop-slot : goal.invariant-loop-slot
invariant-loop-slot g l = map.get l.waits.arrays 1 ≡ Some 8

abbrev pub invariant-loop-index : goal.invariant-loop-index
invariant-loop-index g l = map.get l.waits.arrays 1 ≡ Some 8
