use Rattle.std.proofs.Common.{◌≡◌, Some}
use Rattle.std.specs.FinMap as map
use Rattle.test_calls.proofs.waits.finish.Given as goal

abbrev pub invariant-loop : goal.invariant-loop
invariant-loop g l = map.get l.waits.arrays 1 ≡ Some 8
