use Rattle.std.proofs.Common.{◌-◌, length}
use Rattle.fe_desk.proofs.Silence.{AreClearedTo}
use Rattle.fe_desk.proofs.trace.clear_each.Given as goal

abbrev pub invariant-loop-at : goal.invariant-loop-at
invariant-loop-at l = AreClearedTo l.fn.ports.items l.ports.items l.written l.at

abbrev pub decreases-loop-at : goal.decreases-loop-at
decreases-loop-at l = length l.ports.items - l.at
