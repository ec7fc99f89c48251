use Rattle.std.proofs.Common.{◌≡◌}
use Rattle.fe_waits.specs.Waiting.{count_of, without_slot}
use Rattle.fe_waits.proofs.waits.Waits.drop_session.Given as goal

abbrev pub invariant-loop-node : goal.invariant-loop-node
invariant-loop-node l = record {
  others : without_slot l.self.members l.slot ≡ without_slot l.fn.self.members l.slot;
  arrays : l.self.arrays ≡ l.fn.self.arrays;
}

abbrev pub decreases-loop-node : goal.decreases-loop-node
decreases-loop-node l = count_of l.self.members l.slot
