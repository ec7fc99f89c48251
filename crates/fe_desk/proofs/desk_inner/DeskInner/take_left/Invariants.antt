use Rattle.std.proofs.Common.{length}
use Rattle.fe_desk.specs.Messages.{left_of}
use Rattle.fe_desk.specs.within.Desk.{desk_of, run_state_of}
use Rattle.fe_desk.proofs.Leftovers.{Going}
use Rattle.fe_desk.proofs.desk_inner.DeskInner.take_left.Given as goal

abbrev pub invariant-loop-self : goal.invariant-loop-self
invariant-loop-self g l =
    Going g.D.Disk l.conn l.at (desk_of l.initial.self) (desk_of l.self)

abbrev pub decreases-loop-self : goal.decreases-loop-self
decreases-loop-self g l = length (left_of (run_state_of l.self) l.conn)
