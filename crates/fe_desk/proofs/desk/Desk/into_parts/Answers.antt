use Rattle.std.proofs.Common.{ℕ, List, subst}
use Rattle.fe_state.specs.State.{ServerState}
use Rattle.fe_keeper.specs.Stands.{LeavesPrefix}
use Rattle.fe_desk.specs.Crash.{DeskState, IsFrom, disk_of}
use Rattle.fe_desk.specs.Runs.{IsTraceOf}
use Rattle.fe_desk.proofs.Openings.{is_trace}
use Rattle.fe_desk.proofs.desk.Desk.into_parts.Goals as goal

pub returns-clause-trace : goal.returns-clause-trace
returns-clause-trace g c =
    subst (λ (d : DeskState g.row.D.Denot). IsTraceOf c.self.inside.inner.trace d.run_state d.synced) c.self.view_is (is_trace c.self.inside.inner)

pub returns-clause-stands : goal.returns-clause-stands
returns-clause-stands g c =
    subst
    (λ (d : DeskState g.row.D.Denot).
    g.D.Disk.honest (disk_of d) → (begun : ServerState) → IsFrom begun d → (image : List ℕ) → g.D.Disk.may_leave (disk_of d) image → LeavesPrefix begun d.run_state.groups d.synced image)
    c.self.view_is c.self.invariant.0.upheld
