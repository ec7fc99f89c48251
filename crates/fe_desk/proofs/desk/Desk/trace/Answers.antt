use Rattle.std.proofs.Common.{subst}
use Rattle.fe_desk.specs.Crash.{DeskState}
use Rattle.fe_desk.specs.Runs.{IsTraceOf}
use Rattle.fe_desk.proofs.Openings.{is_trace}
use Rattle.fe_desk.proofs.desk.Desk.trace.Goals as goal

pub returns : goal.returns
returns g c =
    subst (λ (d : DeskState g.row.D.Denot). IsTraceOf c.self.inside.inner.trace d.run_state d.synced) c.self.view_is (is_trace c.self.inside.inner)
