use Rattle.std.proofs.Common.{sym, ap, subst, ◌∙◌}
use Rattle.fe_desk.specs.Crash.{DeskState}
use Rattle.fe_desk.specs.declared.desk_inner.DeskInner.{DeskInner}
use Rattle.fe_desk.specs.within.Desk.{desk_of, run_state_of, Stays}
use Rattle.fe_desk.proofs.Connecting.{goes, gone_stays}
use Rattle.fe_desk.proofs.desk_inner.DeskInner.leave.Goals as goal

pub returns-clause-gone : goal.returns-clause-gone
returns-clause-gone g c =
    ap (λ (p : DeskInner g.row.D.Denot). run_state_of p) c.unmake.ensures ∙ goes (run_state_of c.args.self.now) _ _ c.args.conn c.gone.ensures.dropped c.forget.ensures

pub returns-clause-stays : goal.returns-clause-stays
returns-clause-stays g c =
    let old = c.args.self.now in
    subst (λ (d : DeskState g.row.D.Denot). Stays g.D.Disk (desk_of old) d) (sym (ap (λ (p : DeskInner g.row.D.Denot). desk_of p) c.unmake.ensures))
    (gone_stays g.D.Disk (run_state_of old) old.keeper old.trace.synced _ _ c.args.conn c.gone.ensures.dropped c.forget.ensures)
