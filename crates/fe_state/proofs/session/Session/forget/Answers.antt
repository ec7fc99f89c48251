use Rattle.std.proofs.Common.{ap, rules}
use Rattle.std.specs.Ordering.{nat_cmp}
use Rattle.std.specs.FinMap.{FinMap}
use Rattle.fe_state.specs.declared.kept.Kept.{Kept}
use Rattle.fe_state.specs.Sessions.{Session}
use Rattle.fe_state.proofs.SessionLemmas.{kept_remove, kept_outside}
use Rattle.fe_table.proofs.TableLemmas.{remove_absent}
use Rattle.fe_state.proofs.session.Session.forget.Goals as goal

pub returns-then-is_in_window : goal.returns-then-is_in_window
returns-then-is_in_window c =
    rw c.cell_of.ensures
    (kept_remove c.self.inside.cells c.self.inside.floor _ c.self.view_is c.args.number c.self.invariant.whole (search rules))

pub returns-else-is_in_window : goal.returns-else-is_in_window
returns-else-is_in_window c =
    ap (λ (m : FinMap nat_cmp Kept). let t : Session = record { floor = c.args.self.now.floor; kept = m } in t)
    (remove_absent _ c.args.number (kept_outside c.self.inside.cells c.self.inside.floor _ c.self.view_is c.args.number (search rules)))
