use Rattle.std.proofs.Common.{◌≡◌, ◌%◌, ◌∙◌, sym, rules, arith, None, get_or}
use Rattle.std.specs.FinMap.{get}
use Rattle.std.proofs.lemmas.List.{get_or_default}
use Rattle.fe_state.proofs.SessionLemmas.{kept_inside, kept_outside, kept_in_window, kept_few}
use Rattle.fe_state.proofs.session.Session.kept.Goals as goal

pub returns-then-is_in_window-clause-kept : goal.returns-then-is_in_window-clause-kept
returns-then-is_in_window-clause-kept c =
    let cell : get_or c.self.inside.cells c.cell_of.result c.index-self-cell_of.result ≡ get c.args.self.now.kept c.args.number =
    rw c.cell_of.ensures
    (get_or_default c.self.inside.cells (c.args.number % 32) _ None (omega arith)
    ∙ sym (kept_inside c.self.inside.cells c.self.inside.floor _ c.self.view_is c.args.number (search rules))) in
    c.as_ref.ensures.value ∙ cell

pub returns-else-is_in_window-clause-kept : goal.returns-else-is_in_window-clause-kept
returns-else-is_in_window-clause-kept c =
    sym (kept_outside c.self.inside.cells c.self.inside.floor _ c.self.view_is c.args.number (search rules))

pub returns-then-is_in_window-clause-in_window : goal.returns-then-is_in_window-clause-in_window
returns-then-is_in_window-clause-in_window c = kept_in_window c.self.inside.cells c.self.inside.floor _ c.self.view_is

pub returns-else-is_in_window-clause-in_window : goal.returns-else-is_in_window-clause-in_window
returns-else-is_in_window-clause-in_window c = kept_in_window c.self.inside.cells c.self.inside.floor _ c.self.view_is

pub returns-then-is_in_window-clause-few : goal.returns-then-is_in_window-clause-few
returns-then-is_in_window-clause-few c = kept_few c.self.inside.cells c.self.inside.floor _ c.self.view_is

pub returns-else-is_in_window-clause-few : goal.returns-else-is_in_window-clause-few
returns-else-is_in_window-clause-few c = kept_few c.self.inside.cells c.self.inside.floor _ c.self.view_is
