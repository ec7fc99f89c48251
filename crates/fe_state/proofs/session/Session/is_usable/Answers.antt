use Rattle.std.proofs.Common.{◌%◌, ◌∙◌, None, sym, rules, arith}
use Rattle.std.proofs.lemmas.List.{get_or_default}
use Rattle.fe_state.proofs.SessionLemmas.{kept_inside, usable_when}
use Rattle.fe_state.proofs.session.Session.is_usable.Goals as goal

pub returns-then-is_in_window : goal.returns-then-is_in_window
returns-then-is_in_window c =
    let there = kept_inside c.self.inside.cells c.self.inside.floor _ c.self.view_is c.args.number (search rules)
    ∙ sym (get_or_default c.self.inside.cells (c.args.number % 32) c.index-self-cell_of.result None (omega arith)) in
    usable_when c.args.self.now c.args.number c.is_none.result _ (search rules) there (rw c.cell_of.ensures at c.is_none.ensures)
