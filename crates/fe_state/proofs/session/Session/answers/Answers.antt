use Rattle.std.proofs.Common.{sym, ap, ◌∙◌, arith}
use Rattle.std.specs.FinMap.{len}
use Rattle.fe_state.proofs.SessionLemmas.{kept_from_floor, kept_few}
use Rattle.fe_state.proofs.session.Session.answers.Goals as goal

pub starting-requires-clause-few : goal.starting-requires-clause-few
starting-requires-clause-few c =
    let all = ap len (kept_from_floor c.self.inside.cells c.self.inside.floor _ c.self.view_is) in
    omega (arith, all, kept_few c.self.inside.cells c.self.inside.floor _ c.self.view_is)

pub returns : goal.returns
returns c = c.starting.ensures ∙ sym (kept_from_floor c.self.inside.cells c.self.inside.floor _ c.self.view_is)
