use Rattle.std.proofs.Common.{sym, ap, ◌∙◌, arith}
use Rattle.std.specs.FinMap.{entries}
use Rattle.fe_state.specs.Sessions.{Session}
use Rattle.fe_state.proofs.AnswerLemmas.{from_absent, from_present, from_beyond}
use Rattle.fe_state.proofs.SessionLemmas.{kept_in_window}
use Rattle.fe_state.proofs.session.Session.first_kept.Goals as goal

pub returns-in-Some-clause-first : goal.returns-in-Some-clause-first
returns-in-Some-clause-first c =
    ap entries c.loop-number.invariant ∙ from_present c.args.self.now.kept c.loop-number.number _ (sym c.in-Some.ensures.kept)

pub loop-number-preserved : goal.loop-number-preserved
loop-number-preserved c =
    c.loop-number.invariant ∙ from_absent c.args.self.now.kept c.loop-number.number (sym c.in_default.ensures.kept)

pub returns-clause-none : goal.returns-clause-none
returns-clause-none c =
    let from = ap (λ (x : Session). x.floor) c.self.view_is in
    ap entries c.loop-number.invariant
    ∙ from_beyond c.args.self.now c.loop-number.number (omega (arith, from)) (kept_in_window c.self.inside.cells c.self.inside.floor _ c.self.view_is)
