use Rattle.std.proofs.Common.{◌∙◌, IsTrue, sym, rules}
use Rattle.std.specs.Prelude.{is_some}
use Rattle.fe_keeper.specs.Ends.{ForDevice}
use Rattle.fe_keeper.proofs.Ends.{device_told}
use Rattle.fe_keeper.proofs.Taking.{carries_durable, carries_rest}
use Rattle.fe_keeper.proofs.keeper.Keeper.checkpoint_finish.Goals as goal

pub returns-in_err-finish-clause-ends : goal.returns-in_err-finish-clause-ends
returns-in_err-finish-clause-ends g c =
    let old = c.args.self.now in
    let cause : IsTrue (is_some old.store.checkpoint) = search rules in
    device_told g.D.Disk (ForDevice (IsTrue (is_some old.store.checkpoint))) c.from_residual.result c.in_err-finish.field-0.0 c.self.inside c.finish.new.self old c.self.view_is c.from_residual.ensures.1
    (sym c.has_failed.ensures ∙ c.if-has_failed.false) c.in_err-finish.ensures.step.ends.outcome cause

pub returns-in_err-finish-clause-rests : goal.returns-in_err-finish-clause-rests
returns-in_err-finish-clause-rests g c =
    carries_rest g.D.Disk c.finish.result c.self.inside c.finish.new.self c.args.self.now c.self.invariant c.self.view_is
    (λ honest kept. c.finish.ensures.step.carries honest c.self.inside.state kept tt) c.finish.ensures.step.ends.honesty

pub returns-clause-rests : goal.returns-clause-rests
returns-clause-rests g c =
    carries_rest g.D.Disk c.finish.result c.self.inside c.finish.new.self c.args.self.now c.self.invariant c.self.view_is
    (λ honest kept. c.finish.ensures.step.carries honest c.self.inside.state kept tt) c.finish.ensures.step.ends.honesty

pub returns-clause-durable : goal.returns-clause-durable
returns-clause-durable g c =
    carries_durable g.D.Disk c.self.inside c.finish.new.self c.self.invariant (sym c.has_failed.ensures ∙ c.if-has_failed.false) c.finish.ensures.step.ends.honesty
    (λ honest kept. (c.in_ok-finish.ensures.step.carries honest c.self.inside.state kept tt).upheld)
