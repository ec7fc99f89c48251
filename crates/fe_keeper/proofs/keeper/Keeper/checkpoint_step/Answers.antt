use Rattle.std.proofs.Common.{◌≡◌, ◌∙◌, IsTrue, sym, ap, subst}
use Rattle.std.specs.Prelude.{false, true}
use Rattle.fe_keeper.specs.Ends.{ForDevice}
use Rattle.fe_keeper.specs.Keeper.{KeeperState, has_slices}
use Rattle.fe_keeper.specs.within.Upholds.{kept_of}
use Rattle.fe_keeper.specs.declared.keeper_store.KeeperStore.{KeeperStore}
use Rattle.fe_keeper.proofs.Ends.{device_told, must_be}
use Rattle.fe_keeper.proofs.Taking.{carries_durable, carries_rest}
use Rattle.fe_keeper.proofs.keeper.Keeper.checkpoint_step.Goals as goal

pub returns-in_err-more-clause-ends : goal.returns-in_err-more-clause-ends
returns-in_err-more-clause-ends g c =
    let old = c.args.self.now in
    let inside = c.self.inside in
    let failed = c.in_err-more.ensures.step.ends.outcome in
    let works : inside.store.journal.has_failed ≡ false = sym c.has_failed.ensures ∙ c.if-has_failed.false in
    let must : IsTrue (has_slices (kept_of inside).store.checkpoint) =
    must_be (has_slices (kept_of inside).store.checkpoint)
    (λ none. let same : c.step.new.self.journal.has_failed ≡ inside.store.journal.has_failed = ap (λ (s : KeeperStore g.row.D.Denot). s.journal.has_failed) (c.step.ensures.rests none) in let odd : true ≡ false = sym failed.1.failed ∙ same ∙ works in absurd (cc odd)) in
    let cause : IsTrue (has_slices old.store.checkpoint) = subst (λ (k : KeeperState g.row.D.Denot). IsTrue (has_slices k.store.checkpoint)) c.self.view_is must in
    device_told g.D.Disk (ForDevice (IsTrue (has_slices old.store.checkpoint))) c.from_residual.result c.in_err-more.field-0.0 inside c.step.new.self old c.self.view_is c.from_residual.ensures.1 works failed cause

pub returns-in_err-more-clause-rests : goal.returns-in_err-more-clause-rests
returns-in_err-more-clause-rests g c =
    carries_rest g.D.Disk c.step.result c.self.inside c.step.new.self c.args.self.now c.self.invariant c.self.view_is
    (λ honest kept. c.step.ensures.step.carries honest c.self.inside.state kept tt) c.step.ensures.step.ends.honesty

pub returns-clause-rests : goal.returns-clause-rests
returns-clause-rests g c =
    carries_rest g.D.Disk c.step.result c.self.inside c.step.new.self c.args.self.now c.self.invariant c.self.view_is
    (λ honest kept. c.step.ensures.step.carries honest c.self.inside.state kept tt) c.step.ensures.step.ends.honesty

pub returns-clause-durable : goal.returns-clause-durable
returns-clause-durable g c =
    carries_durable g.D.Disk c.self.inside c.step.new.self c.self.invariant (sym c.has_failed.ensures ∙ c.if-has_failed.false) c.step.ensures.step.ends.honesty
    (λ honest kept. (c.in_ok-more.ensures.step.carries honest c.self.inside.state kept tt).upheld)
