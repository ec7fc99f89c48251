use Rattle.std.proofs.Common.{Option, subst, rules}
use Rattle.fe_keeper.specs.within.Ends.{Always, IsImageOf, IsImageIfSome}
use Rattle.fe_keeper.specs.declared.checkpoint.Checkpoint.{Checkpoint}
use Rattle.fe_keeper.proofs.Ends.{passed_step, step_by, then_step}
use Rattle.fe_keeper.proofs.Taking.{none_left}
use Rattle.fe_keeper.proofs.keeper_store.KeeperStore.make_room.Goals as goal

pub returns-then-fits-clause-step : goal.returns-then-fits-clause-step
returns-then-fits-clause-step g c = record {
  stays = search rules;
  ends = search rules;
  carries = λ honest s upholds image. record {
    any_moment = none_left g.D.Disk c.args.self.now s (λ i left. g.met.D.Disk.only_now c.args.self.now.journal.disk i honest left) upholds;
    upheld = upholds;
  };
}

pub returns-in_default-clause-step : goal.returns-in_default-clause-step
returns-in_default-clause-step g c = step_by g.D.Disk Always (IsImageIfSome c.args.whole) c.finish.result c.args.self.now c.finish.new.self (λ s needs. tt) c.finish.ensures.step

pub returns-then-is_none-clause-step : goal.returns-then-is_none-clause-step
returns-then-is_none-clause-step g c =
    step_by g.D.Disk (IsImageOf c.in-Some.whole) (IsImageIfSome c.args.whole) c.renew.result c.args.self.now c.renew.new.self (λ s image. subst (λ (o : Option Checkpoint). IsImageIfSome o s) c.in-Some.is image) c.renew.ensures.step

pub returns-in_err-finish-clause-step : goal.returns-in_err-finish-clause-step
returns-in_err-finish-clause-step g c =
    passed_step g.D.Disk Always (IsImageIfSome c.args.whole) c.from_residual.result c.in_err-finish.field-0.0 c.args.self.now c.finish-2.new.self c.from_residual.ensures.1 (λ s needs. tt) c.in_err-finish.ensures.step

pub returns-clause-step : goal.returns-clause-step
returns-clause-step g c =
    then_step g.D.Disk Always (IsImageOf c.in-Some.whole) (IsImageIfSome c.args.whole) _ c.renew-2.result c.args.self.now c.finish-2.new.self c.renew-2.new.self (λ s needs. tt)
    (λ s image. subst (λ (o : Option Checkpoint). IsImageIfSome o s) c.in-Some.is image) c.in_ok-finish.ensures.step c.renew-2.ensures.step
