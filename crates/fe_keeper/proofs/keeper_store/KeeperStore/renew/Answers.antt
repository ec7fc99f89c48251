use Rattle.fe_keeper.specs.within.Ends.{Always, IsImageOf}
use Rattle.fe_keeper.proofs.Ends.{passed_step, then_step}
use Rattle.fe_keeper.proofs.keeper_store.KeeperStore.renew.Goals as goal

pub returns-in_err-begin-clause-step : goal.returns-in_err-begin-clause-step
returns-in_err-begin-clause-step g c =
    passed_step g.D.Disk (IsImageOf c.args.whole) (IsImageOf c.args.whole) c.from_residual.result c.in_err-begin.field-0.0 c.args.self.now c.begin.new.self c.from_residual.ensures.1 (λ s needs. needs) c.in_err-begin.ensures.step

pub returns-clause-step : goal.returns-clause-step
returns-clause-step g c =
    then_step g.D.Disk (IsImageOf c.args.whole) Always (IsImageOf c.args.whole) _ c.finish.result c.args.self.now c.begin.new.self c.finish.new.self (λ s needs. needs) (λ s needs. tt) c.in_ok-begin.ensures.step c.finish.ensures.step
