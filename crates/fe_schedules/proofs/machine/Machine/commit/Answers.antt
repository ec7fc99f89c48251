use Rattle.std.proofs.Common.{Bool, [], ◌∷◌, sym, subst}
use Rattle.fe_desk.specs.declared.step.Step.TheVariants as step
use Rattle.fe_schedules.specs.Runs.{TakesSteps}
use Rattle.fe_schedules.specs.Schedule.{endings}
use Rattle.fe_text.proofs.Results.{then_ok}
use Rattle.fe_schedules.proofs.Moving.{moves_none, takes_both}
use Rattle.fe_schedules.proofs.machine.Machine.commit.Goals as goal

pub returns-then-is_holding-clause-moved : goal.returns-then-is_holding-clause-moved
returns-then-is_holding-clause-moved c =
    let m = c.args.self.now in
    subst (λ (b : Bool). TakesSteps m (endings b) m) (sym c.if-is_holding.true) (record { machine = c.requires; moves = moves_none m.desk })

pub returns-clause-moved : goal.returns-clause-moved
returns-clause-moved c =
    let m = c.args.self.now in
    let n = c.step-3.new.self in
    let two = takes_both m c.step.new.self c.step-2.new.self (step.Cut ∷ []) (step.Append ∷ []) c.in_ok-step.ensures.moved c.in_ok-step-2.ensures.moved in
    then_ok c.step-3.result
    (λ t. subst (λ (b : Bool). TakesSteps m (endings b) n) (sym c.if-is_holding.false) (takes_both m c.step-2.new.self n (step.Cut ∷ step.Append ∷ []) (step.Post ∷ []) two t))
    c.step-3.ensures.moved
