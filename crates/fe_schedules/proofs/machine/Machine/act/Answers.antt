use Rattle.std.proofs.Common.{[], ◌∷◌, rules}
use Rattle.fe_desk.specs.declared.step.Step.TheVariants as step
use Rattle.fe_text.proofs.Results.{then_ok}
use Rattle.fe_schedules.proofs.Moving.{held, flushed, went, checked, takes_both}
use Rattle.fe_schedules.proofs.machine.Machine.act.Goals as goal

pub returns-in-Gone-clause-acts : goal.returns-in-Gone-clause-acts
returns-in-Gone-clause-acts c =
    then_ok c.step.result (went c.args.self.now c.step.new.self c.args.line.now c.in-Gone.conn (search rules)) c.step.ensures.moved

pub returns-in-Hold-clause-acts : goal.returns-in-Hold-clause-acts
returns-in-Hold-clause-acts c = held c.args.self.now c.args.line.now c.requires.machine (search rules)

pub returns-in-Hold-2-clause-acts : goal.returns-in-Hold-2-clause-acts
returns-in-Hold-2-clause-acts c = flushed c.args.self.now c.args.line.now c.requires.machine (search rules)

pub returns-in_ok-step-in-Check-clause-acts : goal.returns-in_ok-step-in-Check-clause-acts
returns-in_ok-step-in-Check-clause-acts c =
    let m = c.args.self.now in
    let u = c.step-in-Check.new.self in
    let n = c.step-in-Check-2.new.self in
    then_ok c.step-in-Check-2.result
    (λ t. checked m n c.args.line.now (search rules) (takes_both m u n (step.CheckBegin ∷ []) (step.CheckFinish ∷ []) c.in_ok-step-in-Check.ensures.moved t))
    c.step-in-Check-2.ensures.moved
