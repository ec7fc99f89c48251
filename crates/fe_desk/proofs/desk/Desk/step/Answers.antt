use Rattle.std.proofs.Common.{◌≡◌, true, true≢false, Result, Ok, Err, OnOk, sym, subst, ◌∙◌}
use Rattle.std.specs.Prelude.{is_ok}
use Rattle.fe_desk.specs.Crash.{DeskState}
use Rattle.fe_desk.specs.Messages.{outputs}
use Rattle.fe_desk.specs.Runs.{IsStep}
use Rattle.fe_desk.specs.within.Desk.{desk_of, run_state_of}
use Rattle.fe_messages.proofs.Answers.{keeps_below}
use Rattle.fe_desk.proofs.Answering.{step_acknowledged}
use Rattle.fe_desk.proofs.Silence.{widest}
use Rattle.fe_desk.proofs.desk.Desk.step.Goals as goal

of_ok : {T E P : Type 0} (r : Result T E) → is_ok r ≡ true → OnOk r P → P
of_ok (Ok x) is p = p
of_ok (Err e) is p = absurd (true≢false (sym is))

pub invariant_of-self : goal.invariant_of-self
invariant_of-self g c = (c.step-outcome.ensures.desk, λ quiet. of_ok c.step-outcome.result (sym c.is_ok-self-inside.ensures.value ∙ quiet) c.step-outcome.ensures.quiet, widest 0 (outputs (run_state_of c.step-outcome.new.self)) c.add_all.new.self c.add_all.ensures, c.step-outcome.ensures.places)

pub returns-then-is_err-clause-acknowledged : goal.returns-then-is_err-clause-acknowledged
returns-then-is_err-clause-acknowledged g c = λ begun asked limits asks is.
    step_acknowledged begun asked (keeps_below begun limits) g.D.Disk c.args.self.now c.args.step.now c.step-outcome.result (desk_of c.step-outcome.new.self) asks
    (subst (λ (d : DeskState g.row.D.Denot). IsStep g.D.Disk d c.args.step.now c.step-outcome.result (desk_of c.step-outcome.new.self)) c.self.view_is c.step-outcome.ensures.is_step) is

pub returns-else-is_err-clause-acknowledged : goal.returns-else-is_err-clause-acknowledged
returns-else-is_err-clause-acknowledged g c = λ begun asked limits asks is.
    step_acknowledged begun asked (keeps_below begun limits) g.D.Disk c.args.self.now c.args.step.now c.step-outcome.result (desk_of c.step-outcome.new.self) asks
    (subst (λ (d : DeskState g.row.D.Denot). IsStep g.D.Disk d c.args.step.now c.step-outcome.result (desk_of c.step-outcome.new.self)) c.self.view_is c.step-outcome.ensures.is_step) is
