use Rattle.std.proofs.Common.{List, ℕ, [], ◌∷◌, ◌++◌, refl, ap, ◌∙◌}
use Rattle.fe_memory.specs.Memory.{out_of_memory}
use Rattle.fe_wire.specs.Spelling.{spelling}
use Rattle.fe_desk.specs.declared.step.Step.{Step}
use Rattle.fe_desk.specs.declared.step.Step.TheVariants as step
use Rattle.fe_text.proofs.Results.{then_ok, failed}
use Rattle.fe_schedules.specs.declared.fault.MachineFault.TheVariants as machine
use Rattle.fe_schedules.proofs.Moving.{moves_both, calm_disk}
use Rattle.fe_schedules.proofs.machine.Machine.receive.Goals as goal

pub returns-in-Bytes-clause-acts : goal.returns-in-Bytes-clause-acts
returns-in-Bytes-clause-acts c =
    let first : Step = step.Connect c.args.conn in
    let frame : Step = step.Bytes c.args.conn c.put_message.new.out in
    then_ok c.step-outcome.result
    (λ t. record {
      machine = record { ready = t.machine.ready; lost = t.machine.lost };
      mid = c.args.self.now.desk;
      begins = refl;
      steps = first ∷ frame ∷ [];
      are = (frame, (refl, c.in_ok-put_message.ensures.ok ∙ ap (λ (t : List ℕ). t ++ spelling c.args.message.now) c.clear.ensures.items), refl);
      moves = moves_both c.args.self.now.desk c.step.new.self.desk c.step-outcome.new.self.desk (first ∷ []) (frame ∷ []) c.in_ok-step.ensures.moved.moves t.moves;
    })
    c.step-outcome.ensures.moved

pub returns-in_err-put_message-clause-fault : goal.returns-in_err-put_message-clause-fault
returns-in_err-put_message-clause-fault c =
    rw (failed c.from_residual-in_err-put_message.result (machine.Memory out_of_memory) c.from_residual-in_err-put_message.ensures.1) (calm_disk c.step.new.self c.in_ok-step.ensures.moved.machine)
