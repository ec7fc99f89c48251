use Rattle.std.proofs.Common.{false, refl, sym, rules}
use Rattle.fe_state.specs.State.{first_state}
use Rattle.fe_schedules.specs.Schedule.{Stage}
use Rattle.fe_schedules.proofs.Starting.{begins}
use Rattle.fe_schedules.proofs.run.Run.new.Goals as goal

pub returns-clause-begins : goal.returns-clause-begins
returns-clause-begins c =
    let m = c.in_ok-machine.machine in
    let at : Stage = record { stored = first_state; run_state = m.desk.run_state; is_holding = false } in
    λ now. begins now _ at (search rules) (record { stored = refl; run_state = c.in_ok-machine.ensures.first; is_holding = refl }) (record { stored = sym c.in_ok-machine.ensures.state; run_state = refl; holding = refl }) (search rules) (search rules) (search rules)
