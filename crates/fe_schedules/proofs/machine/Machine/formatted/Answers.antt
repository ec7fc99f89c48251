use Rattle.std.proofs.Common.{◌∙◌, refl, subst, sym}
use Rattle.fe_state.specs.State.{ServerState, IsWithinLimits, first_state}
use Rattle.fe_desk.specs.Acknowledged.{IsAcknowledged, HasNoneToPost, may_ask_any}
use Rattle.fe_schedules.proofs.Between.{first_within}
use Rattle.fe_schedules.proofs.Readiness.{ready_first, format_tells}
use Rattle.fe_schedules.proofs.machine.Machine.formatted.Goals as goal

pub returns-in-Ok-clause-machine : goal.returns-in-Ok-clause-machine
returns-in-Ok-clause-machine c =
    let d = c.in-Ok.ensures in
    let honest = c.requires.honest in
    record { ready = ready_first c.in-Ok.desk first_state (d.honesty.1 honest) d.works (d.still ∙ c.requires.calm) d.first.0 d.first.1 d.first.2 (d.formatted honest); lost = refl }

pub returns-in-Ok-clause-between : goal.returns-in-Ok-clause-between
returns-in-Ok-clause-between c =
    let d = c.in-Ok.desk in
    let e = c.in-Ok.ensures in
    record {
      limits = subst IsWithinLimits (sym e.first.1) first_within;
      acknowledged = subst (λ (s : ServerState). IsAcknowledged s may_ask_any d) (sym e.first.1) (e.acknowledged may_ask_any);
      posted = subst HasNoneToPost (sym e.first.0.handed) tt;
    }

pub returns-in-Err-clause-fault : goal.returns-in-Err-clause-fault
returns-in-Err-clause-fault c = let e = c.in-Err.ensures in format_tells c.args.blank c.in-Err.disk c.in-Err.fault c.of_desk.result c.requires.calm c.of_desk.ensures e.faults e.device e.calm
