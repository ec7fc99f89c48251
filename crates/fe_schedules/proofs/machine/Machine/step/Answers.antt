use Rattle.std.proofs.Common.{Ok, Err, Option, refl, sym, subst}
use Rattle.fe_disk.specs.Memory.{MemoryState}
use Rattle.fe_desk.specs.Crash.{disk_of}
use Rattle.fe_desk.specs.Runs.{Ends}
use Rattle.fe_desk.specs.Acknowledged.{may_ask_any}
use Rattle.fe_desk.proofs.Answering.{any_session}
use Rattle.fe_desk.proofs.Stepping.{ends_of}
use Rattle.fe_schedules.specs.Schedule.{TellsDisk}
use Rattle.fe_schedules.specs.Ready.{memory_model}
use Rattle.fe_schedules.specs.Runs.{last_of}
use Rattle.fe_schedules.proofs.Readiness.{ready_after, step_tells}
use Rattle.fe_schedules.proofs.machine.Machine.step.Goals as goal

pub returns-in-Ok-clause-moved : goal.returns-in-Ok-clause-moved
returns-in-Ok-clause-moved c =
    let d = c.in-Ok.ensures in
    let old = c.args.self.now.desk in
    let new = c.step.new.self in
    let ready = c.requires.ready in
    let whole : Ends memory_model old c.args.step.now (Ok tt) new = ends_of memory_model old c.args.step.now new (Ok tt) ready.works d.is_step in
    record {
      machine = record { ready = ready_after old new c.args.step.now ready whole.took whole.boxes d.advances d.stands d.synced whole.sound.fine; lost = c.requires.lost };
      moves = record {
        runs = (new.run_state, whole.took, refl);
        from = d.advances.from;
        acknowledged = λ begun limits is. d.acknowledged begun may_ask_any limits (any_session old c.args.step.now) is;
        checks = (new, whole.checked, refl);
      };
    }

pub returns-in-Err-clause-fault : goal.returns-in-Err-clause-fault
returns-in-Err-clause-fault c =
    let old = c.args.self.now.desk in
    let new = c.step.new.self in
    let ready = c.requires.ready in
    subst (λ (lost : Option MemoryState). TellsDisk (last_of lost (disk_of new)) c.of_desk.result) (sym c.requires.lost)
    (step_tells old new c.args.step.now c.in-Err.fault c.of_desk.result ready.calm c.of_desk.ensures
    (ends_of memory_model old c.args.step.now new (Err c.in-Err.fault) ready.works c.in-Err.ensures.is_step))
