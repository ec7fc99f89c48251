use Rattle.std.proofs.Common.{◌≡◌, [], refl, sym, ◌∙◌, ap, subst}
use Rattle.fe_memory.specs.Memory.{out_of_memory}
use Rattle.fe_disk.specs.Memory.{MemoryState, LeavesNow, synced_image}
use Rattle.fe_state.specs.State.{ServerState}
use Rattle.fe_desk.specs.Crash.{DeskState, disk_of}
use Rattle.fe_desk.specs.DeskRunState.{IsFirstRunState}
use Rattle.fe_desk.proofs.Openings.{device_alone}
use Rattle.fe_schedules.specs.Schedule.{TellsDisk}
use Rattle.fe_schedules.specs.Ready.{IsReady}
use Rattle.fe_schedules.specs.Runs.{last_disk, Reopens}
use Rattle.fe_schedules.specs.declared.fault.MachineFault.{MachineFault}
use Rattle.fe_schedules.specs.declared.fault.MachineFault.TheVariants as machine
use Rattle.fe_schedules.specs.declared.machine.Machine.{Machine}
use Rattle.fe_text.proofs.Results.{failed}
use Rattle.fe_schedules.proofs.Moving.{moves_none, calm_disk}
use Rattle.fe_schedules.proofs.Readiness.{disk_is, ready_first, kept_over, store_fault, open_tells}
use Rattle.fe_schedules.proofs.machine.Machine.stop.Goals as goal

pub returns-in_err-disk-clause-fault : goal.returns-in_err-disk-clause-fault
returns-in_err-disk-clause-fault c = rw (failed c.from_residual.result (machine.Memory out_of_memory) c.from_residual.ensures.1) (calm_disk c.args.self.now c.requires)

pub returns-in-Ok-open-clause-acts : goal.returns-in-Ok-open-clause-acts
returns-in-Ok-open-clause-acts c =
    let m = c.args.self.now in
    let d = m.desk in
    let e = c.replace-in-Ok-open.new.dest in
    let again = c.in-Ok-open.desk in
    let opened = c.in-Ok-open.ensures in
    let image = c.in-Ok-stopped.left.image in
    let honest = c.in-Ok-stopped.ensures.honest in
    let disk : c.into_disk-disk.result ≡ disk_of d = c.into_disk-disk.ensures ∙ ap last_disk c.replace.ensures.value ∙ disk_is m c.requires in
    let may : LeavesNow (disk_of d) image = subst (λ (s : MemoryState). LeavesNow s image) disk c.in-Ok-stopped.ensures.allowed in
    let kept = kept_over d again image c.requires.ready c.images_stand_for_one.ensures may (opened.opened honest) in
    let ready = ready_first again again.keeper.state (opened.device.honesty.1 honest) opened.works (opened.device.still (λ is. cc) ∙ c.in-Ok-stopped.ensures.fresh.failures) opened.first.0 refl opened.first.1 (opened.stands honest) in
    let first = subst (λ (s : ServerState). IsFirstRunState s again.run_state) kept opened.first.0 in
    let left : image ≡ synced_image (disk_of d).image (disk_of d).events =
    c.in-Ok-stopped.ensures.left ∙ ap (λ (s : MemoryState). synced_image s.image s.events) disk in
    let is = sym c.replace-in-Ok-open.ensures.after in
    record {
      machine = record { ready = subst IsReady is ready; lost = ap (λ (x : Machine). x.lost) c.replace.ensures.after ∙ c.in-Ok.ensures.machine.lost };
      mid = e;
      begins = subst (λ (x : DeskState MemoryState). Reopens d x) is (record { first = first; keeper = kept; synced = opened.first.1; image = (opened.reads honest).same ∙ left });
      steps = [];
      are = refl;
      moves = moves_none e;
    }

pub of_desk-requires : goal.of_desk-requires
of_desk-requires c =
    let m = c.args.self.now in
    let image = c.in-Ok-stopped.left.image in
    let disk : c.into_disk-disk.result ≡ disk_of m.desk = c.into_disk-disk.ensures ∙ ap last_disk c.replace.ensures.value ∙ disk_is m c.requires in
    let stands = c.requires.ready.stands image (subst (λ (s : MemoryState). LeavesNow s image) disk c.in-Ok-stopped.ensures.allowed) in
    store_fault c.in-Err-open.fault (c.in-Err-open.ensures.refused c.in-Ok-stopped.ensures.honest m.desk.keeper.state stands)

pub returns-in-Err-open-clause-fault : goal.returns-in-Err-open-clause-fault
returns-in-Err-open-clause-fault c =
    let m = c.args.self.now in
    let image = c.in-Ok-stopped.left.image in
    let left = c.in-Err-open.left in
    let opened = c.in-Err-open.ensures in
    let disk : c.into_disk-disk.result ≡ disk_of m.desk = c.into_disk-disk.ensures ∙ ap last_disk c.replace.ensures.value ∙ disk_is m c.requires in
    let stands = c.requires.ready.stands image (subst (λ (s : MemoryState). LeavesNow s image) disk c.in-Ok-stopped.ensures.allowed) in
    let tells = open_tells c.in-Ok-stopped.left left c.in-Err-open.fault c.of_desk.result c.in-Ok-stopped.ensures.fresh.failures c.of_desk.ensures (opened.refused c.in-Ok-stopped.ensures.honest m.desk.keeper.state stands) (device_alone c.in-Err-open.fault opened.device).0 in
    subst (λ (s : MemoryState). TellsDisk s c.lose-in-Err-open.result) (sym c.lose-in-Err-open.ensures.disk)
    (subst (λ (f : MachineFault). TellsDisk left f) (sym c.lose-in-Err-open.ensures.same) tells)
