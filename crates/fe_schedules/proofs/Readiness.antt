-- A desk stays ready for the next step.
use Rattle.std.proofs.Common.{◌≡◌, ◌≢◌, None, Err, ℕ, ◌≤◌, false, List, [], take, take_all, length, refl, zero, sym, ap, ◌∙◌, ◌⊎◌, inl, inr, subst, arith, Some, Option, suc, ◌<◌, ◌↔◌}
use Rattle.fe_disk.specs.Memory.{MemoryState, IsHonest, LeavesNow}
use Rattle.fe_state.specs.State.{ServerState}
use Rattle.fe_state.specs.History.{after_groups}
use Rattle.fe_state.specs.declared.entry.Entry.{Entry}
use Rattle.fe_keeper.specs.Damage.{StandsForOne}
use Rattle.fe_keeper.specs.Stands.{StandsFor, EachStandsFor, LeavesPrefix}
use Rattle.fe_keeper.specs.declared.fault.Fault.TheVariants as store
use Rattle.fe_mail.specs.Connections.{mails_on}
use Rattle.fe_desk.specs.Crash.{DeskState, Advances, IsFrom, disk_of, desk_anew}
use Rattle.fe_desk.specs.DeskRunState.{DeskRunState, IsFirstRunState}
use Rattle.fe_desk.specs.Steps.{DeskStep, AreWritten}
use Rattle.fe_desk.specs.declared.step.Step.{Step}
use Rattle.fe_desk.proofs.Anew.{written_still}
use Rattle.fe_desk.proofs.Openings.{first_from, first_quiet}
use Rattle.fe_desk.proofs.Quiets.{none_waits}
use Rattle.fe_desk.specs.declared.fault.DeskFault.{DeskFault}
use Rattle.fe_desk.specs.declared.fault.DeskFault.TheVariants as desk
use Rattle.std.proofs.lemmas.Option.{none-some}
use Rattle.fe_memory.specs.Memory.{out_of_memory}
use Rattle.fe_disk.specs.Disk.{Rises}
use Rattle.fe_desk.specs.Runs.{Ends}
use Rattle.fe_schedules.specs.Ready.{memory_model, IsReady}
use Rattle.fe_schedules.specs.Schedule.{of_desk, TellsDisk, Stage, LeavesStored}
use Rattle.fe_schedules.specs.declared.fault.MachineFault.{MachineFault}
use Rattle.fe_schedules.specs.declared.fault.MachineFault.TheVariants as machine
use Rattle.fe_schedules.specs.Runs.{IsMachine, IsRun, IsAt, last_of, last_disk}
use Rattle.fe_schedules.specs.declared.machine.Machine.{Machine}
use Rattle.fe_schedules.specs.declared.run.Run.{Run}
use Rattle.fe_keeper.specs.Ends.{Works}

-- what a step of the desk promises of the store
abbrev pub Stands : DeskState MemoryState → Type 0
Stands d =
    IsHonest (disk_of d) → (begun : ServerState) → IsFrom begun d → (image : List ℕ) → LeavesNow (disk_of d) image → LeavesPrefix begun d.run_state.groups d.synced image

-- where all groups are stored, each image stands for the keeper's state
each_stands : (d : DeskState MemoryState) (begun : ServerState) → IsFrom begun d → d.synced ≡ length d.run_state.groups → (image : List ℕ) → LeavesPrefix begun d.run_state.groups d.synced image → StandsFor image d.keeper.state
each_stands d begun from synced image left =
    let q = left.prefix in
    let groups : List (List Entry) = d.run_state.groups in
    let most : length groups ≤ q.kept = omega (arith, synced, q.least) in
    let all : take q.kept groups ≡ groups = take_all q.kept groups most in
    let whole : take d.synced groups ≡ groups = take_all d.synced groups (omega (arith, synced)) in
    let same : left.state ≡ d.keeper.state = q.state_is ∙ ap (λ (gs : List (List Entry)). after_groups begun gs) (all ∙ sym whole) ∙ sym from.replica in
    subst (λ (s : ServerState). StandsFor image s) same left.stands

pub ready_after : (old new : DeskState MemoryState) (x : Step) → IsReady old → DeskStep old.run_state x new.run_state
    → ((conn : ℕ) → mails_on new.run_state.front.connections conn ≡ []) → Advances memory_model old new → Stands new
    → (new.keeper.store.has_failed ≡ false → new.synced ≡ length new.run_state.groups) → Works memory_model old.keeper new.keeper → IsReady new
ready_after old new x ready step boxes more stands synced fine =
    let honest : IsHonest (disk_of new) = more.honesty.1 ready.honest in
    let from : IsFrom ready.begun new = more.from ready.begun ready.from in
    record {
      works = fine.after;
      calm = fine.still ∙ ready.calm;
      honest = honest;
      begun = ready.begun;
      from = from;
      stands = λ image may. each_stands new ready.begun from (synced fine.after) image (stands honest ready.begun from image may);
      synced = synced fine.after;
      quiet = record {
        boxes = boxes;
        replies = subst (λ (s : DeskRunState). AreWritten s.clients) (sym step.after) (none_waits step.last.front step.last.clients);
        owes = ap (λ (s : DeskRunState). s.owes) step.after;
      };
    }

pub ready_first : (d : DeskState MemoryState) (s : ServerState) → IsHonest (disk_of d) → d.keeper.store.has_failed ≡ false → (disk_of d).failures ≡ 0 → IsFirstRunState s d.run_state → d.keeper.state ≡ s → d.synced ≡ 0 → EachStandsFor memory_model (disk_of d) s → IsReady d
ready_first d s honest works calm first is synced stands = record {
  works = works;
  calm = calm;
  honest = honest;
  begun = s;
  from = first_from s d is first.groups synced;
  stands = λ image may. subst (λ (t : ServerState). StandsFor image t) (sym is) (stands image may);
  synced = synced ∙ sym (ap length first.groups);
  quiet = first_quiet s d.run_state first;
}

-- so is one whose trace begins anew
pub ready_anew : (d : DeskState MemoryState) → IsReady d → IsReady (desk_anew d)
ready_anew d ready = record {
  works = ready.works;
  calm = ready.calm;
  honest = ready.honest;
  begun = d.keeper.state;
  from = first_from d.keeper.state (desk_anew d) refl refl refl;
  stands = ready.stands;
  synced = refl;
  quiet = record { boxes = ready.quiet.boxes; replies = written_still d.run_state.clients ready.quiet.replies; owes = ready.quiet.owes };
}

-- all that was stored of a desk whose groups begin with a state
pub all_stored : (d : DeskState MemoryState) (begun : ServerState) → IsReady d → IsFrom begun d → d.keeper.state ≡ after_groups begun d.run_state.groups
all_stored d begun ready from =
    let synced = ready.synced in
    from.replica ∙ ap (λ (gs : List (List Entry)). after_groups begun gs) (take_all d.synced d.run_state.groups (omega (arith, synced)))

-- the disk of a machine is that of its desk
pub disk_is : (m : Machine) → IsMachine m → last_disk m ≡ disk_of m.desk
disk_is m is = ap (λ (o : Option MemoryState). last_of o (disk_of m.desk)) is.lost

-- a stop leaves what a run has stored
pub leaves_at : (r : Run) (here : Stage) → IsRun r → IsAt r here → LeavesStored (last_disk r.machine) here
leaves_at r here run at =
    let disk = disk_is r.machine run.machine in
    λ image may. subst (λ (s : ServerState). StandsFor image s) (sym at.stored) (run.machine.ready.stands image (subst (λ (m : MemoryState). LeavesNow m image) disk may))

-- ---- a stop

-- what was stored is there after a stop
pub kept_over : (d e : DeskState MemoryState) (image : List ℕ) → IsReady d → StandsForOne → LeavesNow (disk_of d) image → StandsFor image e.keeper.state → e.keeper.state ≡ d.keeper.state
kept_over d e image ready one may stands = one image e.keeper.state d.keeper.state stands (ready.stands image may)

-- ---- faults

pub store_fault : (f : DeskFault) → (f ≡ desk.Store store.Device) ⊎ (f ≡ desk.NoMemory out_of_memory false) → of_desk f ≢ None
store_fault f (inl e) none = absurd (none-some _ (sym none ∙ ap of_desk e))
store_fault f (inr e) none = absurd (none-some _ (sym none ∙ ap of_desk e))

abbrev machine_of : Option MachineFault → MachineFault
machine_of None = machine.Memory out_of_memory
machine_of (Some r) = r

-- the fault is the device, or memory
device_tells : (f : DeskFault) (r : MachineFault) (disk : MemoryState) → f ≡ desk.Store store.Device → of_desk f ≡ Some r → 0 < disk.failures → TellsDisk disk r
device_tells f r disk e is rises = subst (λ (x : MachineFault). TellsDisk disk x) (ap machine_of (sym (ap of_desk e) ∙ is)) rises

memory_tells : (f : DeskFault) (r : MachineFault) (disk : MemoryState) → of_desk f ≡ Some (machine.Memory out_of_memory) → of_desk f ≡ Some r → disk.failures ≡ 0 → TellsDisk disk r
memory_tells f r disk e is calm = subst (λ (x : MachineFault). TellsDisk disk x) (ap machine_of (sym e ∙ is)) calm

-- a count that was 0
rose : (old new : ℕ) → old ≡ 0 → Rises old new → 0 < new
rose old new calm (inl less) = omega (arith, calm, less)
rose old new calm (inr top) = let most = top.0 in absurd (omega (arith, calm, most))

still : (old new : ℕ) → old ≡ 0 → (Rises old new → ⊥) → new ≡ 0
still old zero calm stays = refl
still old (suc new) calm stays = absurd (stays (inl (omega (arith, calm))))

abbrev store_of : DeskFault → Option ℕ
store_of (desk.NoMemory error fed) = None
store_of other = Some 0

no_device : (f : DeskFault) → f ≡ desk.NoMemory out_of_memory false → f ≡ desk.Store store.Device → ⊥
no_device f e d = none-some 0 (ap store_of (sym e ∙ d))

-- what a step's fault says of the disk
pub step_tells : (old new : DeskState MemoryState) (x : Step) (f : DeskFault) (r : MachineFault) → (disk_of old).failures ≡ 0 → of_desk f ≡ Some r → Ends memory_model old x (Err f) new → TellsDisk (disk_of new) r
step_tells old new x (desk.Store cause) r calm is e = device_tells (desk.Store cause) r (disk_of new) (ap (λ c. desk.Store c) e.0) is (rose (disk_of old).failures (disk_of new).failures calm e.1.failed.rises)
step_tells old new x (desk.NoMemory error fed) r calm is e = memory_tells (desk.NoMemory error fed) r (disk_of new) refl is (e.sound.fine.still ∙ calm)
step_tells old new x (desk.Unwritten error) r calm is e = memory_tells (desk.Unwritten error) r (disk_of new) refl is (e.sound.fine.still ∙ calm)

pub format_tells : (old new : MemoryState) (f : DeskFault) (r : MachineFault) → old.failures ≡ 0 → of_desk f ≡ Some r → (f ≡ desk.Store store.Device) ⊎ ((f ≡ desk.Store store.Unformatted) ⊎ (f ≡ desk.NoMemory out_of_memory false))
    → (f ≡ desk.Store store.Device → Rises old.failures new.failures) → (f ≢ desk.Store store.Device → new.failures ≡ old.failures) → TellsDisk new r
format_tells old new f r calm is (inl e) rises same = device_tells f r new e is (rose old.failures new.failures calm (rises e))
format_tells old new f r calm is (inr (inl e)) rises same = absurd (none-some r (sym (ap of_desk e) ∙ is))
format_tells old new f r calm is (inr (inr e)) rises same = memory_tells f r new (ap of_desk e) is (same (no_device f e) ∙ calm)

pub open_tells : (old new : MemoryState) (f : DeskFault) (r : MachineFault) → old.failures ≡ 0 → of_desk f ≡ Some r → (f ≡ desk.Store store.Device) ⊎ (f ≡ desk.NoMemory out_of_memory false)
    → ((f ≡ desk.Store store.Device) ↔ Rises old.failures new.failures) → TellsDisk new r
open_tells old new f r calm is (inl e) rises = device_tells f r new e is (rose old.failures new.failures calm (rises.0 e))
open_tells old new f r calm is (inr e) rises = memory_tells f r new (ap of_desk e) is (still old.failures new.failures calm (λ up. no_device f e (rises.1 up)))
