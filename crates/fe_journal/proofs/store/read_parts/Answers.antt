use Rattle.std.proofs.Common.{◌≡◌, ℕ, List, length, Result, Some, Ok, Err, sym, ◌∙◌, ap, subst, arith}
use Rattle.std.proofs.lemmas.Result.{err_from_is_err_and}
use Rattle.fe_memory.specs.Memory.{out_of_memory}
use Rattle.fe_disk.specs.Disk.{LeavesJust}
use Rattle.fe_disk.specs.Runs.{Asks, Runs}
use Rattle.fe_disk.specs.declared.disk.Disk.{Ghosts}
use Rattle.fe_disk.proofs.Outcomes.{asks_run, runs_as, runs_joined, runs_within}
use Rattle.fe_journal.specs.Damage.{TellsFound}
use Rattle.fe_journal.specs.Found.{AsksToOpen}
use Rattle.fe_journal.specs.Store.{CountsAs, IsSlotRead}
use Rattle.fe_journal.specs.declared.fault.StoreFault.{StoreFault}
use Rattle.fe_journal.specs.declared.fault.StoreFault.TheVariants.{Device, NoMemory}
use Rattle.fe_journal.proofs.Readings.{call_reads, counted, fault_back, reads_again, same_fault, sound_by}
use Rattle.fe_journal.proofs.store.read_parts.Goals as goal

-- the sync, and then the reads
after_sync : {D T U F : Type 0} (model : Ghosts D) (x : T) (second : Result U StoreFault) (old mid new : D)
    → Asks {E = F} model 0 0 1 (Ok x) old mid → Runs model 4 0 0 Device second mid new → AsksToOpen model Device second old new
after_sync {T = T} model x second old mid new asks run =
    let first : Result T StoreFault = Ok x in
    let both = runs_joined model 0 0 1 4 0 0 Device first second old mid new (asks_run model 0 0 1 Device x x old mid asks) (λ (e : first ≡ Err Device). cc) run in
    let fault = counted second (model.failures old) (model.failures mid) (model.failures new) asks.still (λ rises. let e = asks.fault.1 rises in cc) run.fault run.still in
    record { fault = fault; still = both.still; most = both.most; honesty = both.honesty; same_size = both.same_size }

pub returns-clause-store : goal.returns-clause-store
returns-clause-store g c = λ honest.
    let honest_1 = c.sync.ensures.device.honesty.1 honest in
    let synced = c.sync.ensures.same honest in
    let same = (c.read_sound.ensures.reads honest_1).same ∙ synced in
    let honest_2 = c.read_sound.ensures.device.honesty.1 honest_1 in
    let sound = c.in_ok-slot.ensures.sound in
    record {
      counts = subst (λ (l : List ℕ). CountsAs l (Some (c.in_ok-slot.slot, c.in_ok-slot.header))) synced (c.in_ok-slot.ensures.counts honest_1);
      numbered = sound.1;
      length_fits = sound.2;
      read = subst (λ (l : List ℕ). IsSlotRead l c.in_ok-slot.slot c.in_ok-slot.header c.in_ok-parts.parts) same (c.in_ok-parts.ensures.parts honest_2);
    }

pub returns-clause-whole : goal.returns-clause-whole
returns-clause-whole g c = let sound = c.in_ok-slot.ensures.sound in record { is_slot = sound.0; buffer_whole = c.in_ok-buffer.ensures; parts_whole = c.in_ok-parts.ensures.whole; ends = c.in_ok-parts.ensures.ends }

pub returns-in_err-slot-clause-faults : goal.returns-in_err-slot-clause-faults
returns-in_err-slot-clause-faults g c = λ honest.
    let told = subst (λ (l : List ℕ). TellsFound c.in_err-slot.field-0.0 l) (c.sync.ensures.same honest) (c.in_err-slot.ensures.faults (c.sync.ensures.device.honesty.1 honest)) in
    let p = err_from_is_err_and c.from_residual-in_err-slot.result c.from_residual-in_err-slot.ensures.1 in
    rw (p.1, p.2) told

pub returns-in_err-buffer-clause-faults : goal.returns-in_err-buffer-clause-faults
returns-in_err-buffer-clause-faults g c = λ honest.
    let disk = c.sync.new.self in
    let seen = g.D.Disk.seen disk in
    let honest_1 = c.sync.ensures.device.honesty.1 honest in
    let sized : length seen ≡ g.D.Disk.size disk = (g.met.D.Disk.seen_is_image disk honest_1).whole in
    let s = c.in_ok-slot.ensures.sound in
    let sound : TellsFound (NoMemory out_of_memory) seen = sound_by seen c.in_ok-slot.slot c.in_ok-slot.header (sized ∙ sym c.size.ensures ∙ c.if-size-ne-DEVICE_BYTES.false) (c.in_ok-slot.ensures.counts honest_1) s.1 s.2 in
    let told = subst (λ (l : List ℕ). TellsFound (NoMemory out_of_memory) l) (c.sync.ensures.same honest) sound in
    let p = err_from_is_err_and c.from_residual-in_err-buffer.result c.from_residual-in_err-buffer.ensures.1 in
    rw (p.1, p.2) told

pub returns-in_err-parts-clause-faults : goal.returns-in_err-parts-clause-faults
returns-in_err-parts-clause-faults g c = λ honest.
    let honest_1 = c.sync.ensures.device.honesty.1 honest in
    let same = (c.read_sound.ensures.reads honest_1).same in
    let honest_2 = c.read_sound.ensures.device.honesty.1 honest_1 in
    let counts = subst (λ (l : List ℕ). CountsAs l (Some (c.in_ok-slot.slot, c.in_ok-slot.header))) (sym same) (c.in_ok-slot.ensures.counts honest_1) in
    let told = subst (λ (l : List ℕ). TellsFound c.in_err-parts.field-0.0 l) (same ∙ c.sync.ensures.same honest) (c.in_err-parts.ensures.faults honest_2 counts) in
    let p = err_from_is_err_and c.from_residual-in_err-parts.result c.from_residual-in_err-parts.ensures.1 in
    rw (p.1, p.2) told

pub returns-in_err-parts-clause-memory : goal.returns-in_err-parts-clause-memory
returns-in_err-parts-clause-memory g c = λ asked.
    let p = err_from_is_err_and c.from_residual-in_err-parts.result c.from_residual-in_err-parts.ensures.1 in
    let short : c.read_slot.result ≡ Err (NoMemory out_of_memory) = cc (p.1, p.2, c.in_err-parts.was, asked) in
    let synced = c.sync.ensures.device.most.0.1 in
    let first = c.read_sound.ensures.device.most.0.1 in
    let more = c.read_slot.ensures.memory short in
    omega (arith, synced, first, more)

pub returns-clause-settled : goal.returns-clause-settled
returns-clause-settled g c = λ honest.
    let honest_1 = c.sync.ensures.device.honesty.1 honest in
    let reads = reads_again g.D.Disk c.sync.new.self c.read_sound.new.disk c.read_slot.new.disk (c.read_sound.ensures.reads honest_1) (c.read_slot.ensures.reads (c.read_sound.ensures.device.honesty.1 honest_1)) in
    let just : LeavesJust (g.D.Disk.seen c.sync.new.self) (g.D.Disk.may_leave c.sync.new.self) = c.in_ok-sync.ensures.durable honest in
    λ image left. just image (reads.adds_none image left) ∙ sym reads.same

pub returns-clause-reads : goal.returns-clause-reads
returns-clause-reads g c = λ honest.
    let old = c.args.disk.now in
    let honest_1 = c.sync.ensures.device.honesty.1 honest in
    let synced = call_reads g.D.Disk old c.sync.new.self (λ image left. g.met.D.Disk.only_now old image honest left) (c.sync.ensures.same honest) (c.sync.ensures.stop honest) (c.sync.ensures.time honest) in
    let reads = reads_again g.D.Disk c.sync.new.self c.read_sound.new.disk c.read_slot.new.disk (c.read_sound.ensures.reads honest_1) (c.read_slot.ensures.reads (c.read_sound.ensures.device.honesty.1 honest_1)) in
    reads_again g.D.Disk old c.sync.new.self c.read_slot.new.disk synced reads

pub returns-in_err-parts-clause-reads : goal.returns-in_err-parts-clause-reads
returns-in_err-parts-clause-reads g c = λ honest.
    let old = c.args.disk.now in
    let honest_1 = c.sync.ensures.device.honesty.1 honest in
    let synced = call_reads g.D.Disk old c.sync.new.self (λ image left. g.met.D.Disk.only_now old image honest left) (c.sync.ensures.same honest) (c.sync.ensures.stop honest) (c.sync.ensures.time honest) in
    let reads = reads_again g.D.Disk c.sync.new.self c.read_sound.new.disk c.read_slot.new.disk (c.read_sound.ensures.reads honest_1) (c.read_slot.ensures.reads (c.read_sound.ensures.device.honesty.1 honest_1)) in
    reads_again g.D.Disk old c.sync.new.self c.read_slot.new.disk synced reads

pub returns-in_err-slot-clause-reads : goal.returns-in_err-slot-clause-reads
returns-in_err-slot-clause-reads g c = λ honest.
    let old = c.args.disk.now in
    let synced = call_reads g.D.Disk old c.sync.new.self (λ image left. g.met.D.Disk.only_now old image honest left) (c.sync.ensures.same honest) (c.sync.ensures.stop honest) (c.sync.ensures.time honest) in
    reads_again g.D.Disk old c.sync.new.self c.read_sound.new.disk synced (c.read_sound.ensures.reads (c.sync.ensures.device.honesty.1 honest))

pub returns-in_err-buffer-clause-reads : goal.returns-in_err-buffer-clause-reads
returns-in_err-buffer-clause-reads g c = λ honest.
    let old = c.args.disk.now in
    let synced = call_reads g.D.Disk old c.sync.new.self (λ image left. g.met.D.Disk.only_now old image honest left) (c.sync.ensures.same honest) (c.sync.ensures.stop honest) (c.sync.ensures.time honest) in
    reads_again g.D.Disk old c.sync.new.self c.read_sound.new.disk synced (c.read_sound.ensures.reads (c.sync.ensures.device.honesty.1 honest))

pub returns-clause-device : goal.returns-clause-device
returns-clause-device g c =
    after_sync g.D.Disk tt _ c.args.disk.now c.sync.new.self c.read_slot.new.disk c.in_ok-sync.ensures.device
    (runs_as g.D.Disk 4 0 0 Device _ _ c.sync.new.self c.read_slot.new.disk
    (runs_joined g.D.Disk 2 0 0 2 0 0 Device _ _ c.sync.new.self c.read_sound.new.disk c.read_slot.new.disk c.in_ok-slot.ensures.device (λ e. cc) c.in_ok-parts.ensures.device) (λ e. cc) (λ e. cc))

pub returns-in_err-parts-clause-device : goal.returns-in_err-parts-clause-device
returns-in_err-parts-clause-device g c =
    let p = err_from_is_err_and c.from_residual-in_err-parts.result c.from_residual-in_err-parts.ensures.1 in
    after_sync g.D.Disk tt _ c.args.disk.now c.sync.new.self c.read_slot.new.disk c.in_ok-sync.ensures.device
    (runs_as g.D.Disk 4 0 0 Device _ _ c.sync.new.self c.read_slot.new.disk
    (runs_joined g.D.Disk 2 0 0 2 0 0 Device _ _ c.sync.new.self c.read_sound.new.disk c.read_slot.new.disk c.in_ok-slot.ensures.device (λ e. cc) c.in_err-parts.ensures.device)
    (λ e. ap (λ (f : StoreFault). Err f) (same_fault c.from_residual-in_err-parts.result p.0 c.in_err-parts.field-0.0 p.1 p.2 e)) (fault_back c.from_residual-in_err-parts.result p.0 c.in_err-parts.field-0.0 p.1 p.2))

pub returns-in_err-slot-clause-device : goal.returns-in_err-slot-clause-device
returns-in_err-slot-clause-device g c =
    let p = err_from_is_err_and c.from_residual-in_err-slot.result c.from_residual-in_err-slot.ensures.1 in
    after_sync g.D.Disk tt _ c.args.disk.now c.sync.new.self c.read_sound.new.disk c.in_ok-sync.ensures.device
    (runs_as g.D.Disk 4 0 0 Device _ _ c.sync.new.self c.read_sound.new.disk
    (runs_within g.D.Disk 2 0 0 4 0 0 Device _ c.sync.new.self c.read_sound.new.disk (omega arith) (omega arith) (omega arith) c.in_err-slot.ensures.device)
    (λ e. ap (λ (f : StoreFault). Err f) (same_fault c.from_residual-in_err-slot.result p.0 c.in_err-slot.field-0.0 p.1 p.2 e)) (fault_back c.from_residual-in_err-slot.result p.0 c.in_err-slot.field-0.0 p.1 p.2))

pub returns-in_err-buffer-clause-device : goal.returns-in_err-buffer-clause-device
returns-in_err-buffer-clause-device g c =
    let p = err_from_is_err_and c.from_residual-in_err-buffer.result c.from_residual-in_err-buffer.ensures.1 in
    after_sync g.D.Disk tt _ c.args.disk.now c.sync.new.self c.read_sound.new.disk c.in_ok-sync.ensures.device
    (runs_as g.D.Disk 4 0 0 Device _ _ c.sync.new.self c.read_sound.new.disk
    (runs_within g.D.Disk 2 0 0 4 0 0 Device _ c.sync.new.self c.read_sound.new.disk (omega arith) (omega arith) (omega arith) c.in_ok-slot.ensures.device)
    (λ e. cc (p.1, p.2, e)) (λ e. cc))
