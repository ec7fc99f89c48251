-- How calls of a store end, one after the other, and what a keeper tells of their faults.
use Rattle.std.proofs.Common.{◌≡◌, ◌↔◌, inl, ℕ, ◌+◌, List, true, false, Bool, IsTrue, refl, sym, ap, subst, ◌∙◌}
use Rattle.std.specs.Prelude.{Result, Ok, Err, MatchResult, IsErrAnd}
use Rattle.fe_memory.specs.Memory.{out_of_memory}
use Rattle.fe_disk.specs.Disk.{Rises}
use Rattle.fe_disk.specs.Runs.{LeavesOnly}
use Rattle.fe_disk.proofs.Moments.{joined}
use Rattle.fe_state.specs.State.{ServerState}
use Rattle.fe_state.specs.declared.entry.Entry.{Entry}
use Rattle.fe_replica.specs.Replaying.{IsMismatch, MakesSomeArray}
use Rattle.fe_replica.specs.declared.taking.Refused.{Refused}
use Rattle.fe_replica.specs.declared.taking.Refused.TheVariants as replica
use Rattle.fe_journal.specs.Journal.{JournalState}
use Rattle.fe_journal.specs.declared.fault.JournalFault.{JournalFault}
use Rattle.fe_journal.specs.declared.fault.JournalFault.TheVariants as journal
use Rattle.fe_state.specs.declared.batch.Batch.{Batch}
use Rattle.fe_keeper.specs.Ends.{Works, Breaks, Refuses, Fails, Ends, ForBatch, AppendEnds}
use Rattle.fe_keeper.specs.Keeper.{KeeperState}
use Rattle.fe_keeper.specs.Stands.{StandsFor}
use Rattle.fe_keeper.specs.within.Ends.{WorksOn, BreaksOff, StoreEnds, StepEnds, CountsBatch, Carries}
use Rattle.fe_keeper.specs.within.Faults.{fault_of_journal, fault_of_refused}
use Rattle.fe_keeper.specs.within.Upholds.{kept_of, store_of}
use Rattle.fe_keeper.specs.declared.fault.Fault.{Fault}
use Rattle.fe_keeper.specs.declared.fault.Fault.TheVariants.{Device, NoMemory}
use Rattle.fe_keeper.specs.declared.keeper.Keeper.TheInside.{Inside}
use Rattle.fe_keeper.specs.declared.keeper_store.KeeperStore.{KeeperStore}
use Rattle.fe_disk.specs.declared.disk.Disk.{Ghosts}

-- ---- calls one after the other

-- a call after one in which the device worked
pub then_ends : {T D : Type 0} (model : Ghosts D) (result : Result T JournalFault) (old mid new : JournalState D) → WorksOn model old mid → (model.honest mid.disk ↔ model.honest old.disk)
    → StoreEnds model result mid new → StoreEnds model result old new
then_ends model (Ok x) old mid new first honesty second = record {
  outcome = record { works = second.outcome.works; still = second.outcome.still ∙ first.still };
  honesty = (λ h. honesty.0 (second.honesty.0 h), λ h. second.honesty.1 (honesty.1 h));
}
then_ends model (Err fault) old mid new first honesty second = record {
  outcome = (second.outcome.0, record { failed = second.outcome.1.failed; rises = subst (λ (n : ℕ). Rises n (model.failures new.disk)) first.still second.outcome.1.rises });
  honesty = (λ h. honesty.0 (second.honesty.0 h), λ h. second.honesty.1 (honesty.1 h));
}

-- it carries over what the first carried
pub then_carries : {T D : Type 0} (model : Ghosts D) (result : Result T JournalFault) (old mid new : KeeperStore D) (s : ServerState)
    → LeavesOnly model old.journal.disk mid.journal.disk (λ image. StandsFor image s) → Carries model result mid new s → Carries model result old new s
then_carries model result old mid new s first second =
    record { any_moment = joined model old.journal.disk mid.journal.disk new.journal.disk (λ image. StandsFor image s) first second.any_moment; upheld = second.upheld }

-- a step after one that succeeded
pub then_step : {T U D : Type 0} (model : Ghosts D) (P Q R : ServerState → Type 0) (x : U) (result : Result T JournalFault) (old mid new : KeeperStore D) → ((s : ServerState) → R s → P s) → ((s : ServerState) → R s → Q s)
    → StepEnds model P (Ok x) old mid → StepEnds model Q result mid new → StepEnds model R result old new
then_step model P Q R x result old mid new p q first second =
    record {
      stays = record { sound = second.stays.sound; place = second.stays.place ∙ first.stays.place };
      ends = then_ends model result old.journal mid.journal new.journal first.ends.outcome first.ends.honesty second.ends;
      carries = λ honest s upholds needs.
          let carried = first.carries honest s upholds (p s needs) in
          then_carries model result old mid new s carried.any_moment (second.carries (first.ends.honesty.1 honest) s carried.upheld (q s needs));
    }

-- a call of a journal whose fault is passed on
pub passed_ends : {T U D : Type 0} (model : Ghosts D) (result : Result T JournalFault) (fault : JournalFault) (old new : JournalState D) → IsErrAnd result (λ f. f ≡ fault)
    → StoreEnds {T = U} model (Err fault) old new → StoreEnds model result old new
passed_ends model (Ok x) fault old new is ends = absurd is
passed_ends model (Err f) fault old new is ends = record { outcome = (is ∙ ends.outcome.0, ends.outcome.1); honesty = ends.honesty }

-- a step whose fault is passed on
pub passed_step : {T U D : Type 0} (model : Ghosts D) (P R : ServerState → Type 0) (result : Result T JournalFault) (fault : JournalFault) (old new : KeeperStore D) → IsErrAnd result (λ f. f ≡ fault) → ((s : ServerState) → R s → P s)
    → StepEnds {T = U} model P (Err fault) old new → StepEnds model R result old new
passed_step model P R (Ok x) fault old new is p step = absurd is
passed_step model P R (Err f) fault old new is p step =
    record {
      stays = step.stays;
      ends = passed_ends model (Err f) fault old.journal new.journal is step.ends;
      carries = λ honest s upholds needs. record { any_moment = (step.carries honest s upholds (p s needs)).any_moment; upheld = tt };
    }

-- a step that needs no less
pub step_by : {T D : Type 0} (model : Ghosts D) (P R : ServerState → Type 0) (result : Result T JournalFault) (old new : KeeperStore D) → ((s : ServerState) → R s → P s) → StepEnds model P result old new → StepEnds model R result old new
step_by model P R result old new p step =
    record { stays = step.stays; ends = step.ends; carries = λ honest s upholds needs. step.carries honest s upholds (p s needs) }

-- a batch that is stored once there is room for it
pub then_counts : {T D : Type 0} (result : Result T JournalFault) (old mid new : KeeperStore D) (n : ℕ) → mid.place ≡ old.place → CountsBatch result mid new n → CountsBatch result old new n
then_counts (Ok x) old mid new n same h = record { sound = h.sound; place = h.place ∙ ap (λ (p : ℕ). p + n) same }
then_counts (Err fault) old mid new n same h = record { sound = h.sound; place = h.place ∙ same }

-- ---- what a keeper tells

-- what is said of a fault is said of a result that has it
pub told : {T : Type 0} (result : Result T Fault) (fault : Fault) (Q : Type 0) (P : Fault → Type 0) → IsErrAnd result (λ f. f ≡ fault) → P fault → MatchResult result (λ _. Q) P
told (Ok x) fault Q P is p = absurd is
told (Err f) fault Q P is p = subst P (sym is) p

-- a batch that is not taken
pub take_fails : {D : Type 0} (model : Ghosts D) (refused : Refused) (old new : KeeperState D) (first : ℕ) (entries : List Entry) → ((place : ℕ) → refused ≡ replica.Mismatch place → IsMismatch old.state first entries place)
    → (refused ≡ replica.NoMemory out_of_memory → MakesSomeArray entries) → Refuses old new → Fails model (ForBatch old first entries) old new (fault_of_refused refused)
take_fails model (replica.Mismatch place) old new first entries mismatch memory none = (mismatch place refl, none)
take_fails model (replica.NoMemory error) old new first entries mismatch memory none = (inl (memory refl), none)

-- a fault of the device
pub device_fails : {D : Type 0} (model : Ghosts D) (Cause : Fault → Type 0) (fault : JournalFault) (old new : KeeperState D) → fault ≡ journal.Device → Cause Device → Breaks model old new
    → Fails model Cause old new (fault_of_journal fault)
device_fails model Cause journal.Device old new is cause breaks = (cause, breaks)
device_fails model Cause journal.Failed old new is cause breaks = absurd (cc is)

-- no memory
pub memory_fails : {D : Type 0} (model : Ghosts D) (Cause : Fault → Type 0) (fault : Fault) (old new : KeeperState D) → fault ≡ NoMemory out_of_memory → Cause (NoMemory out_of_memory) → Refuses old new → Fails model Cause old new fault
memory_fails model Cause fault old new is cause none = subst (Fails model Cause old new) (sym is) (cause, none)

-- a test that does not fail holds
pub must_be : (b : Bool) → (b ≡ false → ⊥) → IsTrue b
must_be true none = refl
must_be false none = absurd (none refl)

-- an append that fails, seen from outside
pub append_fails : {D : Type 0} (model : Ghosts D) (was old new : KeeperState D) (batch back : Batch) (told fault : Fault) (entries : List Entry) → told ≡ fault → was ≡ old → entries ≡ batch.entries
    → Fails model (ForBatch was batch.first entries) was new fault → AppendEnds model (Err (told, back)) old new batch
append_fails {D} model was old new batch back told fault entries is same spelled fails =
    subst (λ (k : KeeperState D). Fails model (ForBatch k batch.first batch.entries) k new told) same
    (subst (λ (es : List Entry). Fails model (ForBatch was batch.first es) was new told) spelled
    (subst (λ (f : Fault). Fails model (ForBatch was batch.first entries) was new f) (sym is) fails))

-- a call of the store in which the device fails, as the keeper tells it
pub device_told : {T D : Type 0} (model : Ghosts D) (Cause : Fault → Type 0) (result : Result T Fault) (fault : JournalFault) (inside : Inside D) (new : KeeperStore D) (old : KeeperState D) → kept_of inside ≡ old
    → IsErrAnd result (λ f. f ≡ fault_of_journal fault) → inside.store.journal.has_failed ≡ false → (fault ≡ journal.Device) × BreaksOff model inside.store.journal new.journal → Cause Device
    → Ends model Cause result old (record { state = inside.state; store = store_of new })
device_told {D = D} model Cause result fault inside new old same is works failed cause =
    let after : KeeperState D = record { state = inside.state; store = store_of new } in
    let breaks : Breaks model (kept_of inside) after = record { before = works; failed = failed.1.failed; rises = failed.1.rises } in
    told result (fault_of_journal fault) (Works model old after) (Fails model Cause old after) is
    (device_fails model Cause fault old after failed.0 cause (subst (λ (k : KeeperState D). Breaks model k after) same breaks))
