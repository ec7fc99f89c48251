-- What is reported of a store that stands for no state.
use Rattle.std.proofs.Common.{◌≡◌, ◌⊎◌, inl, inr, ℕ, ◌+◌, ◌≤◌, List, Result, Ok, Err, refl, sym, ◌∙◌, ap, subst, arith}
use Rattle.std.specs.Prelude.{IsOk}
use Rattle.fe_memory.specs.Memory.{out_of_memory}
use Rattle.fe_disk.specs.declared.calls.Calls.{Calls}
use Rattle.fe_state.specs.State.{ServerState}
use Rattle.fe_state.specs.History.{IsHistory}
use Rattle.fe_codec.specs.FirstFault.{header_at, image_at}
use Rattle.fe_codec.proofs.ImageOnly.{spellings_read}
use Rattle.fe_format.specs.declared.format.Format.{Format}
use Rattle.fe_journal.specs.Layout.{area_of}
use Rattle.fe_journal.specs.Contents.{Contents, Holds}
use Rattle.fe_journal.specs.Damage as journal
use Rattle.fe_journal.specs.Found.{ReadsInPart}
use Rattle.fe_journal.specs.declared.fault.StoreFault.{StoreFault}
use Rattle.fe_journal.specs.declared.fault.StoreFault.TheVariants as store
use Rattle.fe_journal.proofs.Founds as founds
use Rattle.fe_keeper.specs.Stands.{Stands, StandsFor, greatest_generation}
use Rattle.fe_keeper.specs.Opened.{IsSlotFault}
use Rattle.fe_keeper.specs.within.Replaying.{CanGoOn}
use Rattle.fe_keeper.specs.Damage.{IsWrongIn, IsWrongAt, IsDamagedAt, MayLackMemory, TellsStore, OddField, OddGeneration, OddRecord, InSlot, InContents, InPart, AfterFields, AreToldApart}
use Rattle.fe_keeper.specs.within.Faults.{fault_of_store}
use Rattle.fe_keeper.specs.declared.fault.Fault.{Fault}
use Rattle.fe_keeper.specs.declared.fault.Fault.TheVariants.{Device, NoMemory, Damaged}
use Rattle.fe_keeper.proofs.Bases.{fields_stand}
use Rattle.fe_keeper.proofs.Going.{none_bad}
use Rattle.fe_keeper.proofs.Openings.{stands_by}

-- ---- what is said of a store

-- what the journal said
pub tells_found : (image : List ℕ) (before now : Calls) (fault : StoreFault) → journal.TellsFound fault image → (fault ≡ store.NoMemory out_of_memory → ReadsInPart before now) → TellsStore (fault_of_store fault) image before now
tells_found image before now store.Unformatted told short = told
tells_found image before now (store.Damaged offset) told short = InSlot told.0 told.1
tells_found image before now store.Device told short = told
tells_found image before now (store.NoMemory error) told short = InPart told (short refl)

-- only the device or memory
pub passed_on : (fault : StoreFault) → (fault ≡ store.Device) ⊎ (fault ≡ store.NoMemory out_of_memory) → (fault_of_store fault ≡ Device) ⊎ (fault_of_store fault ≡ NoMemory out_of_memory)
passed_on fault (inl is) = inl (ap fault_of_store is)
passed_on fault (inr is) = inr (ap fault_of_store is)

-- a slot is not refused for the device
pub slot_fault : (fault : Fault) → IsSlotFault fault → fault ≡ Device → ⊥
slot_fault fault (inl memory) is = cc
slot_fault fault (inr (offset, damaged)) is = cc

-- a fault of the device and no other is passed on as one
pub device_back : (fault : StoreFault) → fault_of_store fault ≡ Device → fault ≡ store.Device
device_back store.Device is = refl
device_back (store.NoMemory error) is = cc
device_back store.Unformatted is = cc
device_back (store.Damaged offset) is = cc

-- what is reported of contents
pub tells_slot : (image : List ℕ) (before now : Calls) (c : Contents) (fault : Fault) → Holds c image → IsSlotFault fault → ((offset : ℕ) → fault ≡ Damaged offset → IsWrongAt c offset) → (fault ≡ NoMemory out_of_memory → IsOk (header_at c.image))
    → TellsStore fault image before now
tells_slot image before now c fault holds (inl is) wrong fields = subst (λ (f : Fault). TellsStore f image before now) (sym is) (AfterFields c holds (fields is))
tells_slot image before now c fault holds (inr (offset, is)) wrong fields = subst (λ (f : Fault). TellsStore f image before now) (sym is) (InContents c holds (wrong offset is))

-- memory may run out once the store is found to stand for a state
pub lacks_standing : (image : List ℕ) (before now : Calls) (s : ServerState) → StandsFor image s → MayLackMemory image before now
lacks_standing image before now s stands = AfterFields stands.contents stands.holds (fields_stand stands.contents s stands.stands)

-- what is wrong in the parts of contents is wrong in them
pub wrong_there : (c : Contents) (slot : ℕ) (format : Format) (generation : ℕ) (image : List ℕ) (start at offset : ℕ) → slot ≡ c.slot → format ≡ c.format → generation ≡ c.generation → image ≡ c.image
    → start ≡ area_of c.slot → at ≡ 0 → IsWrongIn slot format generation image c.groups (start + at) offset → IsWrongAt c offset
wrong_there c slot format generation image start at offset slot_is format_is generation_is image_is start_is at_is wrong =
    let there : start + at ≡ area_of c.slot = omega (arith, start_is, at_is) in
    subst (λ (k : ℕ). IsWrongIn c.slot c.format c.generation c.image c.groups k offset) there
    (subst (λ (x : List ℕ). IsWrongIn c.slot c.format c.generation x c.groups (start + at) offset) image_is
    (subst (λ (x : ℕ). IsWrongIn c.slot c.format x image c.groups (start + at) offset) generation_is
    (subst (λ (x : Format). IsWrongIn c.slot x generation image c.groups (start + at) offset) format_is
    (subst (λ (x : ℕ). IsWrongIn x format generation image c.groups (start + at) offset) slot_is wrong))))

-- ---- and of which stores it is true

-- what contents stand for was spelled
module _ (c : Contents) (s : ServerState) (stands : Stands c s) where
  is_base : image_at c.format c.image ≡ Ok stands.base
  is_base = ap (image_at c.format) stands.image_is ∙ spellings_read c.format stands.base stands.fits

  only_base : (base : ServerState) → image_at c.format c.image ≡ Ok base → stands.base ≡ base
  only_base base is = let same : ◌≡◌ {A = Result ServerState ℕ} (Ok stands.base) (Ok base) = sym is_base ∙ is in cc

  -- nothing is wrong in them
  not_wrong : (offset : ℕ) → IsWrongAt c offset → ⊥
  not_wrong offset (OddField within is at) = let differ : ◌≡◌ {A = Result ServerState ℕ} (Ok stands.base) (Err within) = sym is_base ∙ is in absurd (cc)
  not_wrong offset (OddGeneration base is above at) =
      let numbered : c.generation ≤ greatest_generation c.format base.place = subst (λ (b : ServerState). c.generation ≤ greatest_generation c.format b.place) (only_base base is) stands.numbered in
      omega (arith, numbered, above)
  not_wrong offset (OddRecord base is numbered bad) =
      let goes : CanGoOn c.format c.groups base = record {
        groups = stands.groups;
        groups_are = stands.groups_are;
        legal = subst (λ (b : ServerState). IsHistory b stands.groups) (only_base base is) stands.legal;
      } in
      none_bad c.format c.groups base (area_of c.slot) offset goes bad

-- one thing is said of a store
pub told_apart : AreToldApart
told_apart image =
    record {
      formatted = λ s stands. founds.formatted stands.contents image stands.holds;
      undamaged = undamaged;
      either = either;
    }
  where
    undamaged : (s : ServerState) (offset : ℕ) → StandsFor image s → IsDamagedAt image offset → ⊥
    undamaged s offset stands (InSlot whole damaged) = founds.undamaged stands.contents image stands.holds offset damaged
    undamaged s offset stands (InContents c holds wrong) = not_wrong c s (stands_by c image s holds stands) offset wrong

    either : (offset : ℕ) → journal.IsUnformatted image → IsDamagedAt image offset → ⊥
    either offset odd (InSlot whole damaged) = founds.unformatted_undamaged image offset whole damaged odd
    either offset odd (InContents c holds wrong) = founds.formatted c image holds odd
