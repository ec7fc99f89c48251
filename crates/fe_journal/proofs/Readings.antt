-- What opening reads of the slots of a store.
use Rattle.std.proofs.Common.{◌≡◌, ◌⊎◌, ◌↔◌, ℕ, ◌+◌, ◌<◌, ◌≤◌, List, length, Option, Some, None, Result, Ok, Err, inl, inr, ⊎_elim, sym, ◌∙◌, subst, refl, arith}
use Rattle.std.proofs.lemmas.Bool.{cases_lt}
use Rattle.fe_memory.specs.Memory.{out_of_memory}
use Rattle.fe_disk.specs.Disk.{AddsNone, Rises, bytes_at}
use Rattle.fe_disk.specs.Runs.{HasElapsed}
use Rattle.fe_disk.proofs.Moments.{started, goes_on, joined, weaker}
use Rattle.fe_journal.specs.Layout.{header_of, area_of, area_bytes, device_bytes, number_at}
use Rattle.fe_format.specs.Layout.{IsImageLength}
use Rattle.fe_journal.specs.Contents.{GroupFits, end_of_groups, IsValidAs, generation_at}
use Rattle.fe_journal.specs.Damage.{TellsFound, HasSoundHeader, NoGeneration, OddImage, OddGroup}
use Rattle.fe_journal.specs.Store.{IsHeader, IsHeaderAt, IsCounting, IsOddAt, HeaderFault, GroupFault, CountsAs}
use Rattle.fe_journal.specs.Journal.{OnlyReads}
use Rattle.fe_format.specs.declared.format.Format.{Format}
use Rattle.fe_journal.specs.declared.header.Header.{Header}
use Rattle.fe_journal.specs.declared.fault.StoreFault.{StoreFault}
use Rattle.fe_journal.specs.declared.fault.StoreFault.TheVariants.{Unformatted, Damaged, Device, NoMemory}
use Rattle.fe_journal.proofs.Bytes.{SameBytes, same_back, same_part, same_byte, same_number_at, known_same}
use Rattle.fe_journal.proofs.Frames.{stand_same}
use Rattle.fe_disk.specs.declared.disk.Disk.{Ghosts}

-- a call that changes nothing only reads
pub call_reads : {D : Type 0} (model : Ghosts D) (old new : D) → ((image : List ℕ) → model.left_since old (model.moment old) image → model.may_leave old image)
    → model.seen new ≡ model.seen old → AddsNone (model.may_leave old) (model.may_leave new) → HasElapsed model old new → OnlyReads model old new
call_reads model old new only_now same adds_none time =
    record { same = same; adds_none = adds_none; run = goes_on model old old new (model.may_leave old) (started model old (model.may_leave old) only_now) time adds_none }

-- two calls that only read are one
pub reads_again : {D : Type 0} (model : Ghosts D) (old mid new : D)
    → OnlyReads model old mid → OnlyReads model mid new → OnlyReads model old new
reads_again model old mid new first second =
    record {
      same = second.same ∙ first.same;
      adds_none = λ image left. first.adds_none image (second.adds_none image left);
      run = joined model old mid new (model.may_leave old) first.run (weaker model mid new (model.may_leave mid) (model.may_leave old) first.adds_none second.run);
    }

-- the header in the bytes that were read of it
pub header_there : (image : List ℕ) (at : ℕ) (bytes : List ℕ) (header : Option Header) → bytes ≡ bytes_at image at 4096 → at + 4096 ≤ length image → IsHeader bytes 0 header → IsHeader image at header
header_there image at bytes None read fits none = λ format is_open magic.
    let s : SameBytes image at bytes 0 4096 = known_same image at 4096 bytes fits (sym read) in
    none format (sym (same_byte s 4095 (at + 4095) 4095 (omega arith) refl refl) ∙ is_open) (sym (same_number_at (same_part s 0 8 at 0 (omega arith) (omega arith) refl)) ∙ magic)
header_there image at bytes (Some header) read fits is =
    let s : SameBytes image at bytes 0 4096 = known_same image at 4096 bytes fits (sym read) in
    record {
      is_open = same_byte s 4095 (at + 4095) 4095 (omega arith) refl refl ∙ is.is_open;
      magic = same_number_at (same_part s 0 8 at 0 (omega arith) (omega arith) refl) ∙ is.magic;
      generation_is = same_number_at (same_part s 8 8 (at + 8) 8 (omega arith) refl refl) ∙ is.generation_is;
      length_is = same_number_at (same_part s 16 4 (at + 16) 16 (omega arith) refl refl) ∙ is.length_is;
    }

module _ (image : List ℕ) where
  valid_in : (slot : ℕ) (header : Header) → IsHeaderAt image (header_of slot) header → IsValidAs image slot header.format
  valid_in slot header is = record { is_open = is.is_open; magic = is.magic }

  invalid_in : (slot : ℕ) → IsHeader image (header_of slot) None → (format : Format) → IsValidAs image slot format → ⊥
  invalid_in slot none format valid = none format valid.is_open valid.magic

  none_valid : IsHeader image (header_of 0) None → IsHeader image (header_of 1) None → CountsAs image None
  none_valid first second = λ slot format is_slot valid.
      ⊎_elim (λ (low : slot < 1). let at : slot ≡ 0 = omega arith in invalid_in 0 first format (subst (λ (k : ℕ). IsValidAs image k format) at valid))
      (λ (high : 1 ≤ slot). let at : slot ≡ 1 = omega arith in invalid_in 1 second format (subst (λ (k : ℕ). IsValidAs image k format) at valid))
      (cases_lt slot 1)

  first_counts : (header : Header) (second : Option Header) → IsHeaderAt image (header_of 0) header → IsHeader image (header_of 1) second → ((other : Header) → second ≡ Some other → other.generation ≤ header.generation) → CountsAs image (Some (0, header))
  first_counts header None is none ahead =
      (record { is_slot = omega arith; valid = valid_in 0 header is; ahead = λ f valid. absurd (invalid_in 1 none f valid) }, is.generation_is, is.length_is)
  first_counts header (Some other) is there ahead =
      let le : other.generation ≤ header.generation = ahead other refl in
      let here : generation_at image 0 ≡ header.generation = is.generation_is in
      let is_other : generation_at image 1 ≡ other.generation = there.generation_is in (
        record {
          is_slot = omega arith;
          valid = valid_in 0 header is;
          ahead = λ f valid. ⊎_elim (λ (less : generation_at image 1 < generation_at image 0). inl less) (λ (more : generation_at image 0 ≤ generation_at image 1). inr (omega (arith, le, here, is_other, more), refl)) (cases_lt (generation_at image 1) (generation_at image 0));
        },
        is.generation_is,
        is.length_is,
      )

  second_counts : (first : Option Header) (header : Header) → IsHeader image (header_of 0) first → IsHeaderAt image (header_of 1) header → ((other : Header) → first ≡ Some other → other.generation < header.generation) → CountsAs image (Some (1, header))
  second_counts None header none is ahead =
      (record { is_slot = omega arith; valid = valid_in 1 header is; ahead = λ f valid. absurd (invalid_in 0 none f valid) }, is.generation_is, is.length_is)
  second_counts (Some other) header there is ahead =
      let lt : other.generation < header.generation = ahead other refl in
      let here : generation_at image 1 ≡ header.generation = is.generation_is in
      let is_other : generation_at image 0 ≡ other.generation = there.generation_is in (
        record { is_slot = omega arith; valid = valid_in 1 header is; ahead = λ f valid. inl (omega (arith, lt, here, is_other)) },
        is.generation_is,
        is.length_is,
      )

  -- which slot counts, from what both headers say
  pub counts_as : (first second : Option Header) (found : Option (ℕ × Header)) → IsHeader image (header_of 0) first → IsHeader image (header_of 1) second → IsCounting first second found → CountsAs image found
  counts_as first second None one two is =
      none_valid (subst (λ (o : Option Header). IsHeader image (header_of 0) o) is.0 one) (subst (λ (o : Option Header). IsHeader image (header_of 1) o) is.1 two)
  counts_as first second (Some (slot, header)) one two (inl is) =
      subst (λ (k : ℕ). CountsAs image (Some (k, header))) (sym is.0)
      (first_counts header second (subst (λ (o : Option Header). IsHeader image (header_of 0) o) is.1 one) two is.2)
  counts_as first second (Some (slot, header)) one two (inr is) =
      subst (λ (k : ℕ). CountsAs image (Some (k, header))) (sym is.0)
      (second_counts first header one (subst (λ (o : Option Header). IsHeader image (header_of 1) o) is.1 two) is.2)

  -- what is reported of a slot that counts
  pub header_tells : (slot : ℕ) (header : Header) (fault : StoreFault) → length image ≡ device_bytes → CountsAs image (Some (slot, header)) → HeaderFault slot header fault → TellsFound fault image
  header_tells slot header (Damaged offset) whole counts (inl none) = (whole, NoGeneration slot header.format counts.0 (counts.1 ∙ none.0) none.1)
  header_tells slot header (Damaged offset) whole counts (inr odd) =
      (whole, OddImage slot header.format counts.0 (let g = counts.1 in let n = odd.0 in omega (arith, g, n)) (λ fits. odd.1 (subst (λ (n : ℕ). IsImageLength header.format n) counts.2 fits)) odd.2)
  header_tells slot header Unformatted whole counts fault = absurd fault
  header_tells slot header Device whole counts fault = absurd fault
  header_tells slot header (NoMemory error) whole counts fault = absurd fault

  -- an odd group in the bytes that were read of the area
  pub group_tells : (slot : ℕ) (header : Header) (area : List ℕ) (fault : StoreFault) → length image ≡ device_bytes → slot < 2 → area ≡ bytes_at image (area_of slot) area_bytes → 1 ≤ header.generation → IsImageLength header.format header.image_length
      → CountsAs image (Some (slot, header)) → GroupFault slot header.format area fault → TellsFound fault image
  group_tells slot header area (Damaged offset) whole is_slot read numbered fits counts odd =
      let at = odd.0 in
      let within : at < 1048576 = odd.1 in
      let is : IsOddAt header.format area at = odd.2 in
      let at_is : at ≡ end_of_groups is.groups = is.at_is in
      let s : SameBytes area 0 image (area_of slot) 1048576 = same_back (known_same image (area_of slot) 1048576 area (omega (arith, whole, is_slot)) (sym read)) in (
        whole,
        OddGroup slot header.format is.groups counts.0 (let g = counts.1 in omega (arith, g, numbered)) (subst (λ (n : ℕ). IsImageLength header.format n) (sym counts.2) fits)
            (stand_same header.format area image 0 (area_of slot) 0 is.groups (same_part s 0 (0 + end_of_groups is.groups) 0 (area_of slot) (omega (arith, at_is, within)) refl (omega arith)) is.stand)
            (sym (same_byte s at at (area_of slot + end_of_groups is.groups) within (omega arith) (omega (arith, at_is))) ∙ is.is_open)
            (λ there.
            let room : end_of_groups is.groups + 6 ≤ 1048576 = let w = there.within in omega (arith, w) in
            let same : number_at area (at + 1) 4 ≡ number_at image (area_of slot + end_of_groups is.groups + 1) 4 = same_number_at (same_part s (at + 1) 4 (at + 1) (area_of slot + end_of_groups is.groups + 1) (omega (arith, at_is, room)) (omega arith) (omega (arith, at_is))) in
            is.odd (subst (λ (k : ℕ). GroupFits header.format k (number_at area (at + 1) 4)) (sym at_is) (subst (λ (n : ℕ). GroupFits header.format (end_of_groups is.groups) n) (sym same) there)))
            (omega (arith, odd.3, at_is)),
      )
  group_tells slot header area Unformatted whole is_slot read numbered fits counts fault = absurd fault
  group_tells slot header area Device whole is_slot read numbered fits counts fault = absurd fault
  group_tells slot header area (NoMemory error) whole is_slot read numbered fits counts fault = absurd fault

  -- a slot that counts, with a header that was tested
  pub sound_by : (slot : ℕ) (header : Header) → length image ≡ device_bytes → CountsAs image (Some (slot, header)) → 1 ≤ header.generation → IsImageLength header.format header.image_length → HasSoundHeader image
  sound_by slot header whole counts numbered fits =
      record {
        slot = slot;
        format = header.format;
        whole = whole;
        counts = counts.0;
        numbered = (let g = counts.1 in omega (arith, g, numbered));
        length_fits = subst (λ (n : ℕ). IsImageLength header.format n) (sym counts.2) fits;
      }

  -- faults of the device and of memory say nothing of the image
  pub nothing_told : (fault : StoreFault) → HasSoundHeader image → (fault ≡ Device) ⊎ (fault ≡ NoMemory out_of_memory) → TellsFound fault image
  nothing_told fault sound (inl is) = subst (λ (f : StoreFault). TellsFound f image) (sym is) tt
  nothing_told fault sound (inr is) = subst (λ (f : StoreFault). TellsFound f image) (sym is) sound

-- a fault that is handed on
pub same_fault : {T : Type 0} (r : Result T StoreFault) (given fault : StoreFault) → r ≡ Err given → given ≡ fault → r ≡ Err Device → fault ≡ Device
same_fault r given fault is same device = cc

pub fault_back : {T U : Type 0} (r : Result T StoreFault) (given fault : StoreFault) → r ≡ Err given → given ≡ fault → ◌≡◌ {A = Result U StoreFault} (Err fault) (Err Device) → r ≡ Err Device
fault_back r given fault is same device = let there : fault ≡ Device = cc in cc

-- faults of the device are counted, from a call on after which the count stands as before
pub counted : {T : Type 0} (r : Result T StoreFault) (before since now : ℕ) → since ≡ before → (Rises before since → ⊥) → (r ≡ Err Device → Rises since now) → ((r ≡ Err Device → ⊥) → now ≡ since) → (r ≡ Err Device) ↔ Rises before now
counted (Ok x) before since now stood none fault still =
    (λ e. absurd (cc), λ rises. absurd (none (subst (λ (n : ℕ). Rises before n) (still (λ e. cc)) rises)))
counted (Err Device) before since now stood none fault still =
    (λ e. subst (λ (n : ℕ). Rises n now) stood (fault e), λ _. refl)
counted (Err Unformatted) before since now stood none fault still =
    (λ e. absurd (cc), λ rises. absurd (none (subst (λ (n : ℕ). Rises before n) (still (λ e. cc)) rises)))
counted (Err (Damaged offset)) before since now stood none fault still =
    (λ e. absurd (cc), λ rises. absurd (none (subst (λ (n : ℕ). Rises before n) (still (λ e. cc)) rises)))
counted (Err (NoMemory out_of_memory)) before since now stood none fault still =
    (λ e. absurd (cc), λ rises. absurd (none (subst (λ (n : ℕ). Rises before n) (still (λ e. cc)) rises)))
