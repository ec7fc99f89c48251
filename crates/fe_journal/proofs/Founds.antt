-- What a store that was read makes of its journal.
use Rattle.std.proofs.Common.{◌≡◌, ◌⊎◌, inl, inr, [], ◌∷◌, ℕ, ◌+◌, ◌-◌, ◌<◌, ◌≤◌, false, List, length, None, Result, sym, ◌∙◌, ap, subst, refl, arith}
use Rattle.std.specs.Prelude.{IsErrOf}
use Rattle.std.proofs.lemmas.Bool.{cases_lt, cases_eq}
use Rattle.std.proofs.lemmas.Option.{none-some}
use Rattle.fe_memory.specs.Memory.{out_of_memory}
use Rattle.fe_disk.specs.Disk.{LeavesJust, bytes_at}
use Rattle.fe_disk.proofs.Images.{length-bytes_at}
use Rattle.fe_journal.specs.Layout.{header_of, image_of, area_of, device_bytes, number_at, IsGateOpen, IsGateShut}
use Rattle.fe_format.specs.Layout.{magic_of, IsImageLength}
use Rattle.fe_journal.specs.Contents.{IsGroup, StandFrom, HoldsGroups, GroupFits, end_of_groups, Contents, Holds, IsValidAs, SlotCounts, generation_at, image_length_at, Cursor, Lists}
use Rattle.fe_journal.specs.Damage.{TellsFound, IsUnformatted, IsDamagedAt, NoGeneration, OddImage, OddGroup}
use Rattle.fe_journal.specs.Found.{IsFound, AsksToOpen}
use Rattle.fe_journal.specs.Journal.{JournalState, IsLeft, KeepsContents}
use Rattle.fe_journal.specs.Store.{IsStore, IsWholeStore}
use Rattle.fe_format.specs.declared.format.Format.{Format}
use Rattle.fe_format.specs.declared.format.Format.TheVariants.{One, Two}
use Rattle.fe_journal.specs.declared.fault.StoreFault.{StoreFault}
use Rattle.fe_journal.specs.declared.fault.StoreFault.TheVariants.{Unformatted, Damaged, Device, NoMemory}
use Rattle.fe_journal.specs.declared.opening.Found.{Found}
use Rattle.fe_journal.specs.declared.store.Store.{Store}
use Rattle.fe_journal.proofs.Bytes.{SameBytes, same_back, same_part, same_byte, known_same}
use Rattle.fe_journal.proofs.Frames.{groups_same, image_short}
use Rattle.fe_disk.specs.declared.disk.Disk.{Ghosts}

module _ (image : List ℕ) (store : Store) (whole : length image ≡ device_bytes) (sized : IsWholeStore store) (is : IsStore image store) where
  abbrev pub contents_of : Contents
  contents_of = record { slot = store.slot; format = store.header.format; generation = store.header.generation; image = store.parts.image.items; groups = is.read.ends.groups }

  long : length store.parts.image.items ≡ store.header.image_length
  long =
      ap (λ (l : List ℕ). length l) is.read.image_is
      ∙ length-bytes_at image (image_of store.slot) store.header.image_length (let s = sized.is_slot in omega (arith, whole, s, image_short store.header.format store.header.image_length is.length_fits))

  groups_there : HoldsGroups store.header.format image (area_of store.slot) 0 is.read.ends.groups
  groups_there =
      let area = store.parts.area.items in
      let groups = is.read.ends.groups in
      let end : store.parts.used ≡ end_of_groups groups = is.read.ends.at_is in
      let low : store.parts.used < 1048576 = sized.parts_whole.within in
      let slot : store.slot < 2 = sized.is_slot in
      let s : SameBytes area 0 image (area_of store.slot) 1048576 = same_back (known_same image (area_of store.slot) 1048576 area (omega (arith, whole, slot)) (sym is.read.area_is)) in
      groups_same store.header.format area image 0 (area_of store.slot) 0 groups (same_part s 0 (0 + end_of_groups groups) 0 (area_of store.slot) (omega (arith, end, low)) refl (omega arith))
      (λ is_open. is.read.ends.holds.ended (same_byte s (end_of_groups groups) (0 + (0 + end_of_groups groups)) (area_of store.slot + (0 + end_of_groups groups)) (omega (arith, end, low)) (omega arith) (omega arith) ∙ is_open))
      is.read.ends.holds

  pub store_holds : Holds contents_of image
  store_holds =
      record {
        whole = whole;
        counts = is.counts.0;
        generation_is = is.counts.1;
        numbered = is.numbered;
        length_is = is.counts.2 ∙ sym long;
        length_fits = subst (λ (n : ℕ). IsImageLength store.header.format n) (sym long) is.length_fits;
        image_is = ap (λ (n : ℕ). bytes_at image (image_of store.slot) n) long ∙ sym is.read.image_is;
        groups_are = groups_there;
      }

-- the journal after the groups, and the groups from the first on
abbrev pub opened_as : {D : Type 0} → D → Store → JournalState D
opened_as disk store = record { disk = disk; slot = store.slot; format = store.header.format; generation = store.header.generation; used = store.parts.used; begun = None; has_failed = false }

abbrev pub first_of : Store → Cursor
first_of store = record { bytes = store.parts.area.items; start = area_of store.slot; at = 0 }

module _ {D : Type 0} (model : Ghosts D) (disk : D) (store : Store) (whole : length (model.seen disk) ≡ device_bytes) (sized : IsWholeStore store) (is : IsStore (model.seen disk) store) (just : LeavesJust (model.seen disk) (model.may_leave disk)) where
  abbrev found_contents : Contents
  found_contents = contents_of (model.seen disk) store whole sized is

  opened_keeps : KeepsContents model (opened_as disk store) found_contents None
  opened_keeps =
      record {
        slot_is = refl;
        format_is = refl;
        generation_is = refl;
        used_is = is.read.ends.at_is;
        begun_is = refl;
        left = λ image left. subst (λ (l : List ℕ). IsLeft found_contents None l) (sym (just image left)) (record { holds = store_holds (model.seen disk) store whole sized is; shut = λ is_some. cc });
        drafted = λ d none. absurd (none-some d none);
        settled = λ _. just;
      }

  pub is_found : (found : Found D) → found.journal ≡ opened_as disk store → found.image.items ≡ store.parts.image.items → found.groups ≡ first_of store → IsFound model (model.seen disk) found
  is_found found journal_is image_is groups_are =
      record {
        contents = found_contents;
        holds = store_holds (model.seen disk) store whole sized is;
        keeps = subst (λ (j : JournalState D). KeepsContents model j found_contents None) (sym journal_is) opened_keeps;
        image_is = image_is;
        groups_are = subst (λ (s : Cursor). Lists s is.read.ends.groups) (sym groups_are) (store.header.format, is.read.ends.holds);
        start_is = ap (λ (s : Cursor). s.start) groups_are;
        from_the_first = ap (λ (s : Cursor). s.at) groups_are;
      }

-- groups that stand agree with those that an area holds
odd_none : (format : Format) (image : List ℕ) (area at : ℕ) (groups payloads : List (List ℕ)) → StandFrom format image area at groups → IsGateOpen image (area + (at + end_of_groups groups)) → (GroupFits format (at + end_of_groups groups) (number_at image (area + (at + end_of_groups groups) + 1) 4) → ⊥)
    → HoldsGroups format image area at payloads → ⊥
odd_none format image area at [] [] stand is_open odd holds = holds.ended is_open
odd_none format image area at [] (payload ∷ payloads) stand is_open odd holds =
    let first : IsGroup format image area at payload = holds.stand.0 in
    let same_at : at ≡ at + 0 = omega arith in
    let size : number_at image (area + (at + 0) + 1) 4 ≡ length payload = subst (λ (k : ℕ). number_at image (area + k + 1) 4 ≡ length payload) same_at first.length_is in
    odd (subst (λ (k : ℕ). GroupFits format k (number_at image (area + (at + 0) + 1) 4)) same_at (subst (λ (n : ℕ). GroupFits format at n) (sym size) first.fits))
odd_none format image area at (group ∷ groups) [] stand is_open odd holds =
    let same_at : at ≡ at + 0 = omega arith in
    holds.ended (subst (λ (k : ℕ). IsGateOpen image (area + k)) same_at stand.0.is_open)
odd_none format image area at (group ∷ groups) (payload ∷ payloads) stand is_open odd holds =
    let same : length payload ≡ length group = sym holds.stand.0.length_is ∙ stand.0.length_is in
    let same_at : at + (5 + length group + end_of_groups groups) ≡ at + (5 + length group) + end_of_groups groups = omega arith in
    let end : at + (5 + length payload + end_of_groups payloads) ≡ at + (5 + length group) + end_of_groups payloads = omega (arith, same) in
    odd_none format image area (at + (5 + length group)) groups payloads stand.1 (subst (λ (k : ℕ). IsGateOpen image (area + k)) same_at is_open)
    (λ fits. odd (subst (λ (k : ℕ). GroupFits format k (number_at image (area + k + 1) 4)) (sym same_at) fits))
    (record {
      stand = subst (λ (n : ℕ). StandFrom format image area (at + (5 + n)) payloads) same holds.stand.1;
      ended = subst (λ (k : ℕ). IsGateShut image (area + k)) end holds.ended;
    })

-- one slot counts, in one format
pub counts_one : (image : List ℕ) (slot other : ℕ) (f g : Format) → SlotCounts image slot f → SlotCounts image other g → slot ≡ other
counts_one image slot other f g one two =
    let low : slot < 2 = one.is_slot in
    let low_too : other < 2 = two.is_slot in
    elim (cases_eq slot other) [
      | inl same ↦ same
      | inr differ ↦
          let there : other ≡ 1 - slot = elim (cases_lt slot other) [ inl lt ↦ omega arith | inr le ↦ let lt : other < slot = elim (cases_lt other slot) [ inl l ↦ l | inr ge ↦ absurd (differ (omega arith)) ] in omega arith ] in
          let back : slot ≡ 1 - other = omega arith in
          let ahead = one.ahead g (subst (λ (k : ℕ). IsValidAs image k g) there two.valid) in
          let ahead_too = two.ahead f (subst (λ (k : ℕ). IsValidAs image k f) back one.valid) in
          let ahead_1 = subst (λ (k : ℕ). (generation_at image k < generation_at image slot) ⊎ ((generation_at image k ≡ generation_at image slot) × (slot ≡ 0))) (sym there) ahead in
          let ahead_2 = subst (λ (k : ℕ). (generation_at image k < generation_at image other) ⊎ ((generation_at image k ≡ generation_at image other) × (other ≡ 0))) (sym back) ahead_too in
          elim ahead_1 [
            | inl less ↦ elim ahead_2 [ inl more ↦ absurd (omega (arith, less, more)) | inr equal ↦ let e = equal.0 in absurd (omega (arith, less, e)) ]
            | inr equal ↦ elim ahead_2 [ inl more ↦ let e = equal.0 in absurd (omega (arith, more, e)) | inr zero_too ↦ equal.1 ∙ sym zero_too.1 ]
          ]
    ]

one_format : (f g : Format) → magic_of f ≡ magic_of g → f ≡ g
one_format One One same = refl
one_format One Two same = absurd (omega (arith, same))
one_format Two One same = absurd (omega (arith, same))
one_format Two Two same = refl

module _ (c : Contents) (image : List ℕ) (holds : Holds c image) where
  pub slot_same : (slot : ℕ) (f : Format) → SlotCounts image slot f → slot ≡ c.slot
  slot_same slot f counts = counts_one image slot c.slot f c.format counts holds.counts

  pub format_same : (slot : ℕ) (f : Format) → SlotCounts image slot f → f ≡ c.format
  format_same slot f counts =
      one_format f c.format (sym (subst (λ (k : ℕ). number_at image (header_of k) 8 ≡ magic_of f) (slot_same slot f counts) counts.valid.magic) ∙ holds.counts.valid.magic)

  pub undamaged : (offset : ℕ) → IsDamagedAt image offset → ⊥
  undamaged offset (NoGeneration slot f counts none at) =
      let is : generation_at image c.slot ≡ 0 = subst (λ (k : ℕ). generation_at image k ≡ 0) (slot_same slot f counts) none in
      let zero : c.generation ≡ 0 = sym holds.generation_is ∙ is in
      let numbered : 1 ≤ c.generation = holds.numbered in
      omega (arith, zero, numbered)
  undamaged offset (OddImage slot f counts numbered odd at) =
      odd (subst (λ (g : Format). IsImageLength g (image_length_at image slot)) (sym (format_same slot f counts))
      (subst (λ (k : ℕ). IsImageLength c.format (image_length_at image k)) (sym (slot_same slot f counts)) (subst (λ (n : ℕ). IsImageLength c.format n) (sym holds.length_is) holds.length_fits)))
  undamaged offset (OddGroup slot f groups counts numbered fits stand is_open odd at) =
      let held : HoldsGroups f image (area_of slot) 0 c.groups = subst (λ (g : Format). HoldsGroups g image (area_of slot) 0 c.groups) (sym (format_same slot f counts))
      (subst (λ (k : ℕ). HoldsGroups c.format image (area_of k) 0 c.groups) (sym (slot_same slot f counts)) holds.groups_are) in
      let same_at : end_of_groups groups ≡ 0 + end_of_groups groups = omega arith in
      odd_none f image (area_of slot) 0 groups c.groups stand (subst (λ (k : ℕ). IsGateOpen image (area_of slot + k)) same_at is_open)
      (λ there. odd (subst (λ (k : ℕ). GroupFits f k (number_at image (area_of slot + k + 1) 4)) (sym same_at) there)) held

  pub formatted : IsUnformatted image → ⊥
  formatted (inl odd) = odd holds.whole
  formatted (inr none) = none c.slot c.format holds.counts.is_slot holds.counts.valid

  -- contents are refused only for the device or for memory
  pub refused_only : (fault : StoreFault) → TellsFound fault image → (fault ≡ Device) ⊎ (fault ≡ NoMemory out_of_memory)
  refused_only Unformatted told = absurd (formatted told)
  refused_only (Damaged offset) told = absurd (undamaged offset told.1)
  refused_only Device told = inl refl
  refused_only (NoMemory error) told = inr refl

-- ---- the disk of a store that is opened

-- the fault is passed on, as another layer's maybe
pub opens_as : {D T U E F : Type 0} (model : Ghosts D) (below : E) (device : F) (first : Result T E) (result : Result U F) (old new : D)
    → AsksToOpen model below first old new → (IsErrOf result device → IsErrOf first below) → (IsErrOf first below → IsErrOf result device) → AsksToOpen model device result old new
opens_as model below device first result old new asks back forth =
    record {
      fault = (λ is. asks.fault.0 (back is), λ rises. forth (asks.fault.1 rises));
      still = λ none. asks.still (λ is. none (forth is));
      most = asks.most;
      honesty = asks.honesty;
      same_size = asks.same_size;
    }

-- ---- what is reported of a store that is unformatted

none_counts : (image : List ℕ) (slot : ℕ) (format : Format) → length image ≡ device_bytes → SlotCounts image slot format → IsUnformatted image → ⊥
none_counts image slot format whole counts (inl odd) = odd whole
none_counts image slot format whole counts (inr none) = none slot format counts.is_slot counts.valid

-- it is not damaged
pub unformatted_undamaged : (image : List ℕ) (offset : ℕ) → length image ≡ device_bytes → IsDamagedAt image offset → IsUnformatted image → ⊥
unformatted_undamaged image offset whole (NoGeneration slot format counts none at) odd = none_counts image slot format whole counts odd
unformatted_undamaged image offset whole (OddImage slot format counts numbered wrong at) odd = none_counts image slot format whole counts odd
unformatted_undamaged image offset whole (OddGroup slot format groups counts numbered fits stand is_open wrong at) odd = none_counts image slot format whole counts odd

-- but unformatted, where the device does not fail
pub unformatted_only : (image : List ℕ) (fault : StoreFault) → TellsFound fault image → IsUnformatted image → (fault ≡ Unformatted) ⊎ (fault ≡ Device)
unformatted_only image Unformatted told odd = inl refl
unformatted_only image (Damaged offset) told odd = absurd (unformatted_undamaged image offset told.0 told.1 odd)
unformatted_only image Device told odd = inr refl
unformatted_only image (NoMemory error) told odd = absurd (none_counts image told.slot told.format told.whole told.counts odd)
