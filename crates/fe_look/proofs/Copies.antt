-- A store that has the slot that counts alone says the same as the store.
use Rattle.std.proofs.Common.{◌≡◌, ℕ, ◌+◌, ◌<◌, ◌≤◌, List, [], ◌∷◌, length, get_or, Option, Some, None, inl, inr, ⊎_elim, sym, ◌∙◌, subst, refl, arith}
use Rattle.std.proofs.lemmas.Bool.{cases_lt}
use Rattle.fe_format.specs.Layout.{IsImageLength}
use Rattle.fe_format.specs.declared.format.Format.{Format}
use Rattle.fe_journal.specs.Layout.{header_of, gate_of, image_of, area_of, other_than, IsGateOpen, IsGateShut}
use Rattle.fe_journal.specs.Contents.{HoldsGroups, end_of_groups, Contents, Holds, IsValidAs, SlotCounts, generation_at, image_length_at}
use Rattle.fe_journal.specs.Damage.{IsUnformatted, IsDamagedAt, NoGeneration, OddImage, OddGroup}
use Rattle.fe_journal.proofs.Bytes.{SameBytes, same_back, same_part, same_bytes_at, same_number_at}
use Rattle.fe_journal.proofs.Frames.{image_short}
use Rattle.fe_journal.proofs.Founds.{counts_one}
use Rattle.fe_look.specs.Reading.{IsCopyOf}
use Rattle.fe_look.specs.Slot.{Counts, GatesEnd, IsAreaCopied, IsSlotCopy}
use Rattle.fe_look.specs.declared.header.HeaderBytes.{HeaderBytes}
use Rattle.fe_look.proofs.Areas.{SameGroups, same_to_end, same_whole, gates_same}
use Rattle.fe_look.proofs.Slots.{equal_same}

-- What is read of a slot is the same in both, and its header is open in ys.
pub record SameSlot (xs ys : List ℕ) (slot : ℕ) : Type 0 where
  pub whole : length ys ≡ length xs
  pub fields : SameBytes xs (header_of slot) ys (header_of slot) 20
  pub is_open : IsGateOpen ys (gate_of slot)
  pub image : SameBytes xs (image_of slot) ys (image_of slot) 1048576
  pub groups : SameGroups xs ys (area_of slot)

module _ (xs ys : List ℕ) (slot : ℕ) (same : SameSlot xs ys slot) where
  generation_same : generation_at ys slot ≡ generation_at xs slot
  generation_same = sym (same_number_at (same_part same.fields 8 8 (header_of slot + 8) (header_of slot + 8) (omega arith) refl refl))

  length_same : image_length_at ys slot ≡ image_length_at xs slot
  length_same = sym (same_number_at (same_part same.fields 16 4 (header_of slot + 16) (header_of slot + 16) (omega arith) refl refl))

  valid_same : (f : Format) → IsValidAs xs slot f → IsValidAs ys slot f
  valid_same f valid = record { is_open = same.is_open; magic = sym (same_number_at (same_part same.fields 0 8 (header_of slot) (header_of slot) (omega arith) (omega arith) (omega arith))) ∙ valid.magic }

  -- a slot that counts in ys too, in whatever format
  counts_same : (f g : Format) → SlotCounts ys slot f → SlotCounts xs slot g → SlotCounts ys slot g
  counts_same f g there counts = record { is_slot = there.is_slot; valid = valid_same g counts.valid; ahead = there.ahead }

  groups_same : (f : Format) (payloads : List (List ℕ)) → HoldsGroups f xs (area_of slot) 0 payloads → HoldsGroups f ys (area_of slot) 0 payloads
  groups_same f payloads holds =
      let here : area_of slot + (0 + end_of_groups payloads) ≡ area_of slot + end_of_groups payloads = omega arith in
      record {
        stand = same.groups.stand f payloads holds.stand;
        ended = subst (λ (k : ℕ). IsGateShut ys k) (sym here) (same.groups.shut f payloads holds.stand (subst (λ (k : ℕ). IsGateShut xs k) here holds.ended));
      }

module _ (xs ys : List ℕ) (slot : ℕ) (f : Format) (same : SameSlot xs ys slot) (here : SlotCounts xs slot f) (there : SlotCounts ys slot f) where
  slot_is : (k : ℕ) (g : Format) → SlotCounts xs k g → slot ≡ k
  slot_is k g counts = counts_one xs slot k f g here counts

  same_at : (k : ℕ) → slot ≡ k → SameSlot xs ys k
  same_at k is = subst (λ (n : ℕ). SameSlot xs ys n) is same

  counts_at : (k : ℕ) (g : Format) → SlotCounts xs k g → SlotCounts ys k g
  counts_at k g counts = let is = slot_is k g counts in counts_same xs ys k (same_at k is) f g (subst (λ (n : ℕ). SlotCounts ys n f) is there) counts

  pub holds_same : (c : Contents) → Holds c xs → Holds c ys
  holds_same c holds =
      let s : SameSlot xs ys c.slot = same_at c.slot (slot_is c.slot c.format holds.counts) in
      let short = image_short c.format (length c.image) holds.length_fits in
      record {
        whole = s.whole ∙ holds.whole;
        counts = counts_at c.slot c.format holds.counts;
        generation_is = generation_same xs ys c.slot s ∙ holds.generation_is;
        numbered = holds.numbered;
        length_is = length_same xs ys c.slot s ∙ holds.length_is;
        length_fits = holds.length_fits;
        image_is = sym (same_bytes_at (same_part s.image 0 (length c.image) (image_of c.slot) (image_of c.slot) (omega arith) (omega arith) (omega arith))) ∙ holds.image_is;
        groups_are = groups_same xs ys c.slot s c.format c.groups holds.groups_are;
      }

  pub damage_same : (offset : ℕ) → IsDamagedAt xs offset → IsDamagedAt ys offset
  damage_same offset (NoGeneration k g counts none at) =
      let s : SameSlot xs ys k = same_at k (slot_is k g counts) in
      NoGeneration k g (counts_at k g counts) (generation_same xs ys k s ∙ none) at
  damage_same offset (OddImage k g counts numbered odd at) =
      let s : SameSlot xs ys k = same_at k (slot_is k g counts) in
      OddImage k g (counts_at k g counts) (let e = generation_same xs ys k s in omega (arith, e, numbered)) (λ fits. odd (subst (λ (n : ℕ). IsImageLength g n) (length_same xs ys k s) fits)) at
  damage_same offset (OddGroup k g groups counts numbered fits stand is_open odd at) =
      let s : SameSlot xs ys k = same_at k (slot_is k g counts) in
      OddGroup k g groups (counts_at k g counts) (let e = generation_same xs ys k s in omega (arith, e, numbered)) (subst (λ (n : ℕ). IsImageLength g n) (sym (length_same xs ys k s)) fits) (s.groups.stand g groups stand)
      (s.groups.opens g groups stand is_open) (λ there. odd (s.groups.fits g groups stand is_open there)) at

-- A slot that was copied into zeros.
module _ (image zeros copy : List ℕ) (slot : ℕ) (header : HeaderBytes) (whole : length image ≡ 4202496) (room : length zeros ≡ 4202496) (zero : (i : ℕ) → get_or zeros i 0 ≡ 0) (found : Counts image (Some (slot, header)))
    (is : IsSlotCopy image slot header.fields zeros copy) where
  low : slot < 2
  low = found.1.1.is_slot

  long : length copy ≡ 4202496
  long = is.elsewhere.whole ∙ room

  both_ways : (end : Option ℕ) → IsAreaCopied image copy (area_of slot) end → SameGroups image copy (area_of slot) × SameGroups copy image (area_of slot)
  both_ways None area =
      let s : SameBytes copy (area_of slot) image (area_of slot) 1048576 = (let l = long in let k = low in equal_same copy (area_of slot) image (area_of slot) 1048576 (omega (arith, l, k)) (omega (arith, k)) area) in
      (same_whole image copy (area_of slot) (same_back s), same_whole copy image (area_of slot) s)
  both_ways (Some end) area =
      let s : SameBytes copy (area_of slot) image (area_of slot) end = (let l = long in let k = low in let e = area.0 in equal_same copy (area_of slot) image (area_of slot) end (omega (arith, l, k, e)) (omega (arith, k, e)) area.2) in
      let there = gates_same image copy (area_of slot) 0 area.1.lengths end (same_back s) area.3 area.1.gates in
      (same_to_end image copy (area_of slot) end (same_back s) area.3 area.1.lengths area.1.gates, same_to_end copy image (area_of slot) end s (ended area.1.lengths 0 area.1.gates) area.1.lengths there)
    where
      ended : (ns : List ℕ) (at : ℕ) → GatesEnd image (area_of slot) at ns end → IsGateShut image (area_of slot + end)
      ended [] at gates = subst (λ (k : ℕ). IsGateShut image (area_of slot + k)) gates.0 gates.1
      ended (n ∷ ns) at gates = ended ns (at + (5 + n)) gates.2

  header_same : SameBytes image (header_of slot) copy (header_of slot) 20
  header_same = let l = long in let k = low in equal_same image (header_of slot) copy (header_of slot) 20 (omega (arith, k)) (omega (arith, l, k)) (sym found.0.fields_are ∙ sym is.fields_are)

  image_same : SameBytes image (image_of slot) copy (image_of slot) 1048576
  image_same = let l = long in let k = low in equal_same image (image_of slot) copy (image_of slot) 1048576 (omega (arith, k)) (omega (arith, l, k)) (sym is.image_is)

  there : SameSlot image copy slot
  there = record { whole = long ∙ sym whole; fields = header_same; is_open = is.is_open; image = image_same; groups = (both_ways is.end is.area_is).0 }

  back : SameSlot copy image slot
  back = record { whole = whole ∙ sym long; fields = same_back header_same; is_open = found.1.1.valid.is_open; image = same_back image_same; groups = (both_ways is.end is.area_is).1 }

  -- the other slot is zeros
  other_shut : IsGateShut copy (gate_of (other_than slot))
  other_shut is_open =
      let k = low in
      let none : get_or zeros (gate_of (other_than slot)) 0 ≡ 0 = zero (gate_of (other_than slot)) in
      let same : get_or copy (gate_of (other_than slot)) 0 ≡ get_or zeros (gate_of (other_than slot)) 0 =
      ⊎_elim (λ (first : slot < 1). is.elsewhere.above (gate_of (other_than slot)) (omega arith)) (λ (second : 1 ≤ slot). is.elsewhere.below (gate_of (other_than slot)) (omega arith)) (cases_lt slot 1) in
      absurd (omega (arith, same, none, is_open))

  counts_there : SlotCounts copy slot found.1.0
  counts_there = record { is_slot = low; valid = valid_same image copy slot there found.1.0 found.1.1.valid; ahead = λ g valid. absurd (other_shut valid.is_open) }

  not_unformatted : (l : List ℕ) → length l ≡ 4202496 → IsValidAs l slot found.1.0 → IsUnformatted l → ⊥
  not_unformatted l size valid (inl odd) = odd size
  not_unformatted l size valid (inr none) = none slot found.1.0 low valid

  pub copy_is : IsCopyOf image copy
  copy_is =
      let f = found.1.0 in
      record {
        whole = long ∙ sym whole;
        holds = λ c. (holds_same image copy slot f there found.1.1 counts_there c, holds_same copy image slot f back counts_there found.1.1 c);
        unformatted = (λ odd. absurd (not_unformatted image whole found.1.1.valid odd), λ odd. absurd (not_unformatted copy long counts_there.valid odd));
        damaged = λ offset. (damage_same image copy slot f there found.1.1 counts_there offset, damage_same copy image slot f back counts_there found.1.1 offset);
      }
