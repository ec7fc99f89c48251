-- What is read of a store just formatted.
use Rattle.std.proofs.Common.{◌≡◌, ℕ, ◌+◌, ◌≤◌, List, [], ◌∷◌, length, get_or, None, inl, inr, sym, ◌∙◌, ap, subst, refl, arith}
use Rattle.fe_disk.specs.Disk.{IsTorn, LeavesJust, bytes_at, after_write}
use Rattle.fe_disk.proofs.Images.{IsTorn-after_write, bytes_at-after_write, bytes_at_elsewhere}
use Rattle.fe_journal.specs.Layout.{header_of, gate_of, image_of, area_of, IsGateOpen, IsGateShut}
use Rattle.fe_format.specs.Layout.{IsImageLength}
use Rattle.fe_journal.specs.Contents.{Holds, empty_image, first_contents}
use Rattle.fe_journal.specs.Journal.{JournalState, KeepsContents, new_journal, header_fields, after_commit, IsCleared, IsFirstSlot}
use Rattle.fe_format.specs.declared.format.Format.{Format}
use Rattle.fe_format.specs.declared.format.Format.TheVariants.{One, Two}
use Rattle.fe_journal.proofs.Bytes.{same_back, same_through, same_byte, torn_same, written_same, known_same}
use Rattle.fe_journal.proofs.Spelled.{HasFields, fields_spelled, length-header_fields}
use Rattle.fe_disk.specs.declared.disk.Disk.{Ghosts}

-- the header and the empty image, written after closed gates
pub first_written : (format : Format) (seen mid new fields : List ℕ) (header image : ℕ) → length seen ≡ 4202496 → IsCleared seen → header ≡ header_of 0 → image ≡ image_of 0 → fields ≡ header_fields format 1 24
    → mid ≡ after_write seen header fields → new ≡ after_write mid image empty_image → IsFirstSlot format new
first_written format seen mid new fields header image whole cleared header_is image_at fields_are mid_is new_is =
    let twenty : length fields ≡ 20 = ap (λ (l : List ℕ). length l) fields_are ∙ length-header_fields format 1 24 in
    let fits : header + length fields ≤ length seen = omega arith in
    let torn = subst (λ (l : List ℕ). IsTorn header (length fields) seen l) (sym mid_is) (IsTorn-after_write seen header fields fits) in
    let mid_whole : length mid ≡ length seen = torn.whole in
    let room : image + 24 ≤ length mid = omega arith in
    let again = subst (λ (l : List ℕ). IsTorn image 24 mid l) (sym new_is) (IsTorn-after_write mid image empty_image room) in
    let written : bytes_at mid header (length fields) ≡ fields = ap (λ (l : List ℕ). bytes_at l header (length fields)) mid_is ∙ bytes_at-after_write seen header fields fits in
    let read : bytes_at new image 24 ≡ empty_image = ap (λ (l : List ℕ). bytes_at l image 24) new_is ∙ bytes_at-after_write mid image empty_image room in
    let kept : bytes_at new header 20 ≡ bytes_at mid header 20 = bytes_at_elsewhere image 24 mid new again header 20 (inl (omega arith)) in
    record {
      cleared = record {
        first = λ is_open. cleared.first (sym (torn.above (gate_of 0) (omega arith)) ∙ sym (again.below (gate_of 0) (omega arith)) ∙ is_open);
        second = λ is_open. cleared.second (sym (torn.above (gate_of 1) (omega arith)) ∙ sym (again.above (gate_of 1) (omega arith)) ∙ is_open);
      };
      fields_are = subst (λ (k : ℕ). bytes_at new k 20 ≡ header_fields format 1 24) header_is (kept ∙ subst (λ (n : ℕ). bytes_at mid header n ≡ fields) twenty written ∙ fields_are);
      image_is = subst (λ (k : ℕ). bytes_at new k 24 ≡ empty_image) image_at read;
    }

empty_allowed : (format : Format) → IsImageLength format 24
empty_allowed One = record { some = omega arith; within = omega arith }
empty_allowed Two = record { some = omega arith; within = omega arith }

abbrev closed_byte : List ℕ
closed_byte = 0 ∷ []

abbrev open_byte : List ℕ
open_byte = 1 ∷ []

-- an area that begins with a closed gate, and then the header gate opened
module _ (format : Format) (seen : List ℕ) (area gate : ℕ) (whole : length seen ≡ 4202496) (first : IsFirstSlot format seen) (area_is : area ≡ area_of 0) (gate_is : gate ≡ gate_of 0) where
  abbrev staged : List ℕ
  staged = after_write seen area closed_byte

  abbrev last : List ℕ
  last = after_commit seen area closed_byte gate

  fits : area + 1 ≤ length seen
  fits = omega arith

  torn : IsTorn area 1 seen staged
  torn = IsTorn-after_write seen area closed_byte fits

  room : gate + 1 ≤ length staged
  room = omega (arith, torn.whole)

  again : IsTorn gate 1 staged last
  again = IsTorn-after_write staged gate open_byte room

  fields : HasFields last (header_of 0) format 1 24
  fields =
      let known = known_same seen (header_of 0) 20 (header_fields format 1 24) (omega arith) first.fields_are in
      let before = torn_same area 1 seen staged torn (header_of 0) 20 (inl (omega arith)) (omega arith) in
      let after = torn_same gate 1 staged last again (header_of 0) 20 (inl (omega arith)) (omega (arith, torn.whole)) in
      fields_spelled last (header_of 0) format 1 24 (omega arith) (omega arith) (same_through (same_back after) (same_through (same_back before) known))

  is_open : IsGateOpen last (gate_of 0)
  is_open = subst (λ (k : ℕ). get_or last k 0 ≡ 1) gate_is (same_byte (written_same staged gate open_byte room) 0 gate 0 (omega arith) (omega arith) refl)

  ended : IsGateShut last (area_of 0)
  ended =
      let zero : get_or staged area 0 ≡ 0 = same_byte (written_same seen area closed_byte fits) 0 area 0 (omega arith) (omega arith) refl in
      let still : get_or last area 0 ≡ 0 = again.above area (omega arith) ∙ zero in
      subst (λ (k : ℕ). IsGateShut last k) area_is (λ one. omega (arith, still, one))

  second : IsGateShut last (gate_of 1)
  second = λ one. first.cleared.second (sym (torn.above (gate_of 1) (omega arith)) ∙ sym (again.above (gate_of 1) (omega arith)) ∙ one)

  holds : Holds (first_contents format) last
  holds = record {
    whole = again.whole ∙ torn.whole ∙ whole;
    counts = record {
      is_slot = omega arith;
      valid = record { is_open = is_open; magic = fields.magic };
      ahead = λ f valid. absurd (second valid.is_open);
    };
    generation_is = fields.generation_is;
    numbered = omega arith;
    length_is = fields.length_is;
    length_fits = empty_allowed format;
    image_is = bytes_at_elsewhere gate 1 staged last again (image_of 0) 24 (inr (omega arith)) ∙ bytes_at_elsewhere area 1 seen staged torn (image_of 0) 24 (inl (omega arith)) ∙ first.image_is;
    groups_are = record { stand = tt; ended = ended };
  }

  pub first_holds : (new : List ℕ) → new ≡ last → Holds (first_contents format) new
  first_holds new is = subst (λ (l : List ℕ). Holds (first_contents format) l) (sym is) holds

-- the journal of a new store
pub first_keeps : {D : Type 0} (model : Ghosts D) (journal : JournalState D) (disk : D) (format : Format)
    → journal ≡ new_journal format disk
    → Holds (first_contents format) (model.seen disk) → LeavesJust (model.seen disk) (model.may_leave disk) → KeepsContents model journal (first_contents format) None
first_keeps {D} model journal disk format journal_is holds just =
    subst (λ (j : JournalState D). KeepsContents model j (first_contents format) None) (sym journal_is)
    (record {
      slot_is = refl;
      format_is = refl;
      generation_is = refl;
      used_is = refl;
      begun_is = refl;
      left = λ image left. record { holds = subst (λ (l : List ℕ). Holds (first_contents format) l) (sym (just image left)) holds; shut = λ is. cc };
      drafted = λ e is. cc;
      settled = λ _. just;
    })
