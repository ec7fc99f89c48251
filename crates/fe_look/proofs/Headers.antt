-- What the headers of a store's slots say of it.
use Rattle.std.proofs.Common.{◌≡◌, ℕ, ◌+◌, ◌<◌, ◌≤◌, List, length, Option, Some, None, inl, inr, ⊎_elim, sym, ◌∙◌, subst, refl, arith}
use Rattle.std.proofs.lemmas.Bool.{cases_lt}
use Rattle.fe_format.specs.declared.format.Format.{Format}
use Rattle.fe_journal.specs.Layout.{header_of, number_at}
use Rattle.fe_journal.specs.Contents.{IsValidAs, SlotCounts, generation_at}
use Rattle.fe_journal.proofs.Bytes.{SameBytes, same_part, same_number_at, known_same}
use Rattle.fe_look.specs.Slot.{IsValid, IsHeaderOf, IsChosen, Counts, generation_in}
use Rattle.fe_look.specs.declared.header.HeaderBytes.{HeaderBytes}

-- a header that was read of a slot
module _ (image : List ℕ) (slot : ℕ) (header : HeaderBytes) (whole : length image ≡ 4202496) (is_slot : slot < 2) (is : IsHeaderOf image slot header) where
  fields_same : SameBytes image (header_of slot) header.fields 0 20
  fields_same = known_same image (header_of slot) 20 header.fields (omega arith) (sym is.fields_are)

  magic_same : number_at image (header_of slot) 8 ≡ number_at header.fields 0 8
  magic_same = same_number_at (same_part fields_same 0 8 (header_of slot) 0 (omega arith) (omega arith) refl)

  pub generation_there : generation_at image slot ≡ generation_in header
  generation_there = same_number_at (same_part fields_same 8 8 (header_of slot + 8) 8 (omega arith) refl refl)

  pub valid_there : (f : Format) → IsValid header f → IsValidAs image slot f
  valid_there f valid = record { is_open = sym is.gate_is ∙ valid.is_open; magic = magic_same ∙ valid.magic }

  pub valid_read : (f : Format) → IsValidAs image slot f → IsValid header f
  valid_read f valid = record { is_open = is.gate_is ∙ valid.is_open; magic = sym magic_same ∙ valid.magic }

module _ (image : List ℕ) (first second : HeaderBytes) (whole : length image ≡ 4202496) (one : IsHeaderOf image 0 first) (two : IsHeaderOf image 1 second) where
  none_valid : IsChosen first second None → Counts image None
  none_valid none = λ slot f is_slot valid.
      ⊎_elim (λ (low : slot < 1). let at : slot ≡ 0 = omega arith in none.0 f (valid_read image 0 first whole (omega arith) one f (subst (λ (k : ℕ). IsValidAs image k f) at valid)))
      (λ (high : 1 ≤ slot). let at : slot ≡ 1 = omega arith in none.1 f (valid_read image 1 second whole (omega arith) two f (subst (λ (k : ℕ). IsValidAs image k f) at valid)))
      (cases_lt slot 1)

  first_counts : (f : Format) → IsValid first f → ((g : Format) → IsValid second g → generation_in second ≤ generation_in first) → SlotCounts image 0 f
  first_counts f valid behind =
      record {
        is_slot = omega arith;
        valid = valid_there image 0 first whole (omega arith) one f valid;
        ahead = λ g other.
            let le : generation_in second ≤ generation_in first = behind g (valid_read image 1 second whole (omega arith) two g other) in
            let here : generation_at image 0 ≡ generation_in first = generation_there image 0 first whole (omega arith) one in
            let there : generation_at image 1 ≡ generation_in second = generation_there image 1 second whole (omega arith) two in
            ⊎_elim (λ (less : generation_at image 1 < generation_at image 0). inl less) (λ (more : generation_at image 0 ≤ generation_at image 1). inr (omega (arith, le, here, there, more), refl)) (cases_lt (generation_at image 1) (generation_at image 0));
      }

  second_counts : (f : Format) → IsValid second f → ((g : Format) → IsValid first g → generation_in first < generation_in second) → SlotCounts image 1 f
  second_counts f valid behind =
      record {
        is_slot = omega arith;
        valid = valid_there image 1 second whole (omega arith) two f valid;
        ahead = λ g other.
            let lt : generation_in first < generation_in second = behind g (valid_read image 0 first whole (omega arith) one g other) in
            let here : generation_at image 1 ≡ generation_in second = generation_there image 1 second whole (omega arith) two in
            let there : generation_at image 0 ≡ generation_in first = generation_there image 0 first whole (omega arith) one in
            inl (omega (arith, lt, here, there));
      }

  -- which slot counts, from what both headers say
  pub chosen_counts : (found : Option (ℕ × HeaderBytes)) → IsChosen first second found → Counts image found
  chosen_counts None is = none_valid is
  chosen_counts (Some (slot, header)) (inl is) =
      subst (λ (k : ℕ). Counts image (Some (k, header))) (sym is.0)
      (subst (λ (h : HeaderBytes). Counts image (Some (0, h))) (sym is.1) (one, (is.2.0, first_counts is.2.0 is.2.1 is.3)))
  chosen_counts (Some (slot, header)) (inr is) =
      subst (λ (k : ℕ). Counts image (Some (k, header))) (sym is.0)
      (subst (λ (h : HeaderBytes). Counts image (Some (1, h))) (sym is.1) (two, (is.2.0, second_counts is.2.0 is.2.1 is.3)))
