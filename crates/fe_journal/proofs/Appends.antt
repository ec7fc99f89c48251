-- What a stop leaves while a group is appended.
use Rattle.std.proofs.Common.{◌≡◌, ◌⊎◌, ℕ, ◌+◌, ◌<◌, ◌≤◌, List, [], ◌∷◌, ◌++◌, length, get_or, inl, inr, ⊎_elim, sym, ◌∙◌, ap, subst, refl, arith}
use Rattle.std.proofs.lemmas.Bool.{cases_lt, cases_eq}
use Rattle.fe_disk.specs.Disk.{IsTorn, bytes_at, after_write}
use Rattle.fe_disk.proofs.Images.{length-after_write, IsTorn-after_write}
use Rattle.fe_journal.specs.Layout.{header_of, area_of, other_than, IsGateOpen, IsGateShut, number_at}
use Rattle.fe_journal.specs.Contents.{IsGroup, GroupFits, end_of_groups, after_gate, Contents, Holds, HoldsEither, with_group}
use Rattle.fe_journal.specs.Journal.{IsLeftInCommit, after_commit}
use Rattle.fe_journal.proofs.Bytes.{SameBytes, same_part, same_byte, same_through, same_back, torn_same, written_same}
use Rattle.fe_journal.proofs.Frames.{groups_same, stand_same, stand_more, end_of_groups-more, NoRise, same_no_rise, holds_as, holds_same}
use Rattle.fe_journal.proofs.Spelled.{length-after_gate, spelled}

-- a range in the one slot is apart from the other slot
pub slots_apart : (slot at n a m : ℕ) → slot < 2 → header_of slot ≤ at → at + n ≤ header_of slot + 2101248 → header_of (other_than slot) ≤ a → a + m ≤ header_of (other_than slot) + 2101248 → (a + m ≤ at) ⊎ (at + n ≤ a)
slots_apart slot at n a m is_slot from to low high = ⊎_elim (λ (first : slot < 1). inr (omega arith)) (λ (second : 1 ≤ slot). inl (omega arith)) (cases_lt slot 1)

shut_by_zero : (bytes : List ℕ) (at : ℕ) → get_or bytes at 0 ≡ 0 → IsGateShut bytes at
shut_by_zero bytes at is = λ is_open. omega (arith, is, is_open)

abbrev open_byte : List ℕ
open_byte = 1 ∷ []

module _ (c : Contents) (payload bytes : List ℕ) (gate : ℕ) (at_gate : gate ≡ area_of c.slot + end_of_groups c.groups) (fits : GroupFits c.format (end_of_groups c.groups) (length payload)) (bytes_are : bytes ≡ after_gate payload) where
  long : length bytes ≡ 5 + length payload
  long = ap (λ (l : List ℕ). length l) bytes_are ∙ length-after_gate payload

  -- bytes torn in the area leave the slot's bytes before them, and the other slot
  torn_before : (at n : ℕ) (old new : List ℕ) → Holds c old → IsTorn at n old new → area_of c.slot ≤ at → at + n ≤ header_of c.slot + 2101248 → (m : ℕ) → header_of c.slot + m ≤ at → SameBytes old (header_of c.slot) new (header_of c.slot) m
  torn_before at n old new holds torn from to m low =
      let is_slot : c.slot < 2 = holds.counts.is_slot in
      let whole : length old ≡ 4202496 = holds.whole in
      torn_same at n old new torn (header_of c.slot) m (inl low) (omega arith)

  pub other_before : (at n : ℕ) (old new : List ℕ) → Holds c old → IsTorn at n old new → area_of c.slot ≤ at → at + n ≤ header_of c.slot + 2101248 → (m : ℕ) → m ≤ 2101248
      → SameBytes old (header_of (other_than c.slot)) new (header_of (other_than c.slot)) m
  other_before at n old new holds torn from to m low =
      let is_slot : c.slot < 2 = holds.counts.is_slot in
      let whole : length old ≡ 4202496 = holds.whole in
      torn_same at n old new torn (header_of (other_than c.slot)) m (slots_apart c.slot at n (header_of (other_than c.slot)) m is_slot (omega arith) to (omega arith) (omega arith)) (omega arith)

  within : gate + 1 + length bytes ≤ header_of c.slot + 2101248
  within = omega (arith, long, fits.within)

  -- the contents stay while the bytes after the closed gate are torn
  pub bytes_torn_holds : (was image : List ℕ) → Holds c was → IsTorn (gate + 1) (length bytes) was image → Holds c image
  bytes_torn_holds was image holds torn =
      holds_same c was image torn.whole
      (torn_before (gate + 1) (length bytes) was image holds torn (omega arith) within (1052672 + end_of_groups c.groups) (omega arith))
      (λ is_open. holds.groups_are.ended (subst (λ (k : ℕ). get_or was k 0 ≡ 1) (omega arith) (sym (torn.below gate (omega arith)) ∙ subst (λ (k : ℕ). get_or image k 0 ≡ 1) (omega arith) is_open)))
      (same_no_rise was image (other_than c.slot) (other_before (gate + 1) (length bytes) was image holds torn (omega arith) within 4096 (omega arith)))
      holds

  module _ (seen : List ℕ) (holds : Holds c seen) where
    abbrev staged : List ℕ
    staged = after_write seen (gate + 1) bytes

    room : gate + 1 + length bytes ≤ length seen
    room = let is_slot : c.slot < 2 = holds.counts.is_slot in omega (arith, within, holds.whole)

    pub staged_holds : Holds c staged
    staged_holds = bytes_torn_holds seen (after_write seen (gate + 1) bytes) holds (IsTorn-after_write seen (gate + 1) bytes room)

    module _ (image : List ℕ) (torn : IsTorn gate 1 (after_write seen (gate + 1) bytes) image) where
      -- all but the gate is as it was written
      below : (m : ℕ) → header_of c.slot + m ≤ gate → SameBytes staged (header_of c.slot) image (header_of c.slot) m
      below m low = torn_before gate 1 staged image staged_holds torn (omega arith) (omega (arith, within)) m low

      other : NoRise staged image (other_than c.slot)
      other = same_no_rise staged image (other_than c.slot) (other_before gate 1 staged image staged_holds torn (omega arith) (omega (arith, within)) 4096 (omega arith))

      -- a gate that is not open leaves the contents
      pub still_shut : (IsGateOpen image gate → ⊥) → Holds c image
      still_shut shut =
          holds_as c staged image c.groups torn.whole (below 1052672 (omega arith)) other
          (groups_same c.format staged image (area_of c.slot) (area_of c.slot) 0 c.groups (same_part (below (1052672 + end_of_groups c.groups) (omega arith)) 1052672 (0 + end_of_groups c.groups) (area_of c.slot) (area_of c.slot) (omega arith) refl refl)
          (λ is_open. shut (subst (λ (k : ℕ). get_or image k 0 ≡ 1) (omega arith) is_open)) staged_holds.groups_are)
          staged_holds

      behind : SameBytes image (gate + 1) (after_gate payload) 0 (5 + length payload)
      behind =
          let written = written_same seen (gate + 1) bytes room in
          let after = torn_same gate 1 staged image torn (gate + 1) (length bytes) (inr (omega arith)) (omega (arith, length-after_write seen (gate + 1) bytes room, room)) in
          subst (λ (n : ℕ). SameBytes image (gate + 1) (after_gate payload) 0 n) long
          (subst (λ (l : List ℕ). SameBytes image (gate + 1) l 0 (length bytes)) bytes_are (same_through (same_back after) written))

      -- an open one adds the group
      pub opened : IsGateOpen image gate → Holds (with_group c payload) image
      opened is_open =
          let is = spelled image (gate + 1) payload (omega (arith, fits.within)) behind in
          let group : IsGroup c.format image (area_of c.slot) (0 + end_of_groups c.groups) payload = record {
            is_open = subst (λ (k : ℕ). get_or image k 0 ≡ 1) (omega arith) is_open;
            length_is = subst (λ (k : ℕ). number_at image k 4 ≡ length payload) (omega arith) is.length_is;
            fits = subst (λ (k : ℕ). GroupFits c.format k (length payload)) (omega arith) fits;
            payload_is = subst (λ (k : ℕ). bytes_at image k (length payload) ≡ payload) (omega arith) is.payload_is;
          } in
          let stand = stand_same c.format staged image (area_of c.slot) (area_of c.slot) 0 c.groups (same_part (below (1052672 + end_of_groups c.groups) (omega arith)) 1052672 (0 + end_of_groups c.groups) (area_of c.slot) (area_of c.slot) (omega arith) refl refl) staged_holds.groups_are.stand in
          let end = end_of_groups-more c.groups payload in
          holds_as c staged image (c.groups ++ payload ∷ []) torn.whole (below 1052672 (omega arith)) other
          (record {
            stand = stand_more c.format image (area_of c.slot) 0 c.groups payload stand group;
            ended = let there : gate + 1 + 4 + length payload ≡ area_of c.slot + (0 + end_of_groups (c.groups ++ payload ∷ [])) = omega (arith, end) in subst (λ (k : ℕ). IsGateShut image k) there (shut_by_zero image (gate + 1 + 4 + length payload) is.ended);
          })
          staged_holds

      pub left_at_gate : HoldsEither c (with_group c payload) image
      left_at_gate = ⊎_elim (λ is_open. inr (opened is_open)) (λ shut. inl (still_shut shut)) (cases_eq (get_or image gate 0) 1)

  -- what a stop leaves of the whole call
  pub left_in_append : (before : List ℕ → Type 0) (seen : List ℕ) → ((image : List ℕ) → before image → Holds c image) → Holds c seen → (image : List ℕ) → IsLeftInCommit before seen (gate + 1) bytes gate image → HoldsEither c (with_group c payload) image
  left_in_append before seen holds now image (inl torn) = inl (bytes_torn_holds torn.0 image (holds torn.0 torn.1) torn.2)
  left_in_append before seen holds now image (inr torn) = left_at_gate seen now image torn

  -- what it leaves once it succeeded
  module _ (seen : List ℕ) (holds : Holds c seen) where
    gate_room : gate + length open_byte ≤ length (after_write seen (gate + 1) bytes)
    gate_room = let is_slot : c.slot < 2 = holds.counts.is_slot in omega (arith, within, holds.whole, length-after_write seen (gate + 1) bytes (room seen holds), room seen holds)

    torn_last : IsTorn gate 1 (after_write seen (gate + 1) bytes) (after_commit seen (gate + 1) bytes gate)
    torn_last = IsTorn-after_write (after_write seen (gate + 1) bytes) gate open_byte gate_room

    pub appended_holds : Holds (with_group c payload) (after_commit seen (gate + 1) bytes gate)
    appended_holds =
        opened seen holds (after_commit seen (gate + 1) bytes gate) torn_last
        (same_byte (written_same (after_write seen (gate + 1) bytes) gate open_byte gate_room) 0 gate 0 (omega arith) (omega arith) refl)

    -- the other slot is as it was
    pub appended_other : SameBytes seen (header_of (other_than c.slot)) (after_commit seen (gate + 1) bytes gate) (header_of (other_than c.slot)) 2101248
    appended_other =
        same_through (other_before (gate + 1) (length bytes) seen (after_write seen (gate + 1) bytes) holds (IsTorn-after_write seen (gate + 1) bytes (room seen holds)) (omega arith) within 2101248 (omega arith))
        (other_before gate 1 (after_write seen (gate + 1) bytes) (after_commit seen (gate + 1) bytes gate) (staged_holds seen holds) torn_last (omega arith) (omega (arith, within)) 2101248 (omega arith))
