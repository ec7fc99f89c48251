-- What a stop leaves while the slot that does not count is made ready.
use Rattle.std.proofs.Common.{◌≡◌, ◌⊎◌, ℕ, ◌+◌, ◌<◌, ◌≤◌, List, [], ◌∷◌, length, get_or, Option, Some, inl, inr, ⊎_elim, sym, ◌∙◌, ap, subst, refl, arith}
use Rattle.std.proofs.lemmas.Bool.{cases_lt, cases_eq}
use Rattle.fe_disk.specs.Disk.{IsTorn, bytes_at, after_write}
use Rattle.fe_disk.proofs.Images.{length-after_write, IsTorn-after_write, IsTorn-same}
use Rattle.fe_journal.specs.Layout.{header_of, gate_of, image_of, area_of, other_than, number_at, IsGateOpen, IsGateShut}
use Rattle.fe_format.specs.Layout.{IsPayloadLength, IsImageLength}
use Rattle.fe_journal.specs.Contents.{GroupFits, StandFrom, HoldsGroups, end_of_groups, after_gate, Contents, SlotCounts, Holds, HoldsEither, generation_at}
use Rattle.fe_journal.specs.Journal.{Draft, IsDraft, IsLeft, IsCatchUp, catch_up_groups, with_draft, area_start, IsLeftInCommit, IsLeftInBeginning, after_commit}
use Rattle.fe_format.specs.declared.format.Format.{Format}
use Rattle.fe_format.specs.declared.format.Format.TheVariants.{One, Two}
use Rattle.fe_journal.proofs.Bytes.{SameBytes, same_part, same_byte, same_back, same_through, torn_same, written_same}
use Rattle.fe_journal.proofs.Frames.{NoRise, shut_no_rise, same_no_rise, generation_same, holds_same, draft_same, image_short}
use Rattle.fe_journal.proofs.Spelled.{length-after_gate, spelled, behind_same}

-- a range in one slot is apart from the other slot
halves_apart : (slot other at n a m : ℕ) → slot + other ≡ 1 → header_of slot ≤ at → at + n ≤ header_of slot + 2101248 → header_of other ≤ a → a + m ≤ header_of other + 2101248 → (a + m ≤ at) ⊎ (at + n ≤ a)
halves_apart slot other at n a m both from to low high = ⊎_elim (λ (first : slot < 1). inr (omega arith)) (λ (second : 1 ≤ slot). inl (omega arith)) (cases_lt slot 1)

end_within : (c : Contents) (image : List ℕ) → Holds c image → 1052672 + end_of_groups c.groups < 2101248
end_within c image holds = let low = ends c.format image (area_of c.slot) 0 c.groups (omega arith) holds.groups_are.stand in omega arith
  where
    ends : (format : Format) (bytes : List ℕ) (area at : ℕ) (payloads : List (List ℕ)) → at < 1048576 → StandFrom format bytes area at payloads → 1052672 + (at + end_of_groups payloads) < 2101248
    ends format bytes area at [] low stand = omega arith
    ends format bytes area at (payload ∷ payloads) low stand =
        let more = ends format bytes area (at + (5 + length payload)) payloads (let w = stand.0.fits.within in omega arith) stand.1 in omega arith

module _ (c : Contents) (was image : List ℕ) (holds : Holds c was) (at n : ℕ) (torn : IsTorn at n was image) (from : header_of (other_than c.slot) ≤ at) (to : at + n ≤ header_of (other_than c.slot) + 2101248) where
  -- bytes torn in the other slot leave the slot that counts
  mine : SameBytes was (header_of c.slot) image (header_of c.slot) 2101248
  mine =
      let is_slot : c.slot < 2 = holds.counts.is_slot in
      let whole : length was ≡ 4202496 = holds.whole in
      torn_same at n was image torn (header_of c.slot) 2101248 (halves_apart (other_than c.slot) c.slot at n (header_of c.slot) 2101248 (omega arith) from to (omega arith) (omega arith)) (omega arith)

  -- and the contents, where the other slot does not rise
  pub other_torn : NoRise was image (other_than c.slot) → Holds c image
  other_torn rise =
      let within = end_within c was holds in
      holds_same c was image torn.whole (same_part mine 0 (1052672 + end_of_groups c.groups) (header_of c.slot) (header_of c.slot) (omega arith) (omega arith) (omega arith))
      (λ is_open. holds.groups_are.ended (same_byte mine (1052672 + end_of_groups c.groups) (area_of c.slot + (0 + end_of_groups c.groups)) (area_of c.slot + (0 + end_of_groups c.groups)) within (omega arith) (omega arith) ∙ is_open))
      rise holds

  -- a range after the header leaves a closed gate closed
  pub stays_shut : header_of (other_than c.slot) + 4096 ≤ at → IsGateShut was (gate_of (other_than c.slot)) → IsGateShut image (gate_of (other_than c.slot))
  stays_shut behind shut = λ is_open. shut (sym (torn.below (gate_of (other_than c.slot)) (omega arith)) ∙ is_open)

-- the other slot while it is begun
pub begin_holds : (c : Contents) (seen image : List ℕ) → Holds c seen → IsLeftInBeginning seen (other_than c.slot) image → Holds c image
begin_holds c seen image holds (inr torn) =
    other_torn c seen image holds (header_of (other_than c.slot)) 4096 torn.torn (omega arith) (omega arith) (shut_no_rise seen image (other_than c.slot) torn.shut)
begin_holds c seen image holds (inl left) =
    other_torn c seen image holds (gate_of (other_than c.slot)) 1 left.torn (omega arith) (omega arith)
    (⊎_elim (λ is_open. same_no_rise seen image (other_than c.slot) (unchanged is_open)) (λ shut. shut_no_rise seen image (other_than c.slot) shut) (cases_eq (get_or image (gate_of (other_than c.slot)) 0) 1))
  where
    unchanged : get_or image (gate_of (other_than c.slot)) 0 ≡ 1 → SameBytes seen (header_of (other_than c.slot)) image (header_of (other_than c.slot)) 4096
    unchanged is_open =
        let whole : length seen ≡ 4202496 = holds.whole in
        let long : length image ≡ length seen = left.torn.whole in
        record {
          here = omega arith;
          there = omega arith;
          same = λ i p q low at_p at_q.
              let same_place : p ≡ q = omega arith in
              subst (λ (k : ℕ). get_or seen p 0 ≡ get_or image k 0) same_place (⊎_elim
              (λ (below : p < gate_of (other_than c.slot)). sym (left.torn.below p below))
              (λ (above : gate_of (other_than c.slot) ≤ p). let here : gate_of (other_than c.slot) ≡ p = omega arith in subst (λ (k : ℕ). get_or seen k 0 ≡ get_or image k 0) here (left.opens_none is_open ∙ sym is_open))
              (cases_lt p (gate_of (other_than c.slot))));
        }

-- a slice written into the image of the slot begun
pub slice_left : (c : Contents) (draft : Option Draft) (d : Draft) (was image : List ℕ) (at n : ℕ) → image_of (other_than c.slot) ≤ at → at + n ≤ header_of (other_than c.slot) + 2101248 → IsTorn at n was image → IsLeft c (Some d) was → IsLeft c draft image
slice_left c draft d was image at n from to torn left =
    let shut = stays_shut c was image left.holds at n torn (omega arith) to (omega arith) (left.shut refl) in
    record {
      holds = other_torn c was image left.holds at n torn (omega arith) to (shut_no_rise was image (other_than c.slot) shut);
      shut = λ _. shut;
    }

area_start_bytes : (format : Format) (catch_up : List ℕ) → IsCatchUp format catch_up → length (area_start catch_up) ≤ 1048576
area_start_bytes format [] is = omega arith
area_start_bytes One (byte ∷ bytes) is = omega (arith, length-after_gate (byte ∷ bytes), is.within)
area_start_bytes Two (byte ∷ bytes) is = omega (arith, length-after_gate (byte ∷ bytes), is.within)

catch_up_fits : (format : Format) (payload : List ℕ) → IsPayloadLength format (length payload) → GroupFits format 0 (length payload)
catch_up_fits One payload is = record { allowed = is; within = let w = is.within in omega arith }
catch_up_fits Two payload is = record { allowed = is; within = let w = is.within in omega arith }

-- the new area holds the catch-up
area_holds : (format : Format) (image : List ℕ) (area : ℕ) (catch_up : List ℕ) → IsCatchUp format catch_up → SameBytes image area (area_start catch_up) 0 (length (area_start catch_up)) → HoldsGroups format image area 0 (catch_up_groups catch_up)
area_holds format image area [] is s =
    record { stand = tt; ended = λ is_open. let zero : get_or image (area + (0 + 0)) 0 ≡ 0 = same_byte s 0 (area + (0 + 0)) 0 (omega arith) (omega arith) (omega arith) in omega (arith, zero, is_open) }
area_holds format image area (byte ∷ bytes) is s =
    let payload : List ℕ = byte ∷ bytes in
    let long = length-after_gate payload in
    let gate : get_or image (area + 0) 0 ≡ 1 = same_byte s 0 (area + 0) 0 (omega arith) (omega arith) (omega arith) in
    let gates : List ℕ = 1 ∷ [] in
    let behind = same_through (same_part s 1 (5 + length payload) (area + 1) 1 (omega (arith, long)) refl (omega arith)) (same_part (behind_same gates (after_gate payload) 1 refl) 0 (5 + length payload) 1 0 (omega (arith, long)) (omega arith) (omega arith)) in
    let fits = catch_up_fits format payload is in
    let is_spelled = spelled image (area + 1) payload (omega (arith, fits.within)) behind in
    let zero = is_spelled.ended in
    record {
      stand = (
        record {
          is_open = gate;
          length_is = let there : area + 1 ≡ area + 0 + 1 = omega arith in subst (λ (k : ℕ). number_at image k 4 ≡ length payload) there is_spelled.length_is;
          fits = fits;
          payload_is = let there : area + 1 + 4 ≡ area + 0 + 5 = omega arith in subst (λ (k : ℕ). bytes_at image k (length payload) ≡ payload) there is_spelled.payload_is;
        },
        tt,
      );
      ended = λ is_open. let there : area + (0 + (5 + length payload + 0)) ≡ area + 1 + 4 + length payload = omega arith in
          let one : get_or image (area + 1 + 4 + length payload) 0 ≡ 1 = subst (λ (k : ℕ). get_or image k 0 ≡ 1) there is_open in omega (arith, zero, one);
    }

-- a slot whose gate opens after its draft and a new area
finished_holds : (c : Contents) (d : Draft) (catch_up : List ℕ) (image : List ℕ) → length image ≡ 4202496 → IsDraft (other_than c.slot) d image → d.generation ≡ c.generation + 1 → length d.bytes ≡ d.image_length → IsCatchUp d.format catch_up
    → SameBytes image (area_of (other_than c.slot)) (area_start catch_up) 0 (length (area_start catch_up)) → SlotCounts image (other_than c.slot) d.format → Holds (with_draft c d catch_up) image
finished_holds c d catch_up image whole is next full allowed area counts =
    record {
      whole = whole;
      counts = counts;
      generation_is = is.generation_is;
      numbered = omega (arith, next);
      length_is = is.length_is ∙ sym full;
      length_fits = subst (λ (n : ℕ). IsImageLength d.format n) (sym full) is.length_fits;
      image_is = is.bytes_are;
      groups_are = area_holds d.format image (area_of (other_than c.slot)) catch_up allowed area;
    }

abbrev open_byte : List ℕ
open_byte = 1 ∷ []

module _ (c : Contents) (d : Draft) (catch_up bytes : List ℕ) (bytes_are : bytes ≡ area_start catch_up) (next : d.generation ≡ c.generation + 1) (full : length d.bytes ≡ d.image_length) (allowed : IsCatchUp d.format catch_up) where
  abbrev o : ℕ
  o = other_than c.slot

  short : length bytes ≤ 1048576
  short = omega (arith, ap (λ (l : List ℕ). length l) bytes_are, area_start_bytes d.format catch_up allowed)

  pub area_torn : (was image : List ℕ) → IsTorn (area_of o) (length bytes) was image → IsLeft c (Some d) was → IsLeft c (Some d) image
  area_torn was image torn left = slice_left c (Some d) d was image (area_of o) (length bytes) (omega arith) (omega (arith, short)) torn left

  module _ (seen : List ℕ) (left : IsLeft c (Some d) seen) (is : IsDraft o d seen) where
    abbrev staged : List ℕ
    staged = after_write seen (area_of o) bytes

    room : area_of o + length bytes ≤ length seen
    room = let is_slot : c.slot < 2 = left.holds.counts.is_slot in omega (arith, short, left.holds.whole)

    torn_first : IsTorn (area_of o) (length bytes) seen staged
    torn_first = IsTorn-after_write seen (area_of o) bytes room

    staged_left : IsLeft c (Some d) staged
    staged_left = area_torn seen staged torn_first left

    module _ (image : List ℕ) (torn : IsTorn (gate_of o) 1 staged image) where
      long : length staged ≡ 4202496
      long = length-after_write seen (area_of o) bytes room ∙ left.holds.whole

      still_shut : IsGateShut image (gate_of o) → Holds c image
      still_shut shut = other_torn c staged image staged_left.holds (gate_of o) 1 torn (omega arith) (omega arith) (shut_no_rise staged image o shut)

      draft_first : IsDraft o d staged
      draft_first =
          let w = image_short d.format d.image_length is.length_fits in
          draft_same o d seen staged (torn_same (area_of o) (length bytes) seen staged torn_first (header_of o) 20 (inl (omega arith)) (omega (arith, room)))
          (torn_same (area_of o) (length bytes) seen staged torn_first (image_of o) (length d.bytes) (inl (omega (arith, is.within))) (omega (arith, room, is.within))) is

      draft_last : IsDraft o d image
      draft_last =
          let w = image_short d.format d.image_length is.length_fits in
          let is_slot : c.slot < 2 = left.holds.counts.is_slot in
          draft_same o d staged image (torn_same (gate_of o) 1 staged image torn (header_of o) 20 (inl (omega arith)) (omega (arith, long)))
          (torn_same (gate_of o) 1 staged image torn (image_of o) (length d.bytes) (inr (omega arith)) (omega (arith, long, is.within))) draft_first

      area_last : SameBytes image (area_of o) (area_start catch_up) 0 (length (area_start catch_up))
      area_last =
          let is_slot : c.slot < 2 = left.holds.counts.is_slot in
          subst (λ (l : List ℕ). SameBytes image (area_of o) l 0 (length l)) bytes_are
          (same_through (same_back (torn_same (gate_of o) 1 staged image torn (area_of o) (length bytes) (inr (omega arith)) (omega (arith, long, short)))) (written_same seen (area_of o) bytes room))

      older : generation_at image (other_than o) ≡ c.generation
      older =
          let is_slot : c.slot < 2 = left.holds.counts.is_slot in
          let there : c.slot ≡ other_than o = omega arith in
          subst (λ (k : ℕ). generation_at image k ≡ c.generation) there
          (generation_same staged image c.slot c.format (same_part (mine c staged image staged_left.holds (gate_of o) 1 torn (omega arith) (omega arith)) 0 1052672 (header_of c.slot) (header_of c.slot) (omega arith) (omega arith) (omega arith)) ∙ staged_left.holds.generation_is)

      pub now_open : IsGateOpen image (gate_of o) → Holds (with_draft c d catch_up) image
      now_open is_open =
          let is_slot : c.slot < 2 = left.holds.counts.is_slot in
          finished_holds c d catch_up image (torn.whole ∙ long) draft_last next full allowed area_last (record {
            is_slot = omega arith;
            valid = record { is_open = is_open; magic = draft_last.magic };
            ahead = λ f valid. inl (omega (arith, older, draft_last.generation_is, next));
          })

      pub left_at_gate : HoldsEither c (with_draft c d catch_up) image
      left_at_gate = ⊎_elim (λ is_open. inr (now_open is_open)) (λ shut. inl (still_shut shut)) (cases_eq (get_or image (gate_of o) 0) 1)

  -- what a stop leaves of the whole call
  pub left_in_finish : (before : List ℕ → Type 0) (seen : List ℕ) → ((image : List ℕ) → before image → IsLeft c (Some d) image) → IsLeft c (Some d) seen → IsDraft o d seen → (image : List ℕ) → IsLeftInCommit before seen (area_of o) bytes (gate_of o) image
      → HoldsEither c (with_draft c d catch_up) image
  left_in_finish before seen lefts left is image (inl torn) = inl (area_torn torn.0 image torn.2 (lefts torn.0 torn.1)).holds
  left_in_finish before seen lefts left is image (inr torn) = left_at_gate seen left is image torn

  -- what it leaves once it succeeded
  pub finished_last : (seen : List ℕ) → IsLeft c (Some d) seen → IsDraft o d seen → Holds (with_draft c d catch_up) (after_commit seen (area_of o) bytes (gate_of o))
  finished_last seen left is =
      let is_slot : c.slot < 2 = left.holds.counts.is_slot in
      let fits : gate_of o + length open_byte ≤ length (after_write seen (area_of o) bytes) = omega (arith, long seen left is (after_write seen (area_of o) bytes) (IsTorn-same (gate_of o) 1 (after_write seen (area_of o) bytes))) in
      now_open seen left is (after_commit seen (area_of o) bytes (gate_of o)) (IsTorn-after_write (after_write seen (area_of o) bytes) (gate_of o) open_byte fits)
      (same_byte (written_same (after_write seen (area_of o) bytes) (gate_of o) open_byte fits) 0 (gate_of o) 0 (omega arith) (omega arith) refl)
