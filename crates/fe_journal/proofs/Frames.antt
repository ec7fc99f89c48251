-- Images that agree on the bytes that contents are read from hold the same contents.
use Rattle.std.proofs.Common.{◌≡◌, ◌⊎◌, ℕ, ◌+◌, ◌<◌, ◌≤◌, List, [], ◌∷◌, ◌++◌, length, sym, ◌∙◌, subst, refl, arith}
use Rattle.fe_journal.specs.Layout.{header_of, gate_of, image_of, area_of, other_than, IsGateShut}
use Rattle.fe_format.specs.Layout.{IsImageLength}
use Rattle.fe_journal.specs.Contents.{IsGroup, StandFrom, HoldsGroups, end_of_groups, Contents, IsValidAs, SlotCounts, Holds, generation_at, image_length_at}
use Rattle.fe_journal.specs.Journal.{Draft, IsDraft}
use Rattle.fe_format.specs.declared.format.Format.{Format}
use Rattle.fe_format.specs.declared.format.Format.TheVariants.{One, Two}
use Rattle.fe_journal.proofs.Bytes.{SameBytes, same_part, same_byte, same_bytes_at, same_number_at}

pub group_same : (format : Format) (xs ys : List ℕ) (a b at : ℕ) (payload : List ℕ) → SameBytes xs a ys b (at + (5 + length payload)) → IsGroup format xs a at payload → IsGroup format ys b at payload
group_same format xs ys a b at payload s is =
    record {
      is_open = sym (same_byte s at (a + at) (b + at) (omega arith) refl refl) ∙ is.is_open;
      length_is = sym (same_number_at (same_part s (at + 1) 4 (a + at + 1) (b + at + 1) (omega arith) (omega arith) (omega arith))) ∙ is.length_is;
      fits = is.fits;
      payload_is = sym (same_bytes_at (same_part s (at + 5) (length payload) (a + at + 5) (b + at + 5) (omega arith) (omega arith) (omega arith))) ∙ is.payload_is;
    }

pub stand_same : (format : Format) (xs ys : List ℕ) (a b at : ℕ) (payloads : List (List ℕ)) → SameBytes xs a ys b (at + end_of_groups payloads) → StandFrom format xs a at payloads → StandFrom format ys b at payloads
stand_same format xs ys a b at [] s stand = tt
stand_same format xs ys a b at (payload ∷ payloads) s stand = (
  group_same format xs ys a b at payload (same_part s 0 (at + (5 + length payload)) a b (omega arith) (omega arith) (omega arith)) stand.0,
  stand_same format xs ys a b (at + (5 + length payload)) payloads (same_part s 0 (at + (5 + length payload) + end_of_groups payloads) a b (omega arith) (omega arith) (omega arith)) stand.1,
)

pub groups_same : (format : Format) (xs ys : List ℕ) (a b at : ℕ) (payloads : List (List ℕ)) → SameBytes xs a ys b (at + end_of_groups payloads) → IsGateShut ys (b + (at + end_of_groups payloads)) → HoldsGroups format xs a at payloads → HoldsGroups format ys b at payloads
groups_same format xs ys a b at payloads s shut holds = record { stand = stand_same format xs ys a b at payloads s holds.stand; ended = shut }

-- one group more
pub stand_more : (format : Format) (xs : List ℕ) (a at : ℕ) (payloads : List (List ℕ)) (payload : List ℕ) → StandFrom format xs a at payloads → IsGroup format xs a (at + end_of_groups payloads) payload → StandFrom format xs a at (payloads ++ payload ∷ [])
stand_more format xs a at [] payload stand is = (subst (λ (k : ℕ). IsGroup format xs a k payload) (omega arith) is, tt)
stand_more format xs a at (first ∷ payloads) payload stand is =
    (stand.0, stand_more format xs a (at + (5 + length first)) payloads payload stand.1 (subst (λ (k : ℕ). IsGroup format xs a k payload) (omega arith) is))

pub end_of_groups-more : (payloads : List (List ℕ)) (payload : List ℕ) → end_of_groups (payloads ++ payload ∷ []) ≡ end_of_groups payloads + (5 + length payload)
end_of_groups-more [] payload = omega arith
end_of_groups-more (first ∷ payloads) payload = omega (arith, end_of_groups-more payloads payload)

-- the other slot is no more than it was: where it is valid it was, with the same generation
pub record NoRise (old new : List ℕ) (slot : ℕ) : Type 0 where
  pub none : (format : Format) → IsValidAs new slot format → IsValidAs old slot format × (generation_at new slot ≡ generation_at old slot)

pub shut_no_rise : (old new : List ℕ) (slot : ℕ) → IsGateShut new (gate_of slot) → NoRise old new slot
shut_no_rise old new slot shut = record { none = λ format valid. absurd (shut valid.is_open) }

pub same_no_rise : (old new : List ℕ) (slot : ℕ) → SameBytes old (header_of slot) new (header_of slot) 4096 → NoRise old new slot
same_no_rise old new slot s =
    record {
      none = λ format valid. (
        record {
          is_open = same_byte s 4095 (gate_of slot) (gate_of slot) (omega arith) refl refl ∙ valid.is_open;
          magic = same_number_at (same_part s 0 8 (header_of slot) (header_of slot) (omega arith) (omega arith) (omega arith)) ∙ valid.magic;
        },
        sym (same_number_at (same_part s 8 8 (header_of slot + 8) (header_of slot + 8) (omega arith) refl refl)),
      );
    }

module _ (old new : List ℕ) (slot : ℕ) (format : Format) (s : SameBytes old (header_of slot) new (header_of slot) 1052672) where
  pub generation_same : generation_at new slot ≡ generation_at old slot
  generation_same = sym (same_number_at (same_part s 8 8 (header_of slot + 8) (header_of slot + 8) (omega arith) refl refl))

  pub length_same : image_length_at new slot ≡ image_length_at old slot
  length_same = sym (same_number_at (same_part s 16 4 (header_of slot + 16) (header_of slot + 16) (omega arith) refl refl))

  pub valid_same : IsValidAs old slot format → IsValidAs new slot format
  valid_same valid =
      record {
        is_open = sym (same_byte s 4095 (gate_of slot) (gate_of slot) (omega arith) refl refl) ∙ valid.is_open;
        magic = sym (same_number_at (same_part s 0 8 (header_of slot) (header_of slot) (omega arith) (omega arith) (omega arith))) ∙ valid.magic;
      }

  pub counts_same : NoRise old new (other_than slot) → SlotCounts old slot format → SlotCounts new slot format
  counts_same rise counts =
      record {
        is_slot = counts.is_slot;
        valid = valid_same counts.valid;
        ahead = λ f valid.
            let was = rise.none f valid in
            subst (λ (k : ℕ). (k < generation_at new slot) ⊎ ((k ≡ generation_at new slot) × (slot ≡ 0))) (sym was.1)
            (subst (λ (k : ℕ). (generation_at old (other_than slot) < k) ⊎ ((generation_at old (other_than slot) ≡ k) × (slot ≡ 0))) (sym generation_same) (counts.ahead f was.0));
      }

pub image_short : (format : Format) (n : ℕ) → IsImageLength format n → n ≤ 774232
image_short One n is = omega (arith, is.within)
image_short Two n is = is.within

-- contents whose groups are other ones, in an image that has the same bytes up to the groups
pub holds_as : (c : Contents) (old new : List ℕ) (payloads : List (List ℕ)) → length new ≡ length old → SameBytes old (header_of c.slot) new (header_of c.slot) 1052672 → NoRise old new (other_than c.slot)
    → HoldsGroups c.format new (area_of c.slot) 0 payloads → Holds c old → Holds (record { slot = c.slot; format = c.format; generation = c.generation; image = c.image; groups = payloads }) new
holds_as c old new payloads long s rise groups holds =
    let short = image_short c.format (length c.image) holds.length_fits in
    record {
      whole = long ∙ holds.whole;
      counts = counts_same old new c.slot c.format s rise holds.counts;
      generation_is = generation_same old new c.slot c.format s ∙ holds.generation_is;
      numbered = holds.numbered;
      length_is = length_same old new c.slot c.format s ∙ holds.length_is;
      length_fits = holds.length_fits;
      image_is = sym (same_bytes_at (same_part s 4096 (length c.image) (image_of c.slot) (image_of c.slot) (omega arith) refl refl)) ∙ holds.image_is;
      groups_are = groups;
    }

-- the same contents
pub holds_same : (c : Contents) (old new : List ℕ) → length new ≡ length old → SameBytes old (header_of c.slot) new (header_of c.slot) (1052672 + end_of_groups c.groups) → IsGateShut new (area_of c.slot + (0 + end_of_groups c.groups))
    → NoRise old new (other_than c.slot) → Holds c old → Holds c new
holds_same c old new long s shut rise holds =
    holds_as c old new c.groups long (same_part s 0 1052672 (header_of c.slot) (header_of c.slot) (omega arith) (omega arith) (omega arith)) rise
    (groups_same c.format old new (area_of c.slot) (area_of c.slot) 0 c.groups (same_part s 1052672 (0 + end_of_groups c.groups) (area_of c.slot) (area_of c.slot) (omega arith) refl refl) shut holds.groups_are)
    holds

-- a draft stays where its slot's fields and what was written of its image stay
pub draft_same : (slot : ℕ) (d : Draft) (old new : List ℕ) → SameBytes old (header_of slot) new (header_of slot) 20 → SameBytes old (image_of slot) new (image_of slot) (length d.bytes) → IsDraft slot d old → IsDraft slot d new
draft_same slot d old new s t is =
    record {
      magic = sym (same_number_at (same_part s 0 8 (header_of slot) (header_of slot) (omega arith) (omega arith) (omega arith))) ∙ is.magic;
      generation_is = sym (same_number_at (same_part s 8 8 (header_of slot + 8) (header_of slot + 8) (omega arith) refl refl)) ∙ is.generation_is;
      length_is = sym (same_number_at (same_part s 16 4 (header_of slot + 16) (header_of slot + 16) (omega arith) refl refl)) ∙ is.length_is;
      length_fits = is.length_fits;
      bytes_are = sym (same_bytes_at t) ∙ is.bytes_are;
      within = is.within;
    }
