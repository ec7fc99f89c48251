-- What a stop makes of the ranges written since the last sync.
use Rattle.std.proofs.Common.{◌≡◌, ◌⊎◌, ℕ, ◌+◌, ◌-◌, ◌<◌, ◌≤◌, List, [], ◌∷◌, length, get_or, replicate, inl, inr, sym, ◌∙◌, ap, subst, refl, arith}
use Rattle.std.proofs.lemmas.Bool.{cases_lt}
use Rattle.std.proofs.lemmas.List.{ext_get_or, length-replicate, get_or-replicate}
use Rattle.fe_disk.specs.Disk.{IsImage, after_write, LeavesJust}
use Rattle.fe_disk.specs.declared.memory_disk.Torn.{Torn}
use Rattle.fe_disk.specs.declared.memory_disk.Torn.TheVariants.{Kept, Lost, Byte}
use Rattle.fe_disk.specs.Memory.{DiskEvent, Write, Sync, MayLeave, IsSettledAt, IsLeftBy, synced_image, AreWithin, image_with_tear, image_with_tears}
use Rattle.fe_disk.proofs.Images.{length-after_write, after_write_below, after_write_inside, after_write_above}

settled_or_not : (events : List DiskEvent) (i : ℕ) → IsSettledAt events i ⊎ (IsSettledAt events i → ⊥)
settled_or_not [] i = inl tt
settled_or_not (Sync ∷ earlier) i = inl tt
settled_or_not (Write at before ∷ earlier) i = elim (settled_or_not earlier i) [
  | inr open_before ↦ inr (λ both. open_before both.1)
  | inl shut ↦ elim (cases_lt i at) [
    | inl low ↦ inl (inl low, shut)
    | inr high ↦ elim (cases_lt i (at + length before)) [
      | inr past ↦ inl (inr past, shut)
      | inl inside ↦ inr (λ both. within both.0 high inside)
    ]
  ]
]
  where
    within : ((i < at) ⊎ (at + length before ≤ i)) → at ≤ i → i < at + length before → ⊥
    within (inl low) high inside = omega arith
    within (inr past) high inside = omega arith

length-image_with_tear : (torn : Torn) (image : List ℕ) (at : ℕ) (before : List ℕ) → at + length before ≤ length image → length (image_with_tear torn image at before) ≡ length image
length-image_with_tear Kept image at before fits = refl
length-image_with_tear Lost image at before fits = length-after_write image at before fits
length-image_with_tear (Byte byte) image at before fits = length-after_write image at (replicate (length before) byte) (omega (arith, length-replicate (length before) byte))

tear_elsewhere : (torn : Torn) (image : List ℕ) (at : ℕ) (before : List ℕ) → at + length before ≤ length image → (i : ℕ) → (i < at) ⊎ (at + length before ≤ i)
    → get_or (image_with_tear torn image at before) i 0 ≡ get_or image i 0
tear_elsewhere Kept image at before fits i out = refl
tear_elsewhere Lost image at before fits i (inl low) = after_write_below image at before fits i low
tear_elsewhere Lost image at before fits i (inr past) = after_write_above image at before fits i past
tear_elsewhere (Byte byte) image at before fits i (inl low) = after_write_below image at (replicate (length before) byte) (omega (arith, length-replicate (length before) byte)) i low
tear_elsewhere (Byte byte) image at before fits i (inr past) =
    after_write_above image at (replicate (length before) byte) (omega (arith, length-replicate (length before) byte)) i (omega (arith, length-replicate (length before) byte))

filled_inside : (byte : ℕ) (image : List ℕ) (at : ℕ) (before : List ℕ) → at + length before ≤ length image → (i : ℕ) → at ≤ i → i < at + length before → get_or (image_with_tear (Byte byte) image at before) i 0 ≡ byte
filled_inside byte image at before fits i high inside =
    let n = length-replicate (length before) byte in
    let there : at + (i - at) ≡ i = omega arith in
    let step : get_or (image_with_tear (Byte byte) image at before) (at + (i - at)) 0 ≡ byte =
    after_write_inside image at (replicate (length before) byte) (omega (arith, n)) (i - at) (omega (arith, n)) ∙ get_or-replicate (length before) (i - at) byte 0 (omega arith) in
    subst (λ (k : ℕ). get_or (image_with_tear (Byte byte) image at before) k 0 ≡ byte) there step

within_same : (torn : Torn) (image : List ℕ) (at : ℕ) (before : List ℕ) (earlier : List DiskEvent) → at + length before ≤ length image → AreWithin (length image) earlier → AreWithin (length (image_with_tear torn image at before)) earlier
within_same torn image at before earlier fits within = subst (λ (n : ℕ). AreWithin n earlier) (sym (length-image_with_tear torn image at before fits)) within

pub length-image_with_tears : (torn : Torn) (image : List ℕ) (events : List DiskEvent) → AreWithin (length image) events → length (image_with_tears torn image events) ≡ length image
length-image_with_tears torn image [] within = refl
length-image_with_tears torn image (Sync ∷ earlier) within = refl
length-image_with_tears torn image (Write at before ∷ earlier) within =
    length-image_with_tears torn (image_with_tear torn image at before) earlier (within_same torn image at before earlier within.0 within.1) ∙ length-image_with_tear torn image at before within.0

pub settled_stays : (torn : Torn) (image : List ℕ) (events : List DiskEvent) → AreWithin (length image) events → (i : ℕ) → IsSettledAt events i → get_or (image_with_tears torn image events) i 0 ≡ get_or image i 0
settled_stays torn image [] within i settled = refl
settled_stays torn image (Sync ∷ earlier) within i settled = refl
settled_stays torn image (Write at before ∷ earlier) within i settled =
    settled_stays torn (image_with_tear torn image at before) earlier (within_same torn image at before earlier within.0 within.1) i settled.1
    ∙ tear_elsewhere torn image at before within.0 i settled.0

kept_is : (image : List ℕ) (events : List DiskEvent) → image_with_tears Kept image events ≡ image
kept_is image [] = refl
kept_is image (Sync ∷ earlier) = refl
kept_is image (Write at before ∷ earlier) = kept_is image earlier

lost_is : (image : List ℕ) (events : List DiskEvent) → image_with_tears Lost image events ≡ synced_image image events
lost_is image [] = refl
lost_is image (Sync ∷ earlier) = refl
lost_is image (Write at before ∷ earlier) = lost_is (after_write image at before) earlier

filled_all : (byte : ℕ) (image : List ℕ) (events : List DiskEvent) → AreWithin (length image) events → (i : ℕ) → (IsSettledAt events i → ⊥) → get_or (image_with_tears (Byte byte) image events) i 0 ≡ byte
filled_all byte image [] within i unsettled = absurd (unsettled tt)
filled_all byte image (Sync ∷ earlier) within i unsettled = absurd (unsettled tt)
filled_all byte image (Write at before ∷ earlier) within i unsettled =
    let next = image_with_tear (Byte byte) image at before in
    let still = within_same (Byte byte) image at before earlier within.0 within.1 in
    elim (settled_or_not earlier i) [
      | inr open_before ↦ filled_all byte next earlier still i open_before
      | inl shut ↦ elim (cases_lt i at) [
        | inl low ↦ absurd (unsettled (inl low, shut))
        | inr high ↦ elim (cases_lt i (at + length before)) [
          | inr past ↦ absurd (unsettled (inr past, shut))
          | inl inside ↦ settled_stays (Byte byte) next earlier still i shut ∙ filled_inside byte image at before within.0 i high inside
        ]
      ]
    ]

pub left_by_tear : (torn : Torn) (image : List ℕ) (events : List DiskEvent) → AreWithin (length image) events → IsLeftBy torn image events (image_with_tears torn image events)
left_by_tear Kept image events within = kept_is image events
left_by_tear Lost image events within = lost_is image events
left_by_tear (Byte byte) image events within =
    record {
      whole = length-image_with_tears (Byte byte) image events within;
      elsewhere = settled_stays (Byte byte) image events within;
      filled = λ i low unsettled. filled_all byte image events within i unsettled;
    }

pub allowed_tear : (torn : Torn) (image : List ℕ) (events : List DiskEvent) (left : List ℕ) → AreWithin (length image) events → left ≡ image_with_tears torn image events → IsImage (length image) left
    → MayLeave (length image) image events left
allowed_tear torn image events left within is bytes =
    record {
      bytes = bytes;
      elsewhere = λ i settled. ap (λ (l : List ℕ). get_or l i 0) is ∙ settled_stays torn image events within i settled;
    }

-- with no call to be seen, a stop leaves what a read gives
pub just_left : (image : List ℕ) → LeavesJust image (MayLeave (length image) image [])
just_left image left may = ext_get_or 0 left image may.bytes.whole (λ i _. may.elsewhere i tt)
