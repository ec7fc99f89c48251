-- Images and writes, byte by byte.
use Rattle.std.proofs.Common.{◌≡◌, ◌⊎◌, min, ℕ, ◌+◌, ◌-◌, ◌^◌, ◌<◌, ◌≤◌, List, ◌++◌, length, get_or, take, drop, inl, inr, sym, ◌∙◌, ap, subst, refl, arith, length-append, length-take, length-drop, get_or-take, get_or-drop}
use Rattle.std.proofs.lemmas.List.{get_or_append_left, get_or-append_right, ext_get_or, get_or_past}
use Rattle.std.proofs.lemmas.Bool.{cases_lt}
use Rattle.fe_disk.specs.Disk.{IsImage, IsTorn, Follows, LeavesJust, bytes_at, after_write}

pub length-bytes_at : (image : List ℕ) (at n : ℕ) → at + n ≤ length image → length (bytes_at image at n) ≡ n
length-bytes_at image at n fits = omega (arith, length-take n (drop at image), length-drop at image)

pub get_or-bytes_at : (image : List ℕ) (at n i : ℕ) → i < n → get_or (bytes_at image at n) i 0 ≡ get_or image (at + i) 0
get_or-bytes_at image at n i low = get_or-take n (drop at image) i 0 low ∙ get_or-drop at image i 0

module _ (image : List ℕ) (at : ℕ) (bytes : List ℕ) (fits : at + length bytes ≤ length image) where
  front : length (take at image) ≡ at
  front = omega (arith, length-take at image)

  rest : List ℕ
  rest = drop (at + length bytes) image

  pub length-after_write : length (after_write image at bytes) ≡ length image
  length-after_write =
      omega (arith, front, length-append (take at image) (bytes ++ drop (at + length bytes) image), length-append bytes (drop (at + length bytes) image), length-drop (at + length bytes) image)

  pub after_write_below : (i : ℕ) → i < at → get_or (after_write image at bytes) i 0 ≡ get_or image i 0
  after_write_below i low =
      get_or_append_left (take at image) (bytes ++ drop (at + length bytes) image) 0 i (omega (arith, front)) ∙ get_or-take at image i 0 low

  pub after_write_inside : (i : ℕ) → i < length bytes → get_or (after_write image at bytes) (at + i) 0 ≡ get_or bytes i 0
  after_write_inside i low =
      let back : at + i - at ≡ i = omega arith in
      get_or-append_right (take at image) (bytes ++ drop (at + length bytes) image) at (at + i) 0 front (omega arith)
      ∙ ap (λ (k : ℕ). get_or (bytes ++ drop (at + length bytes) image) k 0) back
      ∙ get_or_append_left bytes (drop (at + length bytes) image) 0 i low

  pub after_write_above : (i : ℕ) → at + length bytes ≤ i → get_or (after_write image at bytes) i 0 ≡ get_or image i 0
  after_write_above i high =
      let past : at + length bytes + (i - at - length bytes) ≡ i = omega arith in
      get_or-append_right (take at image) (bytes ++ drop (at + length bytes) image) at i 0 front (omega arith)
      ∙ get_or-append_right bytes (drop (at + length bytes) image) (length bytes) (i - at) 0 refl (omega arith)
      ∙ get_or-drop (at + length bytes) image (i - at - length bytes) 0
      ∙ ap (λ (k : ℕ). get_or image k 0) past

  pub IsTorn-after_write : IsTorn at (length bytes) image (after_write image at bytes)
  IsTorn-after_write = record { whole = length-after_write; below = after_write_below; above = after_write_above }

module _ (image : List ℕ) (at : ℕ) (bytes : List ℕ) (fits : at + length bytes ≤ length image) where
  -- the bytes that were replaced, written again
  pub written_back : after_write (after_write image at bytes) at (bytes_at image at (length bytes)) ≡ image
  written_back =
      let new = after_write image at bytes in
      let n = length bytes in
      let old : length (bytes_at image at n) ≡ n = length-bytes_at image at n fits in
      let fits_again : at + length (bytes_at image at n) ≤ length new = omega (arith, length-after_write image at bytes fits) in
      let back = after_write new at (bytes_at image at n) in
      ext_get_or 0 back image (length-after_write new at (bytes_at image at n) fits_again ∙ length-after_write image at bytes fits) (λ i _. elim (cases_lt i at) [
        | inl low ↦ after_write_below new at (bytes_at image at n) fits_again i low ∙ after_write_below image at bytes fits i low
        | inr high ↦ elim (cases_lt i (at + n)) [
          | inl inside ↦
              let there : at + (i - at) ≡ i = omega arith in
              let step : get_or back (at + (i - at)) 0 ≡ get_or image (at + (i - at)) 0 =
              after_write_inside new at (bytes_at image at n) fits_again (i - at) (omega arith) ∙ get_or-bytes_at image at n (i - at) (omega arith) in
              subst (λ (k : ℕ). get_or back k 0 ≡ get_or image k 0) there step
          | inr past ↦ after_write_above new at (bytes_at image at n) fits_again i (omega arith) ∙ after_write_above image at bytes fits i past
        ]
      ])

  pub IsImage-after_write : ((i : ℕ) → get_or bytes i 0 < 2 ^ 8) → IsImage (length image) image → IsImage (length image) (after_write image at bytes)
  IsImage-after_write small is =
      record {
        whole = length-after_write image at bytes fits;
        bytes = λ i. elim (cases_lt i at) [
          | inl low ↦ subst (λ (b : ℕ). b < 2 ^ 8) (sym (after_write_below image at bytes fits i low)) (is.bytes i)
          | inr high ↦ elim (cases_lt i (at + length bytes)) [
            | inl inside ↦
                let there : at + (i - at) ≡ i = omega arith in
                subst (λ (b : ℕ). b < 2 ^ 8) (sym (subst (λ (k : ℕ). get_or (after_write image at bytes) k 0 ≡ get_or bytes (i - at) 0) there (after_write_inside image at bytes fits (i - at) (omega arith)))) (small (i - at))
            | inr past ↦ subst (λ (b : ℕ). b < 2 ^ 8) (sym (after_write_above image at bytes fits i past)) (is.bytes i)
          ]
        ];
      }

pub IsTorn-same : (at n : ℕ) (image : List ℕ) → IsTorn at n image image
IsTorn-same at n image = record { whole = refl; below = λ _ _. refl; above = λ _ _. refl }

pub IsTorn-back : {at n : ℕ} {old new : List ℕ} → IsTorn at n old new → IsTorn at n new old
IsTorn-back torn = record { whole = sym torn.whole; below = λ i low. sym (torn.below i low); above = λ i high. sym (torn.above i high) }

-- a part of an image has bytes
pub small_at : (image : List ℕ) (at n : ℕ) → IsImage (length image) image → (i : ℕ) → get_or (bytes_at image at n) i 0 < 2 ^ 8
small_at image at n is i = elim (cases_lt i n) [
  | inl low ↦ subst (λ (b : ℕ). b < 2 ^ 8) (sym (get_or-bytes_at image at n i low)) (is.bytes (at + i))
  | inr high ↦
      let none : get_or (bytes_at image at n) i 0 ≡ 0 = get_or_past (bytes_at image at n) i 0 (omega (arith, length-take n (drop at image))) in
      subst (λ (b : ℕ). b < 2 ^ 8) (sym none) (omega arith)
]

-- what a write leaves of a disk on which just one image could be left
pub torn_left : (image : List ℕ) (at n : ℕ) (old new : List ℕ → Type 0) → LeavesJust image old → Follows (IsTorn at n) old new → (left : List ℕ) → new left → IsTorn at n image left
torn_left image at n old new just follows left may =
    let from = follows left may in
    subst (λ (was : List ℕ). IsTorn at n was left) (just from.0 from.1) from.2

-- what was written is read
pub bytes_at-after_write : (image : List ℕ) (at : ℕ) (bytes : List ℕ) → at + length bytes ≤ length image → bytes_at (after_write image at bytes) at (length bytes) ≡ bytes
bytes_at-after_write image at bytes fits =
    let new = after_write image at bytes in
    let long : length (bytes_at new at (length bytes)) ≡ length bytes = length-bytes_at new at (length bytes) (omega (arith, length-after_write image at bytes fits)) in
    ext_get_or 0 (bytes_at new at (length bytes)) bytes long (λ i low. get_or-bytes_at new at (length bytes) i (omega (arith, long)) ∙ after_write_inside image at bytes fits i (omega (arith, long)))

-- bytes outside a torn range are read as before
pub bytes_at_elsewhere : (at n : ℕ) (old new : List ℕ) → IsTorn at n old new → (from m : ℕ) → (from + m ≤ at) ⊎ (at + n ≤ from) → bytes_at new from m ≡ bytes_at old from m
bytes_at_elsewhere at n old new torn from m apart =
    let whole : length new ≡ length old = torn.whole in
    let new_is : length (bytes_at new from m) ≡ min m (length new - from) = length-take m (drop from new) ∙ ap (λ (k : ℕ). min m k) (length-drop from new) in
    let old_is : length (bytes_at old from m) ≡ min m (length old - from) = length-take m (drop from old) ∙ ap (λ (k : ℕ). min m k) (length-drop from old) in
    ext_get_or 0 (bytes_at new from m) (bytes_at old from m) (new_is ∙ ap (λ (k : ℕ). min m (k - from)) whole ∙ sym old_is) (λ i low.
    let within : i < m = omega (arith, low, new_is) in
    get_or-bytes_at new from m i within ∙ outside apart i within ∙ sym (get_or-bytes_at old from m i within))
  where
    outside : (from + m ≤ at) ⊎ (at + n ≤ from) → (i : ℕ) → i < m → get_or new (from + i) 0 ≡ get_or old (from + i) 0
    outside (inl before) i within = torn.below (from + i) (omega arith)
    outside (inr behind) i within = torn.above (from + i) (omega arith)

pub torn_wider : (at n from m : ℕ) (old new : List ℕ) → at ≤ from → from + m ≤ at + n → IsTorn from m old new → IsTorn at n old new
torn_wider at n from m old new low high torn = record { whole = torn.whole; below = λ i lt. torn.below i (omega arith); above = λ i le. torn.above i (omega arith) }

pub torn_again : (at n : ℕ) (old mid new : List ℕ) → IsTorn at n old mid → IsTorn at n mid new → IsTorn at n old new
torn_again at n old mid new first second =
    record { whole = second.whole ∙ first.whole; below = λ i lt. second.below i lt ∙ first.below i lt; above = λ i le. second.above i le ∙ first.above i le }
