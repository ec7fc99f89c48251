-- Bits of the words of a set of ports.
use Rattle.std.proofs.Common.{◌≡◌, ℕ, ◌+◌, ◌-◌, ◌*◌, ◌/◌, ◌%◌, ◌^◌, ◌<◌, ◌≤◌, List, length, slice_index_or, slice_set, bit_or, w64, sym, ap, ◌∙◌, arith, inl, inr}
use Rattle.std.specs.Int.{bit_at, trailing_zeros}
use Rattle.std.proofs.lemmas.Bool.{cases_eq, cases_lt}
use Rattle.std.proofs.lemmas.List.{get_or-set_same, get_or-set_other}
use Rattle.std.proofs.lemmas.Nat.{div-add-mod', pow_pos}
use Rattle.std.proofs.lemmas.Nat.Bits.{bit_at_above, bit_at_cat_high, bit_at_or, bit_at-lt, bit_at_set_same, bit_at-trailing_zeros}
use Rattle.std.proofs.Math.Nat.{mod-lt}

-- a bit of either number
pub has_either : (a b i : ℕ) → bit_at a i ≡ 1 → bit_at (bit_or a b) i ≡ 1
has_either a b i is = omega (arith, is, bit_at_or a b i, bit_at-lt b i)

pub has_other : (a b i : ℕ) → bit_at b i ≡ 1 → bit_at (bit_or a b) i ≡ 1
has_other a b i is = omega (arith, is, bit_at_or a b i, bit_at-lt a i)

-- ---- the first 1 from a bit on

shifted : (n k i : ℕ) → k ≤ i → bit_at n i ≡ bit_at (n / 2 ^ k) (i - k)
shifted n k i le = ap (λ (m : ℕ). bit_at m i) (sym (div-add-mod' n (2 ^ k))) ∙ bit_at_cat_high (n / 2 ^ k) k (n % 2 ^ k) i (mod-lt n (pow_pos k)) le

pub none_from : (n k i : ℕ) → n / 2 ^ k ≡ 0 → k ≤ i → bit_at n i ≡ 0
none_from n k i none le = shifted n k i le ∙ ap (λ (m : ℕ). bit_at m (i - k)) none ∙ bit_at_above 0 0 (i - k) (omega arith) (omega arith)

module _ (n k : ℕ) (fits : n < 2 ^ 64) (below : n / 2 ^ k < 2 ^ 64) (some : 0 < n / 2 ^ k) where
  pub within_word : k + trailing_zeros w64 (n / 2 ^ k) ≤ 64
  within_word =
      let tz : ℕ = trailing_zeros w64 (n / 2 ^ k) in
      let lowest = bit_at-trailing_zeros w64 (n / 2 ^ k) some below in
      let one : bit_at n (k + tz) ≡ 1 = shifted n k (k + tz) (omega arith) ∙ ap (λ (i : ℕ). bit_at (n / 2 ^ k) i) (omega arith) ∙ lowest.1 in
      elim (cases_lt (k + tz) 64) [
        | inl lt ↦ omega (arith, lt)
        | inr past ↦ absurd (omega (arith, one, bit_at_above n 64 (k + tz) fits past))
      ]

  pub none_before : (i : ℕ) → k ≤ i → i < k + trailing_zeros w64 (n / 2 ^ k) → bit_at n i ≡ 0
  none_before i le lt =
      let lowest = bit_at-trailing_zeros w64 (n / 2 ^ k) some below in
      shifted n k i le ∙ lowest.2 (i - k) (omega (arith, le, lt))

-- ---- a bit is set

module _ (ws : List ℕ) (at : ℕ) (len : length ws ≡ 16) where
  abbrev pub word : ℕ
  word = bit_or (slice_index_or ws (at / 64 % 16) 0) (1 * 2 ^ (at % 64) % 18446744073709551616)

  pub bit_added : bit_at (slice_index_or (slice_set ws (at / 64 % 16) word) (at / 64 % 16) 0) (at % 64) ≡ 1
  bit_added =
      ap (λ (w : ℕ). bit_at w (at % 64)) (get_or-set_same ws (at / 64 % 16) word 0 (omega (arith, len)))
      ∙ bit_at_set_same w64 (slice_index_or ws (at / 64 % 16) 0) (at % 64) (omega arith)

  pub bit_still : (other : ℕ) → bit_at (slice_index_or ws (other / 64 % 16) 0) (other % 64) ≡ 1 → bit_at (slice_index_or (slice_set ws (at / 64 % 16) word) (other / 64 % 16) 0) (other % 64) ≡ 1
  bit_still other is = elim (cases_eq (other / 64 % 16) (at / 64 % 16)) [
    | inl e ↦
        let old : ℕ = slice_index_or ws (at / 64 % 16) 0 in
        let new : ℕ = 1 * 2 ^ (at % 64) % 18446744073709551616 in
        let had : bit_at old (other % 64) ≡ 1 = ap (λ (k : ℕ). bit_at (slice_index_or ws k 0) (other % 64)) (sym e) ∙ is in
        ap (λ (k : ℕ). bit_at (slice_index_or (slice_set ws (at / 64 % 16) word) k 0) (other % 64)) e
        ∙ ap (λ (w : ℕ). bit_at w (other % 64)) (get_or-set_same ws (at / 64 % 16) word 0 (omega (arith, len))) ∙ has_either old new (other % 64) had
    | inr ne ↦ ap (λ (w : ℕ). bit_at w (other % 64)) (get_or-set_other ws (at / 64 % 16) (other / 64 % 16) word 0 ne) ∙ is
  ]
