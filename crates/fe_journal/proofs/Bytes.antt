-- The same bytes in two lists, at offsets of their own.
use Rattle.std.proofs.Common.{◌≡◌, ◌⊎◌, ℕ, ◌+◌, ◌-◌, ◌<◌, ◌≤◌, List, ◌++◌, length, length-append, get_or, inl, inr, sym, ◌∙◌, ap, subst, refl, arith}
use Rattle.std.proofs.lemmas.List.{ext_get_or, get_or_append_left, get_or-append_right}
use Rattle.std.proofs.lemmas.Bool.{cases_lt}
use Rattle.byteorder.specs.Endian.{big_number}
use Rattle.fe_disk.specs.Disk.{IsTorn, bytes_at, after_write}
use Rattle.fe_disk.proofs.Images.{length-bytes_at, get_or-bytes_at, length-after_write, after_write_inside}
use Rattle.fe_journal.specs.Layout.{number_at}

-- n bytes are the same in xs from a on and in ys from b on
pub record SameBytes (xs : List ℕ) (a : ℕ) (ys : List ℕ) (b n : ℕ) : Type 0 where
  pub here : a + n ≤ length xs
  pub there : b + n ≤ length ys
  pub same : (i p q : ℕ) → i < n → p ≡ a + i → q ≡ b + i → get_or xs p 0 ≡ get_or ys q 0

pub same_back : {xs ys : List ℕ} {a b n : ℕ} → SameBytes xs a ys b n → SameBytes ys b xs a n
same_back s = record { here = s.there; there = s.here; same = λ i p q low at_p at_q. sym (s.same i q p low at_q at_p) }

pub same_through : {xs ys zs : List ℕ} {a b d n : ℕ} → SameBytes xs a ys b n → SameBytes ys b zs d n → SameBytes xs a zs d n
same_through {b = b} s t = record { here = s.here; there = t.there; same = λ i p q low at_p at_q. s.same i p (b + i) low at_p refl ∙ t.same i (b + i) q low refl at_q }

-- a part of them
pub same_part : {xs ys : List ℕ} {a b n : ℕ} → SameBytes xs a ys b n → (k m p q : ℕ) → k + m ≤ n → p ≡ a + k → q ≡ b + k → SameBytes xs p ys q m
same_part {xs} {ys} {a} {b} {n} s k m p q low at_p at_q =
    let here : a + n ≤ length xs = s.here in
    let there : b + n ≤ length ys = s.there in
    record { here = omega arith; there = omega arith; same = λ i u v lt at_u at_v. s.same (k + i) u v (omega arith) (omega arith) (omega arith) }

pub same_byte : {xs ys : List ℕ} {a b n : ℕ} → SameBytes xs a ys b n → (k p q : ℕ) → k < n → p ≡ a + k → q ≡ b + k → get_or xs p 0 ≡ get_or ys q 0
same_byte s k p q low at_p at_q = s.same k p q low at_p at_q

pub same_bytes_at : {xs ys : List ℕ} {a b n : ℕ} → SameBytes xs a ys b n → bytes_at xs a n ≡ bytes_at ys b n
same_bytes_at {xs} {ys} {a} {b} {n} s =
    let here = length-bytes_at xs a n s.here in
    let there = length-bytes_at ys b n s.there in
    ext_get_or 0 (bytes_at xs a n) (bytes_at ys b n) (here ∙ sym there) (λ i low.
    let within : i < n = omega (arith, low, here) in
    get_or-bytes_at xs a n i within ∙ s.same i (a + i) (b + i) within refl refl ∙ sym (get_or-bytes_at ys b n i within))

pub same_number_at : {xs ys : List ℕ} {a b n : ℕ} → SameBytes xs a ys b n → number_at xs a n ≡ number_at ys b n
same_number_at {n = n} s = ap (λ (l : List ℕ). big_number n l) (same_bytes_at s)

-- outside of a torn range
pub torn_same : (at n : ℕ) (old new : List ℕ) → IsTorn at n old new → (a m : ℕ) → (a + m ≤ at) ⊎ (at + n ≤ a) → a + m ≤ length old → SameBytes old a new a m
torn_same at n old new torn a m apart fits =
    let whole : length new ≡ length old = torn.whole in
    record { here = fits; there = omega arith; same = λ i p q low at_p at_q. subst (λ (k : ℕ). get_or old k 0 ≡ get_or new q 0) (sym at_p) (subst (λ (k : ℕ). get_or old (a + i) 0 ≡ get_or new k 0) (sym at_q) (sym (outside apart i low))) }
  where
    outside : (a + m ≤ at) ⊎ (at + n ≤ a) → (i : ℕ) → i < m → get_or new (a + i) 0 ≡ get_or old (a + i) 0
    outside (inl before) i low = torn.below (a + i) (omega arith)
    outside (inr behind) i low = torn.above (a + i) (omega arith)

-- what was written
pub written_same : (image : List ℕ) (at : ℕ) (bytes : List ℕ) → at + length bytes ≤ length image → SameBytes (after_write image at bytes) at bytes 0 (length bytes)
written_same image at bytes fits =
    let long = length-after_write image at bytes fits in
    record {
      here = omega (arith, long);
      there = omega arith;
      same = λ i p q low at_p at_q.
          let at_i : q ≡ i = omega arith in
          subst (λ (k : ℕ). get_or (after_write image at bytes) k 0 ≡ get_or bytes q 0) (sym at_p)
          (subst (λ (k : ℕ). get_or (after_write image at bytes) (at + i) 0 ≡ get_or bytes k 0) (sym at_i) (after_write_inside image at bytes fits i low));
    }

-- what is read of a part
pub part_same : (image : List ℕ) (at n : ℕ) → at + n ≤ length image → SameBytes image at (bytes_at image at n) 0 n
part_same image at n fits =
    let long = length-bytes_at image at n fits in
    record {
      here = fits;
      there = omega (arith, long);
      same = λ i p q low at_p at_q.
          let at_i : q ≡ i = omega arith in
          subst (λ (k : ℕ). get_or image k 0 ≡ get_or (bytes_at image at n) q 0) (sym at_p)
          (subst (λ (k : ℕ). get_or image (at + i) 0 ≡ get_or (bytes_at image at n) k 0) (sym at_i) (sym (get_or-bytes_at image at n i low)));
    }

-- one list after another
pub joined_same : (xs : List ℕ) (a : ℕ) (ys zs : List ℕ) (m n : ℕ) → length ys ≡ m → length zs ≡ n → SameBytes xs a ys 0 m → SameBytes xs (a + m) zs 0 n → SameBytes xs a (ys ++ zs) 0 (m + n)
joined_same xs a ys zs m n long_ys long_zs s t =
    let there : a + m + n ≤ length xs = t.here in
    record {
      here = omega arith;
      there = omega (arith, length-append ys zs);
      same = λ i p q low at_p at_q. elim (cases_lt q m) [
        | inl front ↦ s.same i p q (omega arith) at_p at_q ∙ sym (get_or_append_left ys zs 0 q (omega arith))
        | inr behind ↦ t.same (i - m) p (q - m) (omega arith) (omega arith) (omega arith) ∙ sym (get_or-append_right ys zs m q 0 long_ys behind)
      ];
    }

-- what bytes are known to be
pub known_same : (image : List ℕ) (at n : ℕ) (bytes : List ℕ) → at + n ≤ length image → bytes_at image at n ≡ bytes → SameBytes image at bytes 0 n
known_same image at n bytes fits is = subst (λ (l : List ℕ). SameBytes image at l 0 n) is (part_same image at n fits)
