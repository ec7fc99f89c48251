-- A field of an image that is read was spelled so, and what was spelled is read.
use Rattle.std.proofs.Common.{◌≡◌, ℕ, suc, ◌^◌, ◌<◌, ◌≤◌, Bool, true, false, cond, ltb, ◌&&◌, List, ◌∷◌, ◌++◌, length, take, drop, Option, Some, None, Result, Ok, Err, refl, sym, ap, subst, ◌∙◌, arith}
use Rattle.std.specs.Prelude.{nat_le}
use Rattle.std.specs.Int.{Width, w32, w64, byte_len, from_be_bytes, to_be_bytes}
use Rattle.std.proofs.lemmas.Bool.{ltb-false, le-ltb, le-leb, lt-ltb}
use Rattle.std.proofs.lemmas.List.{take_at, drop_at, take-append-drop, length-append, length-take}
use Rattle.std.proofs.lemmas.Nat.{be_bytes_4, be_bytes_8, from_be_bytes-to_be_bytes_4, from_be_bytes-to_be_bytes_8}
use Rattle.fe_codes.specs.Reading.{IsBytes}
use Rattle.fe_codes.proofs.Splits.{IsBytes-drop, IsBytes-take, Splits}
use Rattle.fe_codec.specs.FirstFault.{◌followed_by◌, or_fault, row, number, number_in}

-- ---- bytes

pub IsBytes-rest : (b : ℕ) (bytes : List ℕ) → IsBytes (b ∷ bytes) → IsBytes bytes
IsBytes-rest b bytes h i = h (suc i)

-- ---- steps

abbrev done : {A : Type 0} → A → Result A ℕ
done x = Ok x

pub ok_is : {A : Type 0} (x y : A) → done x ≡ done y → x ≡ y
ok_is x y e = cc

-- the value of a step that did not fail
pub bind_ok : {A B : Type 0} (r : Result A ℕ) (f : A → Result B ℕ) (y : B) → (r followed_by f) ≡ Ok y → (x : A) × (r ≡ Ok x) × (f x ≡ Ok y)
bind_ok (Ok x) f y e = (x, refl, e)
bind_ok (Err d) f y e = absurd cc

-- a test that did not fail
pub guard_not : {A : Type 0} (b : Bool) (d : ℕ) (x y : A) → cond b (Err d) (done x) ≡ Ok y → (b ≡ false) × (x ≡ y)
guard_not true d x y e = absurd cc
guard_not false d x y e = (refl, cc)

pub guard_so : {A : Type 0} (b : Bool) (d : ℕ) (x y : A) → cond b (done x) (Err d) ≡ Ok y → (b ≡ true) × (x ≡ y)
guard_so true d x y e = (refl, cc)
guard_so false d x y e = absurd cc

-- a step whose value is tested
pub tested : {A : Type 0} (r : Result A ℕ) (t : A → Bool) (d : ℕ) (x : A) → (r followed_by λ n. cond (t n) (done n) (Err d)) ≡ Ok x → (r ≡ Ok x) × (t x ≡ true)
tested (Ok n) t d x e =
    let g = guard_so (t n) d n x e in
    (ap done g.1, subst (λ (z : _). t z ≡ true) g.1 g.0)
tested (Err l) t d x e = absurd cc

pub tested_not : {A : Type 0} (r : Result A ℕ) (t : A → Bool) (d : ℕ) (x : A) → (r followed_by λ n. cond (t n) (Err d) (done n)) ≡ Ok x → (r ≡ Ok x) × (t x ≡ false)
tested_not (Ok n) t d x e =
    let g = guard_not (t n) d n x e in
    (ap done g.1, subst (λ (z : _). t z ≡ false) g.1 g.0)
tested_not (Err l) t d x e = absurd cc

pub given : {A : Type 0} (left : ℕ) (o : Option A) (x : A) → or_fault left o ≡ Ok x → o ≡ Some x
given left (Some y) x e = ap (λ (z : _). Some z) (ok_is y x e)
given left None x e = absurd cc

pub both_true : (a b : Bool) → (a && b) ≡ true → (a ≡ true) × (b ≡ true)
both_true true b e = (refl, e)
both_true false b e = absurd cc

-- ---- numbers

pub record IsField (w : Width) (limit : ℕ) : Type 0 where
  pub len : (n : ℕ) → length (to_be_bytes w n) ≡ byte_len w
  pub back : (bytes : List ℕ) → length bytes ≡ byte_len w → IsBytes bytes → to_be_bytes w (from_be_bytes w bytes) ≡ bytes
  pub again : (n : ℕ) → n < limit → from_be_bytes w (to_be_bytes w n) ≡ n

pub field32 : IsField w32 (2 ^ 32)
field32 = record {
  len = λ n. refl;
  back = λ bytes len fits. be_bytes_4 bytes _ len fits refl;
  again = λ n lt. from_be_bytes-to_be_bytes_4 n lt;
}

pub field64 : IsField w64 (2 ^ 64)
field64 = record {
  len = λ n. refl;
  back = λ bytes len fits. be_bytes_8 bytes _ len fits refl;
  again = λ n lt. from_be_bytes-to_be_bytes_8 n lt;
}

pub number_takes : (w : Width) (limit : ℕ) (wide : IsField w limit) (bytes : List ℕ) (x : ℕ × List ℕ) → IsBytes bytes → number w bytes ≡ Ok x → Splits bytes (to_be_bytes w x.0) x.1
unfolding number
number_takes w limit wide bytes x fits e =
    let g = guard_not (ltb (length bytes) (byte_len w)) 0 (from_be_bytes w (take (byte_len w) bytes), drop (byte_len w) bytes) x e in
    let long : byte_len w ≤ length bytes = ltb-false _ _ g.0 in
    let front : to_be_bytes w (from_be_bytes w (take (byte_len w) bytes)) ≡ take (byte_len w) bytes =
    wide.back (take (byte_len w) bytes) (omega (arith, length-take (byte_len w) bytes)) (IsBytes-take (byte_len w) bytes fits) in
    subst (λ (y : ℕ × List ℕ). Splits bytes (to_be_bytes w y.0) y.1) g.1
    (record { parts = sym (ap (λ (t : List ℕ). t ++ drop (byte_len w) bytes) front ∙ take-append-drop (byte_len w) bytes); rest_fits = IsBytes-drop (byte_len w) bytes fits })

pub number_in_takes : (w : Width) (limit : ℕ) (wide : IsField w limit) (least most : ℕ) (bytes : List ℕ) (x : ℕ × List ℕ) → IsBytes bytes → number_in w least most bytes ≡ Ok x → Splits bytes (to_be_bytes w x.0) x.1
unfolding number_in
number_in_takes w limit wide least most bytes x fits e =
    number_takes w limit wide bytes x fits (tested (number w bytes) (λ n. nat_le least n.0 && ltb n.0 most) (length bytes) x e).0

pub row_takes : (n : ℕ) (bytes : List ℕ) (x : List ℕ × List ℕ) → IsBytes bytes → row n bytes ≡ Ok x → Splits bytes x.0 x.1 × (length x.0 ≡ n)
unfolding row
row_takes n bytes x fits e =
    let g = guard_not (ltb (length bytes) n) 0 (take n bytes, drop n bytes) x e in
    let long : n ≤ length bytes = ltb-false _ _ g.0 in
    subst (λ (y : List ℕ × List ℕ). Splits bytes y.0 y.1 × (length y.0 ≡ n)) g.1
    (record { parts = sym (take-append-drop n bytes); rest_fits = IsBytes-drop n bytes fits }, omega (arith, length-take n bytes))

pub row_fits : (n : ℕ) (bytes : List ℕ) (x : List ℕ × List ℕ) → IsBytes bytes → row n bytes ≡ Ok x → IsBytes x.0
unfolding row
row_fits n bytes x fits e =
    let g = guard_not (ltb (length bytes) n) 0 (take n bytes, drop n bytes) x e in
    subst (λ (y : List ℕ × List ℕ). IsBytes y.0) g.1 (IsBytes-take n bytes fits)

-- ---- what was spelled is read

pub number_again : (w : Width) (limit : ℕ) (wide : IsField w limit) (n : ℕ) (rest : List ℕ) → n < limit → number w (to_be_bytes w n ++ rest) ≡ Ok (n, rest)
unfolding number
number_again w limit wide n rest lt =
    let len = wide.len n in
    let long : ltb (length (to_be_bytes w n ++ rest)) (byte_len w) ≡ false = le-ltb _ _ (omega (arith, length-append (to_be_bytes w n) rest)) in
    rw (long, take_at (to_be_bytes w n) rest (byte_len w) len, drop_at (to_be_bytes w n) rest (byte_len w) len, wide.again n lt) refl

-- a step that gives a value goes on from it
pub goes_from : {A B : Type 0} (r : Result A ℕ) (f : A → Result B ℕ) (x : A) → r ≡ Ok x → (r followed_by f) ≡ f x
goes_from r f x e = ap (λ (t : Result _ ℕ). t followed_by f) e

pub passes : {A : Type 0} (r : Result A ℕ) (t : A → Bool) (d : ℕ) (x : A) → r ≡ Ok x → t x ≡ true → (r followed_by λ n. cond (t n) (done n) (Err d)) ≡ Ok x
passes r t d x e h = goes_from r (λ n. cond (t n) (done n) (Err d)) x e ∙ ap (λ (b : Bool). cond b (done x) (Err d)) h

pub passes_not : {A : Type 0} (r : Result A ℕ) (t : A → Bool) (d : ℕ) (x : A) → r ≡ Ok x → t x ≡ false → (r followed_by λ n. cond (t n) (Err d) (done n)) ≡ Ok x
passes_not r t d x e h = goes_from r (λ n. cond (t n) (Err d) (done n)) x e ∙ ap (λ (b : Bool). cond b (Err d) (done x)) h

pub and_true : (a b : Bool) → a ≡ true → b ≡ true → (a && b) ≡ true
and_true true b p q = q
and_true false b p q = absurd cc

pub number_in_again : (w : Width) (limit : ℕ) (wide : IsField w limit) (least most n : ℕ) (rest : List ℕ) → n < limit → least ≤ n → n < most → number_in w least most (to_be_bytes w n ++ rest) ≡ Ok (n, rest)
unfolding number_in
number_in_again w limit wide least most n rest lt low high =
    passes (number w (to_be_bytes w n ++ rest)) (λ m. nat_le least m.0 && ltb m.0 most) (length (to_be_bytes w n ++ rest)) (n, rest) (number_again w limit wide n rest lt)
    (and_true (nat_le least n) (ltb n most) (le-leb least n low) (lt-ltb n most high))

pub row_again : (n : ℕ) (cells rest : List ℕ) → length cells ≡ n → row n (cells ++ rest) ≡ Ok (cells, rest)
unfolding row
row_again n cells rest len =
    let long : ltb (length (cells ++ rest)) n ≡ false = le-ltb _ _ (omega (arith, length-append cells rest, len)) in
    rw (long, take_at cells rest n len, drop_at cells rest n len) refl
