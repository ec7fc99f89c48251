-- The number whose decimal digits a word is.
use Rattle.std.proofs.Common.{◌≡◌, ◌≢◌, ℕ, ◌<◌, ◌^◌, Bool, true, false, ◌&&◌, cond, List, [], ◌∷◌, length, get_or, Some, None, Result, Ok, Err, sym, refl, ap, ◌∙◌, subst, inl, inr, ⊎_elim, arith, rules, nat_lt, zero, suc, ◌⊎◌}
use Rattle.std.specs.Fmt.{decimal}
use Rattle.std.specs.Result.{result_ok, OkIff}
use Rattle.std.specs.Str.{bytes_eq, IsUtf8}
use Rattle.std.specs.Str.Parse.{digits_value, AllDigits, ParsesUnsigned}
use Rattle.std.proofs.lemmas.Fmt.{digits_decimal, digits_value-decimal, decimal-digits_value, decimal_nonempty, first_decimal, decimal_digit, IsAscii-decimal}
use Rattle.std.proofs.lemmas.Str.Parse.{IsNumeralModel, numerals_by_value, tells_digits, parse_plain}
use Rattle.std.proofs.lemmas.Slice.Eq.{bytes_eq-Decides}
use Rattle.std.proofs.lemmas.Str.{IsUtf8-from_ascii}
use Rattle.std.proofs.lemmas.Bool.{false≢true}
use Rattle.std.proofs.lemmas.Bool.Decides.{nat_tests}
use Rattle.fe_text.specs.Line.{number_of}

own : IsNumeralModel (AllDigits 10) (digits_value 10)
own = numerals_by_value (AllDigits 10) tells_digits

chosen : (b : Bool) (v : ℕ) → b ≡ true → cond b (Some v) None ≡ Some v
chosen true v e = refl
chosen false v e = absurd (false≢true e)

refused : (b : Bool) (v : ℕ) → b ≡ false → cond b (Some v) None ≡ None
refused true v e = absurd (false≢true (sym e))
refused false v e = refl

denied : (b : Bool) → (b ≡ true → ⊥) → b ≡ false
denied true d = absurd (d refl)
denied false d = refl

both : (a b : Bool) → a ≡ true → b ≡ true → (a && b) ≡ true
both true true d e = refl
both true false d e = e
both false b d e = d

parts : (a b : Bool) → (a && b) ≡ true → (a ≡ true) × (b ≡ true)
parts true true e = (refl, refl)
parts true false e = absurd (false≢true e)
parts false b e = absurd (false≢true e)

-- the decimal digits of a number are read as that number
pub spelled : (word : List ℕ) (n : ℕ) → n < 2 ^ 64 → word ≡ decimal n → number_of word ≡ Some n
unfolding number_of
spelled word n small e =
    let value : digits_value 10 word ≡ n = ap (digits_value 10) e ∙ digits_value-decimal own n small in
    let same : bytes_eq word (decimal (digits_value 10 word)) ≡ true = (bytes_eq-Decides word (decimal (digits_value 10 word))).1 (e ∙ ap decimal (sym value)) in
    let below : nat_lt (digits_value 10 word) (2 ^ 64) ≡ true = rw value (search (rules, nat_tests)) in
    chosen _ (digits_value 10 word) (both _ _ below same) ∙ ap Some value

-- a word that is not the decimal digits of a number is not a number
unspelled : (word : List ℕ) → ((n : ℕ) → n < 2 ^ 64 → word ≡ decimal n → ⊥) → number_of word ≡ None
unfolding number_of
unspelled word d =
    refused _ (digits_value 10 word) (denied _ (λ e. let p = parts (nat_lt (digits_value 10 word) (2 ^ 64)) _ e in
    d (digits_value 10 word) (let t : nat_lt (digits_value 10 word) (2 ^ 64) ≡ true = p.0 in search (rules, nat_tests)) ((bytes_eq-Decides word (decimal (digits_value 10 word))).0 p.1)))

pub empty : (word : List ℕ) → length word ≡ 0 → number_of word ≡ None
empty word e = unspelled word (λ n small w. let some = decimal_nonempty n small in let len = ap length w in absurd (omega arith))

-- the digits of a number are "0", or the first digit is not 0
first : (n : ℕ) → n < 2 ^ 64 → (decimal n ≡ 48 ∷ []) ⊎ (48 < get_or (decimal n) 0 0)
first zero small = inl (decimal_digit 0 (omega arith))
first (suc n) small = inr (first_decimal (suc n) (omega arith) small)

pub sign : (word : List ℕ) → get_or word 0 0 ≡ 43 → number_of word ≡ None
sign word e =
    unspelled word (λ n small w. let h = ap (λ (x : List ℕ). get_or x 0 0) w in
    ⊎_elim (λ z. let d = ap (λ (x : List ℕ). get_or x 0 0) z in absurd (omega arith)) (λ p. absurd (omega arith)) (first n small))

pub zeros : (word : List ℕ) → get_or word 0 0 ≡ 48 → 1 < length word → number_of word ≡ None
zeros word e long =
    unspelled word (λ n small w. let h = ap (λ (x : List ℕ). get_or x 0 0) w in let k = ap (length {A = ℕ}) w in
    ⊎_elim (λ z. let d = ap (length {A = ℕ}) z in absurd (omega arith)) (λ p. absurd (omega arith)) (first n small))

pub no_text : (word : List ℕ) → (IsUtf8 word → ⊥) → number_of word ≡ None
no_text word d = unspelled word (λ n small w. d (subst IsUtf8 (sym w) (IsUtf8-from_ascii (decimal n) (IsAscii-decimal n small))))

decided : {E : Type 0} (word : List ℕ) (r : Result ℕ E) → OkIff r (AllDigits 10 word × (0 < length word) × (digits_value 10 word < 2 ^ 64)) (digits_value 10 word) → (get_or word 0 0 ≡ 48 → length word ≡ 1) → result_ok r ≡ number_of word
decided word (Ok x) h alone =
    ap Some h.1 ∙ sym (spelled word (digits_value 10 word) h.0.2 (sym (decimal-digits_value own word h.0.0 h.0.1 alone h.0.2)))
decided word (Err e) h alone =
    sym (unspelled word (λ n small w. h (subst (AllDigits 10) (sym w) (digits_decimal own n small), (let some = decimal_nonempty n small in let k = ap (length {A = ℕ}) w in omega arith), (let v = ap (digits_value 10) w ∙ digits_value-decimal own n small in omega arith))))

pub parsed : {E : Type 0} (word : List ℕ) (r : Result ℕ E) → ParsesUnsigned 64 10 word r → get_or word 0 0 ≢ 43 → (get_or word 0 0 ≡ 48 → length word ≡ 1) → result_ok r ≡ number_of word
parsed word r h plain alone = decided word r (parse_plain own 64 word r h plain) alone
