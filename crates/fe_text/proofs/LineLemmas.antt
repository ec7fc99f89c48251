-- The lines of bytes, one after another.
use Rattle.std.proofs.Common.{◌≡◌, ℕ, zero, suc, ◌+◌, ◌-◌, ◌<◌, Bool, true, false, List, [], ◌∷◌, ◌++◌, None, Some, length, take, take_all, drop, get_or, refl, sym, ap, subst, ◌∙◌, eqb, ltb, cond, arith, if◌then◌else◌}
use Rattle.std.specs.Prelude.{position}
use Rattle.std.specs.List.{position_or_len}
use Rattle.std.proofs.Math.Numerals.{add-one}
use Rattle.std.proofs.Math.Seq.{drop-cons}
use Rattle.std.proofs.lemmas.Bool.{ltb-false, eqb-true}
use Rattle.std.proofs.lemmas.List.Sums.{fails_before_first}
use Rattle.std.proofs.lemmas.Option.{none-some}
use Rattle.std.proofs.lemmas.List.{take-append-drop, length-drop}
use Rattle.std.proofs.lemmas.List.Quantifiers.{position-Some}
use Rattle.fe_text.specs.Line.{before_first, lines_of, HasNoFeed}

-- no byte of the prefix is a line feed
front_no_feed : (n : ℕ) (xs : List ℕ) → ((k : ℕ) → k < n → eqb (get_or xs k 0) 10 ≡ false) → HasNoFeed (take n xs)
front_no_feed zero xs none = tt
front_no_feed (suc n) [] none = tt
front_no_feed (suc n) (x ∷ xs) none = (none 0 (omega arith), front_no_feed n xs (λ k lt. none (suc k) (omega (arith, lt))))

-- if no line feed was found, there is none
pub none_found : (xs : List ℕ) → None ≡ position (λ (byte : ℕ). eqb byte 10) xs → HasNoFeed xs
none_found xs is = at (ltb (position_or_len (λ (byte : ℕ). eqb byte 10) xs) (length xs)) refl is
  where
    at : (b : Bool) → ltb (position_or_len (λ (byte : ℕ). eqb byte 10) xs) (length xs) ≡ b → None ≡ cond b (Some (position_or_len (λ (byte : ℕ). eqb byte 10) xs)) None → HasNoFeed xs
    at true e none = absurd (none-some _ none)
    at false e none =
        let le = ltb-false (position_or_len (λ (byte : ℕ). eqb byte 10) xs) (length xs) e in
        subst HasNoFeed (take_all (length xs) xs (omega arith)) (front_no_feed (length xs) xs (λ k lt. fails_before_first (λ (byte : ℕ). eqb byte 10) xs k 0 (omega (arith, le, lt))))

-- there is none before the first one
pub before_found : (xs : List ℕ) (i : ℕ) → Some i ≡ position (λ (byte : ℕ). eqb byte 10) xs → HasNoFeed (take i xs)
before_found xs i is = front_no_feed i xs (position-Some (λ (byte : ℕ). eqb byte 10) xs i 0 (sym is)).2

-- and it splits the bytes
pub at_found : (xs : List ℕ) (i : ℕ) → Some i ≡ position (λ (byte : ℕ). eqb byte 10) xs → xs ≡ take i xs ++ 10 ∷ take (length xs - (i + 1)) (drop (i + 1) xs)
at_found xs i is =
    let p = position-Some (λ (byte : ℕ). eqb byte 10) xs i 0 (sym is) in
    let feed : get_or xs i 0 ≡ 10 = eqb-true (get_or xs i 0) 10 p.1 in
    let behind : drop i xs ≡ 10 ∷ drop (suc i) xs = drop-cons xs i 0 p.0 ∙ ap (λ (x : ℕ). x ∷ drop (suc i) xs) feed in
    let whole : take (length xs - (i + 1)) (drop (i + 1) xs) ≡ drop (i + 1) xs = take_all (length xs - (i + 1)) (drop (i + 1) xs) (omega (arith, length-drop (i + 1) xs)) in
    sym (take-append-drop i xs) ∙ ap (λ (t : List ℕ). take i xs ++ t) behind ∙ ap (λ (n : ℕ). take i xs ++ 10 ∷ drop n xs) (sym (add-one i)) ∙ ap (λ (t : List ℕ). take i xs ++ 10 ∷ t) (sym whole)

pub both_no_feed : (xs ys : List ℕ) → HasNoFeed xs → HasNoFeed ys → HasNoFeed (xs ++ ys)
both_no_feed [] ys p q = q
both_no_feed (x ∷ xs) ys p q = (p.0, both_no_feed xs ys p.1 q)

-- a byte that is not a line feed begins the first line
first_byte : (x : ℕ) (ls more : List (List ℕ)) → eqb x 10 ≡ false → (if eqb x 10 then more else before_first x ls) ≡ before_first x ls
first_byte x ls more other = ap (λ (b : Bool). if b then more else before_first x ls) other

-- the bytes before a line feed are a line
pub fed : (xs others : List ℕ) → HasNoFeed xs → lines_of (xs ++ 10 ∷ others) ≡ xs ∷ lines_of others
fed [] others none = refl
fed (x ∷ xs) others none = first_byte x (lines_of (xs ++ 10 ∷ others)) ([] ∷ lines_of (xs ++ 10 ∷ others)) none.0 ∙ ap (before_first x) (fed xs others none.1)

-- the last line may end without one
pub unfed : (x : ℕ) (xs : List ℕ) → HasNoFeed (x ∷ xs) → lines_of (x ∷ xs) ≡ (x ∷ xs) ∷ []
unfed x [] none = first_byte x [] ([] ∷ []) none.0
unfed x (y ∷ xs) none = first_byte x (lines_of (y ∷ xs)) ([] ∷ lines_of (y ∷ xs)) none.0 ∙ ap (before_first x) (unfed y xs none.1)

-- the first line begins with the bytes before the first line feed
pub begins : (x : ℕ) (xs others : List ℕ) → HasNoFeed (x ∷ xs) → (more : List ℕ) × (left : List (List ℕ)) × (lines_of ((x ∷ xs) ++ others) ≡ ((x ∷ xs) ++ more) ∷ left)
begins x [] others none = at (lines_of others) refl
  where
    at : (ls : List (List ℕ)) → lines_of others ≡ ls → (more : List ℕ) × (left : List (List ℕ)) × (lines_of (x ∷ others) ≡ (x ∷ more) ∷ left)
    at [] e = ([], [], first_byte x (lines_of others) ([] ∷ lines_of others) none.0 ∙ ap (before_first x) e)
    at (l ∷ ls) e = (l, ls, first_byte x (lines_of others) ([] ∷ lines_of others) none.0 ∙ ap (before_first x) e)
begins x (y ∷ xs) others none =
    let later = begins y xs others none.1 in
    (later.0, later.1, first_byte x (lines_of ((y ∷ xs) ++ others)) ([] ∷ lines_of ((y ∷ xs) ++ others)) none.0 ∙ ap (before_first x) later.2)
