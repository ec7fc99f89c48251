-- The text of a state, a line after the other.
use Rattle.std.proofs.Common.{◌≡◌, ℕ, zero, suc, ◌+◌, ◌<◌, ◌≤◌, ◌&&◌, Bool, true, false, List, [], ◌∷◌, ◌++◌, length, take, get_or, Some, refl, sym, ap, ◌∙◌, arith, append_assoc, append-nil}
use Rattle.std.specs.Prelude.{flat_map, slice_get, IsOk, MatchResult, Result, Ok, Err}
use Rattle.std.specs.List.{list_all}
use Rattle.std.specs.FinMap.{entries, get-entries, entries_sorted}
use Rattle.std.specs.Str.{IsAscii, IsUtf8}
use Rattle.std.proofs.lemmas.Bool.Decides.{nat_tests}
use Rattle.std.proofs.lemmas.Grind.{flat_map-append}
use Rattle.std.proofs.lemmas.List.{take_all, take_more}
use Rattle.std.proofs.lemmas.Option.{slice_get_within, get_or_from_slice_get}
use Rattle.std.proofs.lemmas.Str.{IsUtf8-from_ascii}
use Rattle.fe_codec.proofs.Elements.{all_at}
use Rattle.fe_codec.proofs.Found.{holds_each}
use Rattle.fe_state.specs.Directory.{Directory, IsDirectory}
use Rattle.fe_state.specs.Name.{is_plain, is_plain_byte}
use Rattle.fe_state.specs.declared.array.Array.{Array}

-- ---- one line more

pub line_more : {X : Type 0} (f : X → List ℕ) (xs : List X) (k : ℕ) (x : X) (before old new : List ℕ) → slice_get xs k ≡ Some x → old ≡ before ++ flat_map f (take k xs) → new ≡ old ++ f x
    → new ≡ before ++ flat_map f (take (k + 1) xs)
line_more {X = X} f xs k x before old new at so is =
    let start : List ℕ = flat_map f (take k xs) in
    let more : flat_map f (take (k + 1) xs) ≡ start ++ f x =
    ap (flat_map f) (take_more xs k x (slice_get_within xs k x at)) ∙ flat_map-append f (take k xs) (get_or xs k x ∷ [])
    ∙ ap (λ (y : X). start ++ (f y ++ [])) (get_or_from_slice_get xs k x x at) ∙ ap (λ (t : List ℕ). start ++ t) (append-nil (f x)) in
    is ∙ ap (λ (t : List ℕ). t ++ f x) so ∙ append_assoc before start (f x) ∙ ap (λ (t : List ℕ). before ++ t) (sym more)

pub all_lines : {X : Type 0} (f : X → List ℕ) (xs : List X) (k : ℕ) (before now : List ℕ) → length xs ≤ k → now ≡ before ++ flat_map f (take k xs) → now ≡ before ++ flat_map f xs
all_lines {X = X} f xs k before now past so = so ∙ ap (λ (ys : List X). before ++ flat_map f ys) (take_all k xs past)

-- ---- names are text

both_first : (a b : Bool) → (a && b) ≡ true → a ≡ true
both_first true b e = refl
both_first false b e = e

both_second : (a b : Bool) → (a && b) ≡ true → b ≡ true
both_second true b e = e
both_second false b e = absurd (Rattle.std.proofs.Common.true≢false (sym e))

plain_byte : (b : ℕ) → is_plain_byte b ≡ true → b < 128
plain_byte b e = grind (arith, nat_tests)

plain_bytes : (bs : List ℕ) → list_all is_plain_byte bs ≡ true → IsAscii bs
plain_bytes [] e i = omega arith
plain_bytes (b ∷ bs) e zero = plain_byte b (both_first _ _ e)
plain_bytes (b ∷ bs) e (suc i) = plain_bytes bs (both_second _ _ e) i

pub name_is_text : (name : List ℕ) → is_plain name ≡ true → IsUtf8 name
name_is_text name e = IsUtf8-from_ascii name (plain_bytes name (both_second _ _ e))

-- the name of the array at a place is plain
pub plain_at : (d : Directory) (k : ℕ) (e : ℕ × Array) → IsDirectory d → slice_get (entries d.arrays) k ≡ Some e → is_plain e.1.name ≡ true
plain_at d k e is at =
    all_at (λ (x : ℕ × Array). is_plain x.1.name ≡ true) (entries d.arrays) k e
    (holds_each (λ (x : ℕ × Array). is_plain x.1.name ≡ true) (entries d.arrays) (entries_sorted d.arrays) (λ q x found. (is.each q x (get-entries d.arrays q ∙ found)).name))
    at

-- what is text is read
pub read_ok : {X E : Type 0} (r : Result X E) (P : X → Type 0) (Q : E → Type 0) (bs : List ℕ) → MatchResult r P (λ e. ¬ (IsUtf8 bs) × Q e) → IsUtf8 bs → IsOk r
read_ok (Ok x) P Q bs h is = refl
read_ok (Err e) P Q bs h is = absurd (h.0 is)
