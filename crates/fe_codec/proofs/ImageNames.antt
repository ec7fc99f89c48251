-- Names and words of images that are read were spelled so, and what was spelled is read.
use Rattle.std.proofs.Common.{◌≡◌, ℕ, zero, suc, ◌-◌, ◌^◌, ◌<◌, ◌≤◌, Bool, true, false, cond, eqb, ◌&&◌, List, [], ◌∷◌, ◌++◌, length, take, drop, replicate, Option, Result, Ok, Err, refl, sym, ap, subst, ◌∙◌, arith}
use Rattle.std.specs.Prelude.{is_some, nat_le}
use Rattle.std.specs.List.{list_all}
use Rattle.std.specs.Ordering.{nat_cmp}
use Rattle.std.specs.FinMap.{FinMap}
use Rattle.std.specs.Int.{w64, to_be_bytes}
use Rattle.std.proofs.lemmas.Bool.{le-leb, leb-true, eqb-true}
use Rattle.std.proofs.lemmas.List.{take_at, drop_at, take-append-drop, length-take, length-drop}
use Rattle.fe_words.specs.Table.{word}
use Rattle.fe_words.specs.declared.word.Word.{Word}
use Rattle.fe_words.specs.declared.word.Tag.{Tag}
use Rattle.fe_state.specs.Name.{is_plain}
use Rattle.fe_state.specs.Directory.{named}
use Rattle.fe_state.specs.declared.array.Array.{Array}
use Rattle.fe_codes.specs.Reading.{IsBytes, tag_of}
use Rattle.fe_codes.specs.Codes.{tag_code}
use Rattle.fe_format.specs.Layout.{name_bytes}
use Rattle.fe_codes.proofs.CodeLaws.{tag_again, tag_takes as has_code}
use Rattle.fe_codec.specs.Record.{name_field, name_row, IsShort}
use Rattle.fe_codec.specs.Image.{word_spelling}
use Rattle.fe_format.specs.declared.format.Format.{Format}
use Rattle.fe_format.specs.declared.format.Format.TheVariants.{One, Two}
use Rattle.fe_codec.specs.FirstFault.{◌followed_by◌, or_fault, row, number, number_in, is_after, id_at, session_at, name_length_at, is_name_row, name_at, new_name_at, tag_at, word_at}
use Rattle.fe_codec.proofs.RecordLaws.{length-name_row}
use Rattle.fe_codec.proofs.FieldsRead.{number_below}
use Rattle.fe_codes.proofs.Splits.{Splits, splits_then}
use Rattle.fe_codec.proofs.ImageFields.{IsBytes-rest, bind_ok, ok_is, tested, tested_not, guard_so, given, both_true, and_true, field64, number_takes, number_in_takes, row_takes, goes_from, passes, passes_not, number_again, number_in_again, row_again}

-- ---- ids

pub id_takes : (previous : Option ℕ) (next : ℕ) (bytes : List ℕ) (x : ℕ × List ℕ) → IsBytes bytes → id_at previous next bytes ≡ Ok x → Splits bytes (to_be_bytes w64 x.0) x.1 × (is_after previous x.0 ≡ true)
unfolding id_at
id_takes previous next bytes x fits e =
    let t = tested (number_in w64 1 next bytes) (λ id. is_after previous id.0) (length bytes) x e in
    (number_in_takes w64 (2 ^ 64) field64 1 next bytes x fits t.0, t.1)

pub session_takes : (previous : Option ℕ) (bytes : List ℕ) (x : ℕ × List ℕ) → IsBytes bytes → session_at previous bytes ≡ Ok x → Splits bytes (to_be_bytes w64 x.0) x.1 × (is_after previous x.0 ≡ true)
unfolding session_at
session_takes previous bytes x fits e =
    let t = tested (number w64 bytes) (λ session. is_after previous session.0) (length bytes) x e in
    (number_takes w64 (2 ^ 64) field64 bytes x fits t.0, t.1)

pub session_below : (previous : Option ℕ) (bytes : List ℕ) (x : ℕ × List ℕ) → IsBytes bytes → session_at previous bytes ≡ Ok x → x.0 < 2 ^ 64
unfolding session_at
session_below previous bytes x fits e = number_below bytes x fits (tested (number w64 bytes) (λ session. is_after previous session.0) (length bytes) x e).0

-- ---- names

-- the length of a name, and that it fits the row
name_length_takes : (format : Format) (bytes : List ℕ) (x : ℕ × List ℕ) → IsBytes bytes → name_length_at format bytes ≡ Ok x → Splits bytes (x.0 ∷ []) x.1 × (x.0 ≤ name_bytes format)
unfolding name_length_at
name_length_takes format [] x fits e = absurd cc
name_length_takes format (n ∷ bytes) x fits e =
    let g = guard_so (nat_le 1 n && nat_le n (name_bytes format)) (length (n ∷ bytes)) (n, bytes) x e in
    subst (λ (y : ℕ × List ℕ). Splits (n ∷ bytes) (y.0 ∷ []) y.1 × (y.0 ≤ name_bytes format)) g.1
    (record { parts = refl; rest_fits = IsBytes-rest n bytes fits }, leb-true n (name_bytes format) (both_true _ _ g.0).1)

zeros : (xs : List ℕ) → list_all (λ b. eqb b 0) xs ≡ true → xs ≡ replicate (length xs) 0
zeros [] e = refl
zeros (x ∷ xs) e =
    let b = both_true (eqb x 0) (list_all (λ b. eqb b 0) xs) e in
    ap (λ (y : ℕ). y ∷ xs) (eqb-true x 0 b.0) ∙ ap (λ (ys : List ℕ). 0 ∷ ys) (zeros xs b.1)

-- a name and the zeros after it are its row
is_row : (format : Format) (n : ℕ) (cells : List ℕ) → length cells ≡ name_bytes format → n ≤ name_bytes format → is_name_row n cells ≡ true → (cells ≡ name_row format (take n cells)) × (length (take n cells) ≡ n)
is_row format n cells long le e =
    let b = both_true (is_plain (take n cells)) (list_all (λ b. eqb b 0) (drop n cells)) e in
    let len : length (take n cells) ≡ n = omega (arith, length-take n cells) in
    let rest : length (drop n cells) ≡ name_bytes format - length (take n cells) = omega (arith, length-drop n cells) in
    (sym (take-append-drop n cells) ∙ ap (λ (t : List ℕ). take n cells ++ t) (zeros (drop n cells) b.1 ∙ ap (λ (k : ℕ). replicate k 0) rest), len)

name_step : ℕ × List ℕ → List ℕ × List ℕ → Result (List ℕ × List ℕ) ℕ
name_step n cells = cond (is_name_row n.0 cells.0) (Ok (take n.0 cells.0, cells.1)) (Err (length n.1))

pub short_of : (format : Format) (name : List ℕ) → length name ≤ name_bytes format → IsShort format name
short_of One name le = le
short_of Two name le = tt

pub name_takes : (format : Format) (bytes : List ℕ) (x : List ℕ × List ℕ) → IsBytes bytes → name_at format bytes ≡ Ok x → Splits bytes (name_field format x.0) x.1 × (length x.0 ≤ name_bytes format)
unfolding name_at name_step
name_takes format bytes x fits e =
    let a = bind_ok (name_length_at format bytes) (λ n. row (name_bytes format) n.1 followed_by name_step n) x e in
    let b = bind_ok (row (name_bytes format) a.0.1) (name_step a.0) x a.2 in
    let g = guard_so (is_name_row a.0.0 b.0.0) (length a.0.1) (take a.0.0 b.0.0, b.0.1) x b.2 in
    let first = name_length_takes format bytes a.0 fits a.1 in
    let second = row_takes (name_bytes format) a.0.1 b.0 first.0.rest_fits b.1 in
    let is = is_row format a.0.0 b.0.0 second.1 first.1 g.0 in
    let both : Splits bytes (a.0.0 ∷ b.0.0) b.0.1 = splits_then bytes (a.0.0 ∷ []) a.0.1 b.0.0 b.0.1 first.0 second.0 in
    let name : List ℕ = take a.0.0 b.0.0 in
    let field : a.0.0 ∷ b.0.0 ≡ name_field format name = ap (λ (k : ℕ). k ∷ b.0.0) (sym is.1) ∙ ap (λ (t : List ℕ). length name ∷ t) is.0 in
    subst (λ (y : List ℕ × List ℕ). Splits bytes (name_field format y.0) y.1 × (length y.0 ≤ name_bytes format)) g.1
    (subst (λ (t : List ℕ). Splits bytes t b.0.1) field both, omega (arith, is.1, first.1))

pub new_name_takes : (format : Format) (arrays : FinMap nat_cmp Array) (bytes : List ℕ) (x : List ℕ × List ℕ) → IsBytes bytes → new_name_at format arrays bytes ≡ Ok x → Splits bytes (name_field format x.0) x.1 × (length x.0 ≤ name_bytes format)
unfolding new_name_at
new_name_takes format arrays bytes x fits e = name_takes format bytes x fits (tested_not (name_at format bytes) (λ name. is_some (named arrays name.0)) (length bytes) x e).0

-- ---- words

tag_takes : (bytes : List ℕ) (x : Tag × List ℕ) → IsBytes bytes → tag_at bytes ≡ Ok x → Splits bytes (tag_code x.0 ∷ []) x.1
unfolding tag_at
tag_takes [] x fits e = absurd cc
tag_takes (code ∷ bytes) x fits e =
    let a = bind_ok (or_fault (length (code ∷ bytes)) (tag_of code)) (λ tag. Ok (tag, bytes)) x e in
    let is : code ≡ tag_code a.0 = sym (has_code code a.0 (given (length (code ∷ bytes)) (tag_of code) a.0 a.1)) in
    subst (λ (y : Tag × List ℕ). Splits (code ∷ bytes) (tag_code y.0 ∷ []) y.1) (ok_is (a.0, bytes) x a.2)
    (record { parts = ap (λ (k : ℕ). k ∷ bytes) is; rest_fits = IsBytes-rest code bytes fits })

pub word_takes : (bytes : List ℕ) (x : Word × List ℕ) → IsBytes bytes → word_at bytes ≡ Ok x → Splits bytes (word_spelling x.0) x.1
unfolding word_at
word_takes bytes x fits e =
    let a = bind_ok (tag_at bytes) (λ tag. number w64 tag.1 followed_by λ value. Ok (word value.0 tag.0, value.1)) x e in
    let b = bind_ok (number w64 a.0.1) (λ value. Ok (word value.0 a.0.0, value.1)) x a.2 in
    let first = tag_takes bytes a.0 fits a.1 in
    let second = number_takes w64 (2 ^ 64) field64 a.0.1 b.0 first.rest_fits b.1 in
    subst (λ (y : Word × List ℕ). Splits bytes (word_spelling y.0) y.1) (ok_is (word b.0.0 a.0.0, b.0.1) x b.2)
    (splits_then bytes (tag_code a.0.0 ∷ []) a.0.1 (to_be_bytes w64 b.0.0) b.0.1 first second)

pub word_below : (bytes : List ℕ) (x : Word × List ℕ) → IsBytes bytes → word_at bytes ≡ Ok x → x.0.value < 2 ^ 64
unfolding word_at
word_below bytes x fits e =
    let a = bind_ok (tag_at bytes) (λ tag. number w64 tag.1 followed_by λ value. Ok (word value.0 tag.0, value.1)) x e in
    let b = bind_ok (number w64 a.0.1) (λ value. Ok (word value.0 a.0.0, value.1)) x a.2 in
    subst (λ (y : Word × List ℕ). y.0.value < 2 ^ 64) (ok_is (word b.0.0 a.0.0, b.0.1) x b.2) (number_below a.0.1 b.0 (tag_takes bytes a.0 fits a.1).rest_fits b.1)

-- ---- what was spelled is read

pub id_again : (previous : Option ℕ) (next id : ℕ) (rest : List ℕ) → id < 2 ^ 64 → 1 ≤ id → id < next → is_after previous id ≡ true → id_at previous next (to_be_bytes w64 id ++ rest) ≡ Ok (id, rest)
unfolding id_at
id_again previous next id rest lt least older after =
    passes (number_in w64 1 next (to_be_bytes w64 id ++ rest)) (λ m. is_after previous m.0) (length (to_be_bytes w64 id ++ rest)) (id, rest) (number_in_again w64 (2 ^ 64) field64 1 next id rest lt least older) after

pub session_again : (previous : Option ℕ) (session : ℕ) (rest : List ℕ) → session < 2 ^ 64 → is_after previous session ≡ true → session_at previous (to_be_bytes w64 session ++ rest) ≡ Ok (session, rest)
unfolding session_at
session_again previous session rest lt after =
    passes (number w64 (to_be_bytes w64 session ++ rest)) (λ m. is_after previous m.0) (length (to_be_bytes w64 session ++ rest)) (session, rest) (number_again w64 (2 ^ 64) field64 session rest lt) after

name_length_again : (format : Format) (n : ℕ) (bytes : List ℕ) → 1 ≤ n → n ≤ name_bytes format → name_length_at format (n ∷ bytes) ≡ Ok (n, bytes)
unfolding name_length_at
name_length_again format n bytes low high =
    ap (λ (b : Bool). cond b (Ok (n, bytes)) (Err (length (n ∷ bytes)))) (and_true (nat_le 1 n) (nat_le n (name_bytes format)) (le-leb 1 n low) (le-leb n (name_bytes format) high))

all_zero : (n : ℕ) → list_all (λ b. eqb b 0) (replicate n 0) ≡ true
all_zero zero = refl
all_zero (suc n) = all_zero n

row_named : (name : List ℕ) (n : ℕ) → is_plain name ≡ true → is_name_row (length name) (name ++ replicate n 0) ≡ true
row_named name n plain =
    rw (take_at name (replicate n 0) (length name) refl, drop_at name (replicate n 0) (length name) refl) (and_true (is_plain name) (list_all (λ b. eqb b 0) (replicate n 0)) plain (all_zero n))

plain_some : (name : List ℕ) → is_plain name ≡ true → 1 ≤ length name
plain_some name e = leb-true 1 (length name) (both_true (nat_le 1 (length name)) (nat_le (length name) 32) (both_true (nat_le 1 (length name) && nat_le (length name) 32) _ e).0).0

pub plain_most : (name : List ℕ) → is_plain name ≡ true → length name ≤ 32
plain_most name e = leb-true (length name) 32 (both_true (nat_le 1 (length name)) (nat_le (length name) 32) (both_true (nat_le 1 (length name) && nat_le (length name) 32) _ e).0).1

name_step_again : (name : List ℕ) (n : ℕ) (behind rest : List ℕ) → is_plain name ≡ true → name_step (length name, behind) (name ++ replicate n 0, rest) ≡ Ok (name, rest)
unfolding name_step
name_step_again name n behind rest plain =
    ap (λ (b : Bool). cond b (Ok (take (length name) (name ++ replicate n 0), rest)) (Err (length behind))) (row_named name n plain)
    ∙ ap (λ (t : List ℕ). Ok (t, rest)) (take_at name (replicate n 0) (length name) refl)

name_again : (format : Format) (name rest : List ℕ) → is_plain name ≡ true → length name ≤ name_bytes format → name_at format (name_field format name ++ rest) ≡ Ok (name, rest)
unfolding name_at name_step
name_again format name rest plain le =
    let cells : List ℕ = name_row format name in
    let behind : List ℕ = cells ++ rest in
    goes_from (name_length_at format (length name ∷ behind)) (λ n. row (name_bytes format) n.1 followed_by name_step n) (length name, behind) (name_length_again format (length name) behind (plain_some name plain) le)
    ∙ goes_from (row (name_bytes format) behind) (name_step (length name, behind)) (cells, rest) (row_again (name_bytes format) cells rest (length-name_row format name le))
    ∙ name_step_again name (name_bytes format - length name) behind rest plain

pub new_name_again : (format : Format) (arrays : FinMap nat_cmp Array) (name rest : List ℕ) → is_plain name ≡ true → length name ≤ name_bytes format → is_some (named arrays name) ≡ false → new_name_at format arrays (name_field format name ++ rest) ≡ Ok (name, rest)
unfolding new_name_at
new_name_again format arrays name rest plain le free =
    passes_not (name_at format (name_field format name ++ rest)) (λ n. is_some (named arrays n.0)) (length (name_field format name ++ rest)) (name, rest) (name_again format name rest plain le) free

tag_at_again : (tag : Tag) (rest : List ℕ) → tag_at (tag_code tag ∷ rest) ≡ Ok (tag, rest)
unfolding tag_at
tag_at_again tag rest = ap (λ (o : Option Tag). or_fault (length (tag_code tag ∷ rest)) o followed_by λ t. Ok (t, rest)) (tag_again tag)

pub word_again : (w : Word) (rest : List ℕ) → w.value < 2 ^ 64 → word_at (word_spelling w ++ rest) ≡ Ok (w, rest)
unfolding word_at
word_again w rest lt =
    let behind : List ℕ = to_be_bytes w64 w.value ++ rest in
    goes_from (tag_at (tag_code w.tag ∷ behind)) (λ tag. number w64 tag.1 followed_by λ value. Ok (word value.0 tag.0, value.1)) (w.tag, behind) (tag_at_again w.tag behind)
    ∙ goes_from (number w64 behind) (λ value. Ok (word value.0 w.tag, value.1)) (w.value, rest) (number_again w64 (2 ^ 64) field64 w.value rest lt)
