-- The words of an array, loaded one after the other.
use Rattle.std.proofs.Common.{◌≡◌, ℕ, zero, suc, ◌+◌, ◌^◌, ◌<◌, List, [], ◌∷◌, ◌++◌, length, set, replicate, Option, Some, Ok, refl, sym, ap, subst, ◌∙◌, append_assoc, arith, inl, inr}
use Rattle.std.specs.Prelude.{flat_map}
use Rattle.std.specs.List.{AllByRecursion}
use Rattle.std.specs.Ordering.{nat_cmp}
use Rattle.std.specs.Cmp.{nat_cmp_total}
use Rattle.std.specs.FinMap.{FinMap, get, insert, same_map, nat_cmp-IsAntisymmetric}
use Rattle.std.proofs.lemmas.List.{length-append}
use Rattle.fe_words.specs.Table.{word}
use Rattle.fe_words.specs.declared.word.Word.{Word}
use Rattle.fe_words.specs.declared.word.Tag.TheVariants.{Empty}
use Rattle.fe_state.proofs.Maps.{get_inserted, get_beside, same_or_other}
use Rattle.fe_state.specs.Effect.{put_word}
use Rattle.fe_state.specs.State.{ServerState, with_arrays}
use Rattle.fe_state.specs.declared.array.Array.{Array}
use Rattle.fe_codes.specs.Reading.{IsBytes}
use Rattle.fe_codec.specs.Image.{word_spelling}
use Rattle.fe_codec.specs.FirstFault.{repeated, word_at, with_word_at, next_word}
use Rattle.fe_codes.proofs.Splits.{Splits, splits_then}
use Rattle.fe_codec.proofs.ImageFields.{bind_ok, ok_is, goes_from}
use Rattle.fe_codec.proofs.ImageNames.{word_takes, word_below, word_again}

-- ---- maps

module _ {X : Type 0} where
  pub insert_twice : (m : FinMap nat_cmp X) (k : ℕ) (v w : X) → insert (insert m k v) k w ≡ insert m k w
  insert_twice m k v w = same_map nat_cmp_total nat_cmp-IsAntisymmetric _ _ (λ q.
      elim (same_or_other q k) [
        | inl e ↦ rw (e, get_inserted (insert m k v) k w, get_inserted m k w) refl
        | inr ne ↦ get_beside (insert m k v) k w q ne ∙ get_beside m k v q ne ∙ sym (get_beside m k w q ne)
      ])

  pub insert_same : (m : FinMap nat_cmp X) (k : ℕ) (v : X) → get m k ≡ Some v → insert m k v ≡ m
  insert_same m k v is = same_map nat_cmp_total nat_cmp-IsAntisymmetric _ _ (λ q.
      elim (same_or_other q k) [
        | inl e ↦ rw (e, get_inserted) (sym is)
        | inr ne ↦ get_beside m k v q ne
      ])

-- ---- words

abbrev blank : Word
blank = word 0 Empty

set_behind : (front back : List Word) (b w : Word) → set (front ++ b ∷ back) (length front) w ≡ (front ++ w ∷ []) ++ back
set_behind [] back b w = refl
set_behind (x ∷ front) back b w = ap (λ (t : List Word). x ∷ t) (set_behind front back b w)

-- an array whose first words are loaded, with this many to come
abbrev pub in_part : List ℕ → List Word → ℕ → Array
in_part name front n = record { name = name; words = front ++ replicate n blank }

-- a state with this array
abbrev pub holding : ServerState → ℕ → Array → ServerState
holding s id a = with_arrays s (insert s.arrays id a)

-- one word more
one_word : (s : ServerState) (id n : ℕ) (name : List ℕ) (front : List Word) (w : Word) → get s.arrays id ≡ Some (in_part name front (suc n))
    → with_word_at s id (length front) w ≡ holding s id (in_part name (front ++ w ∷ []) n)
one_word s id n name front w is =
    ap (λ (o : Option Array). with_arrays s (put_word s.arrays id (length front) w o)) is
    ∙ ap (λ (ws : List Word). holding s id (record { name = name; words = ws })) (set_behind front (replicate n blank) blank w)

pub record LoadsWords (id : ℕ) (name : List ℕ) (front : List Word) (n : ℕ) (s : ServerState) (bytes : List ℕ) (y : ℕ × ServerState × List ℕ) : Type 0 where
  pub words : List Word
  pub count : length words ≡ n
  pub values : AllByRecursion (λ w. w.value < 2 ^ 64) words
  pub state : y.1 ≡ holding s id (record { name = name; words = front ++ words })
  pub text : Splits bytes (flat_map word_spelling words) y.2

pub loads_words : (id : ℕ) (name : List ℕ) (front : List Word) (n i : ℕ) (s : ServerState) (bytes : List ℕ) (y : ℕ × ServerState × List ℕ) → IsBytes bytes → i ≡ length front
    → get s.arrays id ≡ Some (in_part name front n) → repeated (next_word id) n (i, s, bytes) ≡ Ok y → LoadsWords id name front n s bytes y
unfolding repeated next_word
loads_words id name front zero i s bytes y fits at is e =
    let same : holding s id (in_part name front zero) ≡ s = ap (with_arrays s) (insert_same s.arrays id (in_part name front zero) is) in
    subst (λ (z : ℕ × ServerState × List ℕ). LoadsWords id name front zero s bytes z) (ok_is (i, s, bytes) y e)
    (record { words = []; count = refl; values = tt; state = sym same; text = record { parts = refl; rest_fits = fits } })
loads_words id name front (suc n) i s bytes y fits at is e =
    let a = bind_ok (next_word id (i, s, bytes)) (repeated (next_word id) n) y e in
    let b = bind_ok (word_at bytes) (λ w. Ok (i + 1, with_word_at s id i w.0, w.1)) a.0 a.1 in
    let w : Word = b.0.0 in
    let first = word_takes bytes b.0 fits b.1 in
    let state_is : with_word_at s id i w ≡ holding s id (in_part name (front ++ w ∷ []) n) = ap (λ (k : ℕ). with_word_at s id k w) at ∙ one_word s id n name front w is in
    let next : repeated (next_word id) n (i + 1, holding s id (in_part name (front ++ w ∷ []) n), b.0.1) ≡ Ok y =
    subst (λ (z : ServerState). repeated (next_word id) n (i + 1, z, b.0.1) ≡ Ok y) state_is (subst (λ (z : ℕ × ServerState × List ℕ). repeated (next_word id) n z ≡ Ok y) (sym (ok_is (i + 1, with_word_at s id i w, b.0.1) a.0 b.2)) a.2) in
    let more = loads_words id name (front ++ w ∷ []) n (i + 1) (holding s id (in_part name (front ++ w ∷ []) n)) b.0.1 y first.rest_fits (omega (arith, at, length-append front (w ∷ [])))
    (get_inserted s.arrays id (in_part name (front ++ w ∷ []) n)) next in
    record {
      words = w ∷ more.words;
      count = ap suc more.count;
      values = (word_below bytes b.0 fits b.1, more.values);
      state =
          more.state
          ∙ ap (with_arrays s) (insert_twice s.arrays id (in_part name (front ++ w ∷ []) n) (record { name = name; words = (front ++ w ∷ []) ++ more.words }))
          ∙ ap (λ (ws : List Word). holding s id (record { name = name; words = ws })) (append_assoc front (w ∷ []) more.words);
      text = splits_then bytes (word_spelling w) b.0.1 (flat_map word_spelling more.words) y.2 first more.text;
    }

-- ---- what was spelled is read

pub words_again : (id : ℕ) (name : List ℕ) (ws front : List Word) (i : ℕ) (s : ServerState) (rest : List ℕ) → AllByRecursion (λ w. w.value < 2 ^ 64) ws → i ≡ length front → get s.arrays id ≡ Some (in_part name front (length ws))
    → repeated (next_word id) (length ws) (i, s, flat_map word_spelling ws ++ rest) ≡ Ok (i + length ws, holding s id (record { name = name; words = front ++ ws }), rest)
unfolding repeated next_word
words_again id name [] front i s rest fit at is =
    let same : holding s id (in_part name front zero) ≡ s = ap (with_arrays s) (insert_same s.arrays id (in_part name front zero) is) in
    let count : i ≡ i + 0 = omega arith in
    ap (λ (z : ServerState). Ok (i, z, rest)) (sym same) ∙ ap (λ (k : ℕ). Ok (k, holding s id (record { name = name; words = front ++ [] }), rest)) count
words_again id name (w ∷ ws) front i s rest fit at is =
    let behind : List ℕ = flat_map word_spelling ws ++ rest in
    let grouped : flat_map word_spelling (w ∷ ws) ++ rest ≡ word_spelling w ++ behind = append_assoc (word_spelling w) (flat_map word_spelling ws) rest in
    let n : ℕ = length ws in
    let s' : ServerState = holding s id (in_part name (front ++ w ∷ []) n) in
    let state_is : with_word_at s id i w ≡ s' = ap (λ (k : ℕ). with_word_at s id k w) at ∙ one_word s id n name front w is in
    let step : next_word id (i, s, flat_map word_spelling (w ∷ ws) ++ rest) ≡ Ok (i + 1, s', behind) =
    goes_from (word_at (flat_map word_spelling (w ∷ ws) ++ rest)) (λ w. Ok (i + 1, with_word_at s id i w.0, w.1)) (w, behind) (ap word_at grouped ∙ word_again w behind fit.0)
    ∙ ap (λ (z : ServerState). Ok (i + 1, z, behind)) state_is in
    let more = words_again id name ws (front ++ w ∷ []) (i + 1) s' rest fit.1 (omega (arith, at, length-append front (w ∷ []))) (get_inserted s.arrays id (in_part name (front ++ w ∷ []) n)) in
    let last : holding s' id (record { name = name; words = (front ++ w ∷ []) ++ ws }) ≡ holding s id (record { name = name; words = front ++ w ∷ ws }) =
    ap (with_arrays s) (insert_twice s.arrays id (in_part name (front ++ w ∷ []) n) (record { name = name; words = (front ++ w ∷ []) ++ ws }))
    ∙ ap (λ (t : List Word). holding s id (record { name = name; words = t })) (append_assoc front (w ∷ []) ws) in
    let count : (i + 1) + n ≡ i + suc n = omega arith in
    goes_from (next_word id (i, s, flat_map word_spelling (w ∷ ws) ++ rest)) (repeated (next_word id) n) (i + 1, s', behind) step
    ∙ more
    ∙ ap (λ (z : ServerState). Ok ((i + 1) + n, z, rest)) last
    ∙ ap (λ (k : ℕ). Ok (k, holding s id (record { name = name; words = front ++ w ∷ ws }), rest)) count
