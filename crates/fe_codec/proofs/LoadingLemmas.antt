-- What loading an array, a word or a kept answer leaves as it was.
use Rattle.std.proofs.Common.{◌≡◌, ℕ, ◌+◌, ◌<◌, ◌≤◌, List, [], ◌∷◌, length, set, Option, Some, None, true, false, refl, sym, ap, ◌∙◌, inl, inr, arith, length-set}
use Rattle.std.specs.Prelude.{IsSome, is_some, slice_get, nat_lt}
use Rattle.std.specs.Option.{option_map}
use Rattle.std.specs.Ordering.{nat_cmp}
use Rattle.std.specs.Cmp.{nat_cmp_total}
use Rattle.std.specs.FinMap.{FinMap, get, insert, len, len-insert}
use Rattle.std.proofs.lemmas.Bool.{ltb-true, lt-ltb}
use Rattle.std.proofs.lemmas.List.{length-replicate}
use Rattle.std.proofs.lemmas.Option.{slice_get_within, slice_get-get_or, none-some}
use Rattle.fe_words.specs.declared.word.Word.{Word}
use Rattle.fe_words.specs.declared.word.Tag.TheVariants.{Empty}
use Rattle.fe_state.proofs.Maps.{get_inserted, get_beside, same_or_other}
use Rattle.fe_state.specs.Name.{is_plain}
use Rattle.fe_state.specs.Effect.{MayBeAdded, new_array, put_word, with_word}
use Rattle.fe_state.specs.Directory.{Directory, named, word_in, word_count}
use Rattle.fe_state.specs.Sessions.{Session, keeping, put_session}
use Rattle.fe_state.specs.declared.array.Array.{Array}
use Rattle.fe_state.specs.declared.kept.Kept.{Kept}
use Rattle.fe_codec.specs.FirstFault.{is_after}
use Rattle.fe_codec.specs.Loading.{HasNoneAfter, KeepsKeys, KeepsIds}

-- ---- positions in lists

pub there_within : {X : Type 0} (xs : List X) (i : ℕ) → is_some (slice_get xs i) ≡ true → i < length xs
there_within xs i h = by (slice_get xs i) refl h
  where
    by : (o : Option _) → slice_get xs i ≡ o → is_some o ≡ true → i < length xs
    by (Some x) is t = slice_get_within xs i x is
    by None is t = absurd cc

pub within_there : {X : Type 0} (xs : List X) (i : ℕ) → i < length xs → is_some (slice_get xs i) ≡ true
within_there [] i lt = absurd (omega arith)
within_there (x ∷ xs) i lt = ap is_some (slice_get-get_or (x ∷ xs) i x lt)

-- ---- keys

pub is_none : {A : Type 0} (o : Option A) → is_some o ≡ false → o ≡ None
is_none None e = refl
is_none (Some x) e = absurd cc

pub above_next : (previous : Option ℕ) (id q : ℕ) → is_after previous id ≡ true → nat_lt id q ≡ true → is_after previous q ≡ true
above_next None id q one two = refl
above_next (Some p) id q one two = lt-ltb p q (omega (arith, ltb-true p id one, ltb-true id q two))

-- a key that is free stays free unless it is the new key
pub fresh_next : {X : Type 0} (previous : Option ℕ) (m : FinMap nat_cmp X) (id : ℕ) (v : X) → HasNoneAfter previous m → is_after previous id ≡ true → HasNoneAfter (Some id) (insert m id v)
fresh_next previous m id v fresh one q two = get_beside m id v q (λ same. omega (arith, ltb-true id q two, same)) ∙ fresh q (above_next previous id q one two)

pub replaced : {X : Type 0} (m : FinMap nat_cmp X) (k : ℕ) (v w : X) → get m k ≡ Some w → KeepsKeys m (insert m k v)
replaced m k v w is = record {
  free = λ q none. get_beside m k v q (λ same. absurd (none-some w (sym none ∙ ap (get m) same ∙ is))) ∙ none;
  count = rw (len-insert nat_cmp_total, ap is_some is) refl;
}

pub one_more : {X : Type 0} (m : FinMap nat_cmp X) (k : ℕ) (v : X) → get m k ≡ None → len (insert m k v) ≡ len m + 1
one_more m k v none = rw (len-insert nat_cmp_total, ap is_some none) refl

pub keys_same : {X : Type 0} (m : FinMap nat_cmp X) → KeepsKeys m m
keys_same m = record { free = λ q none. none; count = refl }

pub keys_then : {X : Type 0} (a b c : FinMap nat_cmp X) → KeepsKeys a b → KeepsKeys b c → KeepsKeys a c
keys_then a b c f g = record { free = λ q none. g.free q (f.free q none); count = g.count ∙ f.count }

pub fresh_kept : {X : Type 0} (previous : Option ℕ) (m n : FinMap nat_cmp X) → HasNoneAfter previous m → KeepsKeys m n → HasNoneAfter previous n
fresh_kept previous m n fresh same q above = same.free q (fresh q above)

-- ---- words

word_there : (a : Array) (index i : ℕ) (w : Word) → IsSome (slice_get a.words i) → IsSome (slice_get (with_word a index w).words i)
word_there a index i w h = within_there (set a.words index w) i (omega (arith, there_within a.words i h, length-set a.words index w))

pub word_put : (m : FinMap nat_cmp Array) (id index : ℕ) (w : Word) → KeepsIds m (put_word m id index w (get m id))
word_put m id index w = by (get m id) refl
  where
    by : (o : Option Array) → get m id ≡ o → KeepsIds m (put_word m id index w o)
    by None is = record { keys = keys_same m; words = λ _ i h. h }
    by (Some a) is = record {
      keys = replaced m id (with_word a index w) a is;
      words = λ q i h. elim (same_or_other q id) [
        | inl e ↦ rw (e, get_inserted m id (with_word a index w)) (word_there a index i w (rw (e, is) at h))
        | inr ne ↦ rw (get_beside m id (with_word a index w) q ne) h
      ];
    }

pub ids_same : (m : FinMap nat_cmp Array) → KeepsIds m m
ids_same m = record { keys = keys_same m; words = λ id i h. h }

pub ids_then : (a b c : FinMap nat_cmp Array) → KeepsIds a b → KeepsIds b c → KeepsIds a c
ids_then a b c f g = record { keys = keys_then a b c f.keys g.keys; words = λ id i h. g.words id i (f.words id i h) }

-- the words of a new array are there
pub new_words : (m : FinMap nat_cmp Array) (id : ℕ) (name : List ℕ) (size i : ℕ) → i < size → IsSome (word_in (get (insert m id (new_array name size Empty)) id) i)
new_words m id name size i lt = rw (get_inserted m id (new_array name size Empty)) (within_there (new_array name size Empty).words i (rw length-replicate lt))

-- a new array may come
pub may_come : (d : Directory) (previous : Option ℕ) (id : ℕ) (name : List ℕ) (size : ℕ) → HasNoneAfter previous d.arrays → is_after previous id ≡ true → 1 ≤ id → id < d.next_id → is_plain name ≡ true
    → is_some (named d.arrays name) ≡ false → len d.arrays < 64 → 1 ≤ size → word_count d.arrays + size ≤ 65536 → MayBeAdded d id (new_array name size Empty)
may_come d previous id name size fresh above least older plain free few some room = record {
  array = record {
    made = least;
    older = older;
    name = plain;
    some_words = rw length-replicate some;
    few_words = rw length-replicate (omega (arith, room));
  };
  id_free = fresh id above;
  name_free = is_none (named d.arrays name) free;
  few_arrays = few;
  few_words = rw length-replicate room;
}

-- ---- sessions

-- a session that keeps one more answer has its floor, and the others stay
pub kept_put : (m : FinMap nat_cmp Session) (session floor n : ℕ) (k : Kept) → option_map (λ x. x.floor) (get m session) ≡ Some floor
    → (option_map (λ x. x.floor) (get (put_session m session (option_map (λ x. keeping x n k) (get m session))) session) ≡ Some floor) × KeepsKeys m (put_session m session (option_map (λ x. keeping x n k) (get m session)))
kept_put m session floor n k = by (get m session) refl
  where
    by : (o : Option Session) → get m session ≡ o → option_map (λ x. x.floor) o ≡ Some floor
        → (option_map (λ x. x.floor) (get (put_session m session (option_map (λ x. keeping x n k) o)) session) ≡ Some floor) × KeepsKeys m (put_session m session (option_map (λ x. keeping x n k) o))
    by None is h = absurd (none-some floor h)
    by (Some x) is h = (rw (get_inserted m session (keeping x n k)) h, replaced m session (keeping x n k) x is)
