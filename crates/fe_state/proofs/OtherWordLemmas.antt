-- What is at the words that a request isn't about.
use Rattle.std.proofs.Common.{◌≡◌, ◌≢◌, ℕ, ◌+◌, zero, suc, ◌⊎◌, inl, inr, Bool, true, false, not, cond, Option, Some, None, List, [], ◌∷◌, refl, ap, arith, rules, set}
use Rattle.std.specs.Prelude.{◌&&◌, nat_le, nat_lt, is_some, slice_get}
use Rattle.std.specs.Ordering.{nat_cmp}
use Rattle.std.specs.FinMap.{FinMap, get, insert, remove, len, gets}
use Rattle.std.proofs.lemmas.Bool.Decides.{nat_tests}
use Rattle.fe_words.specs.declared.word.Word.{Word}
use Rattle.fe_words.specs.declared.word.Reply.{Reply}
use Rattle.fe_words.specs.declared.word.Tag.{Tag}
use Rattle.fe_state.specs.Name.{is_plain}
use Rattle.fe_state.specs.Directory.{Directory, word_in, word_count, named, creation}
use Rattle.fe_state.specs.Effect.{with_word, put_word, operated, created, new_array, performed, IsOwnWord}
use Rattle.fe_state.specs.declared.answer.Answer.TheVariants as answer
use Rattle.fe_state.specs.declared.array.Array.{Array}
use Rattle.fe_state.specs.declared.request.Request.{Request}
use Rattle.fe_state.specs.declared.request.Request.TheVariants.{Create, Find, Remove, Access}

get_inserted : {X : Type 0} (m : FinMap nat_cmp X) (k : ℕ) (v : X) → get (insert m k v) k ≡ Some v
get_inserted m k v = grind (gets, rules)

get_beside : {X : Type 0} (m : FinMap nat_cmp X) (k : ℕ) (v : X) (q : ℕ) → q ≢ k → get (insert m k v) q ≡ get m q
get_beside m k v q ne = grind (gets, rules)

same_or_other : (a b : ℕ) → (a ≡ b) ⊎ (a ≢ b)
same_or_other a b = grind (arith, nat_tests)

-- a write leaves the words at other indexes
set_beside : (ws : List Word) (i j : ℕ) (w : Word) → j ≢ i → slice_get (set ws i w) j ≡ slice_get ws j
set_beside [] i j w ne = refl
set_beside (x ∷ ws) zero zero w ne = absurd (ne refl)
set_beside (x ∷ ws) zero (suc j) w ne = refl
set_beside (x ∷ ws) (suc i) zero w ne = refl
set_beside (x ∷ ws) (suc i) (suc j) w ne = set_beside ws i j w (λ e. ne (ap suc e))

put_beside : (m : FinMap nat_cmp Array) (id index : ℕ) (w : Word) (here : Option Array) → get m id ≡ here → (a i : ℕ) → ¬ ((a ≡ id) × (i ≡ index)) → word_in (get (put_word m id index w here) a) i ≡ word_in (get m a) i
put_beside m id index w None is a i ne = refl
put_beside m id index w (Some x) is a i ne = elim (same_or_other a id) [
  | inl same ↦ let other : i ≢ index = λ e. ne (same, e) in rw (same, get_inserted, is) (set_beside x.words index i w other)
  | inr other ↦ ap (λ o. word_in o i) (get_beside m id (with_word x index w) a other)
]

operated_beside : (m : FinMap nat_cmp Array) (id index : ℕ) (after : Option (Word × Reply)) (a i : ℕ) → ¬ ((a ≡ id) × (i ≡ index)) → word_in (get (operated m id index after) a) i ≡ word_in (get m a) i
operated_beside m id index None a i ne = refl
operated_beside m id index (Some after) a i ne = put_beside m id index after.0 (get m id) refl a i ne

-- a creation leaves all arrays but the one that it makes
created_beside : (d : Directory) (name : List ℕ) (size : ℕ) (tag : Tag) (a : ℕ) → a ≢ d.next_id → get (created d name size tag (creation d name size)).arrays a ≡ get d.arrays a
created_beside d name size tag a ne =
    by (is_plain name) (nat_le 1 size && nat_le size 65536) (is_some (named d.arrays name)) (nat_le 64 (len d.arrays)) (nat_lt 65536 (word_count d.arrays + size))
  where
    by : (plain sized taken full large : Bool) → get (created d name size tag (cond (not plain) answer.BadName (cond (not sized) answer.BadLength (cond taken answer.NameTaken (cond full answer.ArrayLimit (cond large answer.WordLimit (answer.Array d.next_id size))))))).arrays a ≡ get d.arrays a
    by false sized taken full large = refl
    by true false taken full large = refl
    by true true true full large = refl
    by true true false true large = refl
    by true true false false true = refl
    by true true false false false = get_beside d.arrays d.next_id (new_array name size tag) a ne

removed_beside : (m : FinMap nat_cmp Array) (id a : ℕ) → a ≢ id → get (remove m id) a ≡ get m a
removed_beside m id a ne = grind (gets, rules)

pub performed_beside : (d : Directory) (request : Request) (a i : ℕ) → ¬ IsOwnWord d request a i → word_in (get (performed d request).arrays a) i ≡ word_in (get d.arrays a) i
performed_beside d (Create name size tag) a i ne = ap (λ o. word_in o i) (created_beside d name size tag a ne)
performed_beside d (Find name) a i ne = refl
performed_beside d (Remove id) a i ne = ap (λ o. word_in o i) (removed_beside d.arrays id a ne)
performed_beside d (Access id index op no_wait) a i ne = operated_beside d.arrays id index _ a i ne
