-- The chain of a word, and the lengths of arrays, when the arrays change.
use Rattle.std.proofs.Common.{◌≡◌, ◌≢◌, ℕ, zero, suc, ◌<◌, inl, inr, Bool, true, false, cond, List, [], ◌∷◌, length, map, replicate, set, slice_get, Option, Some, None, IsSome, is_some, true≢false, refl, sym, ap, subst, ◌∙◌, arith, T, ◌&&◌, ◌+◌, ◌-◌, ◌≤◌}
use Rattle.std.specs.Prelude.{unwrap_or}
use Rattle.std.specs.Option.{option_and_then, option_map}
use Rattle.std.specs.FinMap.Entries.{below_all}
use Rattle.std.specs.Ordering.{nat_cmp, eq_by_cmp, is_lt}
use Rattle.std.proofs.lemmas.List.{length-map}
use Rattle.std.proofs.Math.ListN.{length-set}
use Rattle.std.specs.Cmp.{nat_cmp_total, unsigned_tied}
use Rattle.std.specs.FinMap.{FinMap, find, empty, get, insert, remove, entries, get-entries, get-empty, get-insert, get-remove, get-from_sorted, entries-from_sorted, entries_sorted, is_sorted, len, len-entries, len-insert, len-remove, same_map, nat_cmp-IsAntisymmetric}
use Rattle.std.proofs.lemmas.Bool.{cases_eq, ne_eqb, eq-eqb}
use Rattle.fe_pool.specs.declared.chain.Chain.{Chain}
use Rattle.fe_waits.specs.Waiting.{IsWord}
use Rattle.fe_waits.specs.within.Inner.{chain_at, with_chain, lengths}

-- ---- positions of a list

pub slice_get-below : {A : Type 0} (xs : List A) (i : ℕ) → IsSome (slice_get xs i) → i < length xs
slice_get-below [] i some = absurd (true≢false (sym some))
slice_get-below (x ∷ xs) zero some = omega arith
slice_get-below (x ∷ xs) (suc i) some = let rest = slice_get-below xs i some in omega arith

pub slice_get-some : {A : Type 0} (xs : List A) (i : ℕ) → i < length xs → (x : A) × (slice_get xs i ≡ Some x)
slice_get-some [] i h = absurd (omega arith)
slice_get-some (x ∷ xs) zero h = (x, refl)
slice_get-some (x ∷ xs) (suc i) h = slice_get-some xs i (omega arith)

pub slice_get-set : {A : Type 0} (xs : List A) (i : ℕ) (v : A) → i < length xs → slice_get (set xs i v) i ≡ Some v
slice_get-set [] i v h = absurd (omega arith)
slice_get-set (x ∷ xs) zero v h = refl
slice_get-set (x ∷ xs) (suc i) v h = slice_get-set xs i v (omega arith)

pub slice_get-set_other : {A : Type 0} (xs : List A) (i j : ℕ) (v : A) → j ≢ i → slice_get (set xs i v) j ≡ slice_get xs j
slice_get-set_other [] i j v n = refl
slice_get-set_other (x ∷ xs) zero zero v n = absurd (n refl)
slice_get-set_other (x ∷ xs) zero (suc j) v n = refl
slice_get-set_other (x ∷ xs) (suc i) zero v n = refl
slice_get-set_other (x ∷ xs) (suc i) (suc j) v n = slice_get-set_other xs i j v (λ e. n (ap suc e))

pub slice_get-replicate : {A : Type 0} (n i : ℕ) (v x : A) → slice_get (replicate n v) i ≡ Some x → x ≡ v
slice_get-replicate zero i v x e = cc
slice_get-replicate (suc n) zero v x e = cc
slice_get-replicate (suc n) (suc i) v x e = slice_get-replicate n i v x e

-- ---- keys that are numbers

pub hit : (q k : ℕ) → q ≡ k → eq_by_cmp nat_cmp q k ≡ true
hit q k e = unsigned_tied q k ∙ eq-eqb q k e

pub miss : (q k : ℕ) → q ≢ k → eq_by_cmp nat_cmp q k ≡ false
miss q k n = unsigned_tied q k ∙ ne_eqb q k n

module _ {X : Type 0} (m : FinMap nat_cmp X) (k : ℕ) where
  pub get-insert_here : (v : X) → get (insert m k v) k ≡ Some v
  get-insert_here v = get-insert nat_cmp_total m k v k ∙ ap (λ b. cond b (Some v) (get m k)) (hit k k refl)

  pub get-insert_other : (v : X) (q : ℕ) → q ≢ k → get (insert m k v) q ≡ get m q
  get-insert_other v q n = get-insert nat_cmp_total m k v q ∙ ap (λ b. cond b (Some v) (get m q)) (miss q k n)

  pub get-remove_here : get (remove m k) k ≡ None
  get-remove_here = get-remove nat_cmp_total m k k ∙ ap (λ b. cond b None (get m k)) (hit k k refl)

  pub get-remove_other : (q : ℕ) → q ≢ k → get (remove m k) q ≡ get m q
  get-remove_other q n = get-remove nat_cmp_total m k q ∙ ap (λ b. cond b None (get m q)) (miss q k n)

-- ---- the chain of a word

-- another chain for a word, of an array with these chains
pub with_chain-is : (words : FinMap nat_cmp (List Chain)) (a i : ℕ) (chain : Chain) (chains : List Chain) → get words a ≡ Some chains → with_chain words a i chain ≡ insert words a (set chains i chain)
with_chain-is words a i chain chains e = ap (λ o. insert words a (set (unwrap_or o []) i chain)) e

module _ (words : FinMap nat_cmp (List Chain)) where
  -- if a word has a chain, its array exists
  pub chain-there : (a i : ℕ) → IsSome (chain_at words (a, i)) → (chains : List Chain) × (get words a ≡ Some chains) × (i < length chains)
  chain-there a i some = by_array (get words a) refl some
    where
      by_array : (o : Option (List Chain)) → get words a ≡ o → IsSome (option_and_then (λ chains. slice_get chains i) o) → (chains : List Chain) × (get words a ≡ Some chains) × (i < length chains)
      by_array None e some = absurd (true≢false (sym some))
      by_array (Some chains) e some = (chains, e, slice_get-below chains i some)

  pub chain_of : (a i : ℕ) (chains : List Chain) → get words a ≡ Some chains → chain_at words (a, i) ≡ slice_get chains i
  chain_of a i chains e = ap (option_and_then (λ chains. slice_get chains i)) e

  -- the chain is written, and the others stay the same
  module _ (a i : ℕ) (chain : Chain) (there : IsSome (chain_at words (a, i))) where
    pub chain_at-with_here : chain_at (with_chain words a i chain) (a, i) ≡ Some chain
    chain_at-with_here =
        let old = chain-there a i there in
        ap (λ m. chain_at m (a, i)) (with_chain-is words a i chain old.0 old.1)
        ∙ ap (option_and_then (λ chains. slice_get chains i)) (get-insert_here words a (set old.0 i chain))
        ∙ slice_get-set old.0 i chain old.2

    pub chain_at-with_other : (w : ℕ × ℕ) → w ≢ (a, i) → chain_at (with_chain words a i chain) w ≡ chain_at words w
    chain_at-with_other w n =
        let old = chain-there a i there in
        ap (λ m. chain_at m w) (with_chain-is words a i chain old.0 old.1)
        ∙ elim (cases_eq w.0 a) as (λ _. chain_at (insert words a (set old.0 i chain)) w ≡ chain_at words w) [
          | inl same ↦
              ap (λ q. option_and_then (λ chains. slice_get chains w.1) (get (insert words a (set old.0 i chain)) q)) same
              ∙ ap (option_and_then (λ chains. slice_get chains w.1)) (get-insert_here words a (set old.0 i chain))
              ∙ slice_get-set_other old.0 i w.1 chain (λ e. n (λ t. (same t, e t)))
              ∙ sym (ap (option_and_then (λ chains. slice_get chains w.1)) (ap (get words) same ∙ old.1))
          | inr other ↦ ap (option_and_then (λ chains. slice_get chains w.1)) (get-insert_other words a (set old.0 i chain) w.0 other)
        ]

-- ---- the lengths of arrays

find-lengths : (q : ℕ) (es : List (ℕ × List Chain)) → find nat_cmp q (map (λ e. (e.0, length e.1)) es) ≡ option_map length (find nat_cmp q es)
find-lengths q [] = refl
find-lengths q (e ∷ es) = by_test (eq_by_cmp nat_cmp q e.0) (find-lengths q es)
  where
    by_test : (b : Bool) → find nat_cmp q (map (λ e. (e.0, length e.1)) es) ≡ option_map length (find nat_cmp q es) → cond b (Some (length e.1)) (find nat_cmp q (map (λ e. (e.0, length e.1)) es)) ≡ option_map length (cond b (Some e.1) (find nat_cmp q es))
    by_test true rest = refl
    by_test false rest = rest

below_all-lengths : (x : ℕ) (es : List (ℕ × List Chain)) → below_all nat_cmp x (map (λ e. (e.0, length e.1)) es) ≡ below_all nat_cmp x es
below_all-lengths x [] = refl
below_all-lengths x (e ∷ es) = ap (λ b. is_lt (nat_cmp x e.0) && b) (below_all-lengths x es)

is_sorted-lengths : (es : List (ℕ × List Chain)) → is_sorted nat_cmp (map (λ e. (e.0, length e.1)) es) ≡ is_sorted nat_cmp es
is_sorted-lengths [] = refl
is_sorted-lengths (e ∷ es) = λ i. below_all-lengths e.0 es i && is_sorted-lengths es i

lengths_sorted : (words : FinMap nat_cmp (List Chain)) → T (is_sorted nat_cmp (map (λ e. (e.0, length e.1)) (entries words)))
lengths_sorted words = subst T (sym (is_sorted-lengths (entries words))) (entries_sorted words)

pub get-lengths : (words : FinMap nat_cmp (List Chain)) (q : ℕ) → get (lengths words) q ≡ option_map length (get words q)
get-lengths words q = get-from_sorted nat_cmp _ q (lengths_sorted words) ∙ find-lengths q (entries words) ∙ ap (option_map length) (sym (get-entries words q))

-- both maps have the same number of keys
pub len-lengths : (words : FinMap nat_cmp (List Chain)) → len (lengths words) ≡ len words
len-lengths words = len-entries (lengths words) ∙ ap length (entries-from_sorted nat_cmp _ (lengths_sorted words)) ∙ length-map (entries words) (λ e. (e.0, length e.1)) ∙ sym (len-entries words)

-- a word of the arrays has a chain, and vice versa
pub word-chain : (words : FinMap nat_cmp (List Chain)) (a i : ℕ) → IsWord (lengths words) a i → IsSome (chain_at words (a, i))
word-chain words a i word = by_array (get words a) refl
  where
    by_array : (o : Option (List Chain)) → get words a ≡ o → IsSome (chain_at words (a, i))
    by_array None e = none_there (sym (get-lengths words a ∙ ap (option_map length) e) ∙ word.1)
      where
        none_there : {P : Type 0} → None ≡ Some word.0 → P
        none_there f = cc
    by_array (Some chains) e =
        let same : length chains ≡ word.0 = lengths_same (sym (get-lengths words a ∙ ap (option_map length) e) ∙ word.1) in
        ap is_some (chain_of words a i chains e ∙ (slice_get-some chains i (omega (arith, word.2))).1)
      where
        lengths_same : Some (length chains) ≡ Some word.0 → length chains ≡ word.0
        lengths_same f = cc

pub chain-word : (words : FinMap nat_cmp (List Chain)) (a i : ℕ) → IsSome (chain_at words (a, i)) → IsWord (lengths words) a i
chain-word words a i some = let there = chain-there words a i some in (length there.0, get-lengths words a ∙ ap (option_map length) there.1, there.2)

-- another chain keeps the lengths
pub lengths-with : (words : FinMap nat_cmp (List Chain)) (a i : ℕ) (chain : Chain) → IsSome (chain_at words (a, i)) → lengths (with_chain words a i chain) ≡ lengths words
lengths-with words a i chain some =
    let there = chain-there words a i some in
    same_map nat_cmp_total nat_cmp-IsAntisymmetric _ _ (λ q.
    get-lengths (with_chain words a i chain) q ∙ ap (λ m. option_map length (get m q)) (with_chain-is words a i chain there.0 there.1)
    ∙ elim (cases_eq q a) as (λ _. option_map length (get (insert words a (set there.0 i chain)) q) ≡ option_map length (get words q)) [
      | inl same ↦ ap (λ q. option_map length (get (insert words a (set there.0 i chain)) q)) same ∙ ap (option_map length) (get-insert_here words a (set there.0 i chain)) ∙ ap Some (length-set there.0 i chain) ∙ sym (ap (option_map length) (ap (get words) same ∙ there.1))
      | inr other ↦ ap (option_map length) (get-insert_other words a (set there.0 i chain) q other)
    ]
    ∙ sym (get-lengths words q))

option_map-cond : (b : Bool) (x y : Option (List Chain)) → option_map length (cond b x y) ≡ cond b (option_map length x) (option_map length y)
option_map-cond true x y = refl
option_map-cond false x y = refl

pub lengths-empty : lengths empty ≡ empty
lengths-empty = same_map nat_cmp_total nat_cmp-IsAntisymmetric _ _ (λ q. get-lengths empty q ∙ ap (option_map length) (get-empty nat_cmp q) ∙ sym (get-empty nat_cmp q))

pub lengths-insert : (words : FinMap nat_cmp (List Chain)) (k : ℕ) (v : List Chain) → lengths (insert words k v) ≡ insert (lengths words) k (length v)
lengths-insert words k v = same_map nat_cmp_total nat_cmp-IsAntisymmetric _ _ (λ q.
    get-lengths (insert words k v) q ∙ ap (option_map length) (get-insert nat_cmp_total words k v q) ∙ option_map-cond (eq_by_cmp nat_cmp q k) _ _
    ∙ ap (cond (eq_by_cmp nat_cmp q k) (Some (length v))) (sym (get-lengths words q)) ∙ sym (get-insert nat_cmp_total (lengths words) k (length v) q))

pub lengths-remove : (words : FinMap nat_cmp (List Chain)) (k : ℕ) → lengths (remove words k) ≡ remove (lengths words) k
lengths-remove words k = same_map nat_cmp_total nat_cmp-IsAntisymmetric _ _ (λ q.
    get-lengths (remove words k) q ∙ ap (option_map length) (get-remove nat_cmp_total words k q) ∙ option_map-cond (eq_by_cmp nat_cmp q k) _ _
    ∙ ap (cond (eq_by_cmp nat_cmp q k) None) (sym (get-lengths words q)) ∙ sym (get-remove nat_cmp_total (lengths words) k q))

-- what an existing word says of its array
pub chain-array : (words : FinMap nat_cmp (List Chain)) (a i : ℕ) → IsSome (chain_at words (a, i)) → IsSome (get words a)
chain-array words a i some = let old = chain-there words a i some in ap is_some old.1

pub chain-below : (words : FinMap nat_cmp (List Chain)) (a i : ℕ) (chains : List Chain) → IsSome (chain_at words (a, i)) → get words a ≡ Some chains → i < length chains
chain-below words a i chains some e = slice_get-below chains i (ap is_some (sym (chain_of words a i chains e)) ∙ some)

-- the number of arrays after one is added or dropped
pub len-added : (words : FinMap nat_cmp (List Chain)) (k : ℕ) (v : List Chain) → get words k ≡ None → len (insert words k v) ≡ len words + 1
len-added words k v none = len-insert nat_cmp_total words k v ∙ ap (λ o. cond (is_some o) (len words) (len words + 1)) none

pub len-dropped : (words : FinMap nat_cmp (List Chain)) (k : ℕ) → len (remove words k) ≤ len words
len-dropped words k = subst (λ n. n ≤ len words) (sym (len-remove nat_cmp_total words k)) (by_test (is_some (get words k)))
  where
    by_test : (b : Bool) → cond b (len words - 1) (len words) ≤ len words
    by_test true = omega arith
    by_test false = omega arith

-- a new array has no chain yet
pub get-lengths_none : (words : FinMap nat_cmp (List Chain)) (k : ℕ) → get (lengths words) k ≡ None → get words k ≡ None
get-lengths_none words k none = by_array (get words k) refl
  where
    by_array : (o : Option (List Chain)) → get words k ≡ o → get words k ≡ None
    by_array None e = e
    by_array (Some chains) e = some_none (sym (get-lengths words k ∙ ap (option_map length) e) ∙ none)
      where
        some_none : {P : Type 0} → Some (length chains) ≡ None → P
        some_none f = cc

pub len-with : (words : FinMap nat_cmp (List Chain)) (a i : ℕ) (chain : Chain) → IsSome (chain_at words (a, i)) → len (with_chain words a i chain) ≡ len words
len-with words a i chain some = sym (len-lengths (with_chain words a i chain)) ∙ ap len (lengths-with words a i chain some) ∙ len-lengths words
