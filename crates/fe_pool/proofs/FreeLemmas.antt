-- How a pool's invariant is established, and kept when nodes are taken and given back.
use Rattle.std.proofs.Common.{◌≡◌, ◌≢◌, ℕ, zero, suc, ◌-◌, ◌^◌, ◌<◌, ◌≤◌, List, [], ◌∷◌, ◌++◌, length, get_or, set, replicate, Option, Some, None, IsSome, is_some, refl, sym, ap, ◌∙◌, inl, inr, arith, subst, length-set, length-append, true≢false}
use Rattle.std.proofs.lemmas.Bool.{cases_eq}
use Rattle.std.proofs.lemmas.List.{get_or-set_same, get_or-set_other, get_or_append_left, get_or_at, length-replicate, ext_get_or}
use Rattle.fe_pool.specs.Columns.{Columns, IsLoose, index_before, before_each}
use Rattle.fe_pool.specs.within.Runs.{IsNodeAmong, AllDifferent, AllListed, lists, IsFreeRun, IsPool}
use Rattle.fe_pool.proofs.ListLemmas.{length-lists, lists-none}
use Rattle.fe_pool.proofs.PoolLemmas.{pool-first}

-- writing the follower of a node that is not on the free list keeps the list
pub free_run-set : (followers : List (Option ℕ)) (first : Option ℕ) (xs : List ℕ) (n : ℕ) (to : Option ℕ) → (IsNodeAmong n xs → ⊥) → IsFreeRun followers first xs → IsFreeRun (set followers n to) first xs
free_run-set followers first [] n to off r = r
free_run-set followers first (x ∷ xs) n to off r = (
  r.0,
  subst (λ o. IsFreeRun (set followers n to) o xs)
      (sym (get_or-set_other followers n x to None (λ same. off (inl (sym same)))))
      (free_run-set followers _ xs n to (λ i. off (inr i)) r.1),
)

module _ {T : Type 0} (c : Columns T) (first : Option ℕ) (pool : IsPool c first) where
  -- the first free node is taken
  pub pool-occupied : (n : ℕ) (item : T) → first ≡ Some n → IsPool (record c { items = set c.items n (Some item); followers = set c.followers n None }) (get_or c.followers n None)
  pool-occupied n item e = by_free pool.free pool.free_linked pool.free_different pool.free_listed pool.free_empty
    where
      some_same : {a b : ℕ} → Some a ≡ Some b → a ≡ b
      some_same e = cc

      none_some : {P : Type 0} {a : ℕ} → None ≡ Some a → P
      none_some e = cc

      some_none : {P : Type 0} → Some item ≡ None → P
      some_none e = cc

      taken_at : (m : ℕ) → get_or (set c.items n (Some item)) m None ≡ None → (m ≢ n) × (get_or c.items m None ≡ None)
      taken_at m free =
          elim (cases_eq m n) as (λ _. (m ≢ n) × (get_or c.items m None ≡ None)) [
            | inl same ↦ some_none (sym (get_or-set_same c.items n (Some item) None (pool-first c first pool n e).0) ∙ ap (λ k. get_or (set c.items n (Some item)) k None) (sym same) ∙ free)
            | inr other ↦ (other, sym (get_or-set_other c.items n m (Some item) None other) ∙ free)
          ]

      by_free : (free : List ℕ) → IsFreeRun c.followers first free → AllDifferent free → ((m : ℕ) → m < length c.items → get_or c.items m None ≡ None → IsNodeAmong m free) → ((m : ℕ) → IsNodeAmong m free → (m < length c.items) × (get_or c.items m None ≡ None)) → IsPool (record c { items = set c.items n (Some item); followers = set c.followers n None }) (get_or c.followers n None)
      by_free [] linked different listed empty = none_some (sym linked ∙ e)
      by_free (x ∷ xs) linked different listed empty =
          let same : x ≡ n = some_same (sym linked.0 ∙ e) in
          let off : IsNodeAmong n xs → ⊥ = λ i. different.0 (subst (λ k. IsNodeAmong k xs) (sym same) i) in
          record {
            fits = subst (λ k. k < 2 ^ 32) (sym (length-set c.items n (Some item))) pool.fits;
            followers_length = length-set c.followers n None ∙ pool.followers_length ∙ sym (length-set c.items n (Some item));
            of_word_length = pool.of_word_length ∙ sym (length-set c.items n (Some item));
            of_session_length = pool.of_session_length ∙ sym (length-set c.items n (Some item));
            free = xs;
            free_linked = free_run-set c.followers _ xs n None off (subst (λ k. IsFreeRun c.followers (get_or c.followers k None) xs) same linked.1);
            free_different = different.1;
            free_listed = λ m below free.
                let was = taken_at m free in
                elim (listed m (subst (λ k. m < k) (length-set c.items n (Some item)) below) was.1) as (λ _. IsNodeAmong m xs) [
                  | inl first ↦ absurd (was.0 (first ∙ same))
                  | inr later ↦ later
                ];
            free_empty = λ m i.
                let was = empty m (inr i) in (
                  subst (λ k. m < k) (sym (length-set c.items n (Some item))) was.0,
                  get_or-set_other c.items n m (Some item) None (λ e. off (subst (λ k. IsNodeAmong k xs) e i)) ∙ was.1,
                );
            loose = λ m free. let was = pool.loose m (taken_at m free).1 in record { of_word = was.of_word; of_session = was.of_session };
            words = pool.words;
            sessions = pool.sessions;
          }

  -- a taken node on no list is given back
  pub pool-vacated : (n : ℕ) → n < length c.items → IsSome (get_or c.items n None) → IsLoose c n → IsPool (record c { items = set c.items n None; followers = set c.followers n first }) (Some n)
  pool-vacated n below some loose =
      let off : IsNodeAmong n pool.free → ⊥ = λ i. true≢false (sym some ∙ ap is_some (pool.free_empty n i).1) in
      record {
        fits = subst (λ k. k < 2 ^ 32) (sym (length-set c.items n None)) pool.fits;
        followers_length = length-set c.followers n first ∙ pool.followers_length ∙ sym (length-set c.items n None);
        of_word_length = pool.of_word_length ∙ sym (length-set c.items n None);
        of_session_length = pool.of_session_length ∙ sym (length-set c.items n None);
        free = n ∷ pool.free;
        free_linked = (
          refl,
          subst (λ o. IsFreeRun (set c.followers n first) o pool.free)
              (sym (get_or-set_same c.followers n first None (subst (λ k. n < k) (sym pool.followers_length) below)))
              (free_run-set c.followers first pool.free n first off pool.free_linked),
        );
        free_different = (off, pool.free_different);
        free_listed = λ m within free.
            elim (cases_eq m n) as (λ _. IsNodeAmong m (n ∷ pool.free)) [
              | inl same ↦ inl same
              | inr other ↦ inr (pool.free_listed m (subst (λ k. m < k) (length-set c.items n None) within) (sym (get_or-set_other c.items n m None None other) ∙ free))
            ];
        free_empty = λ m i.
            elim i as (λ _. (m < length (set c.items n None)) × (get_or (set c.items n None) m None ≡ None)) [
              | inl same ↦ (
                subst (λ k. k < length (set c.items n None)) (sym same) (subst (λ k. n < k) (sym (length-set c.items n None)) below),
                ap (λ k. get_or (set c.items n None) k None) same ∙ get_or-set_same c.items n None None below,
              )
              | inr later ↦
                  let was = pool.free_empty m later in (
                    subst (λ k. m < k) (sym (length-set c.items n None)) was.0,
                    get_or-set_other c.items n m None None (λ e. off (subst (λ k. IsNodeAmong k pool.free) e later)) ∙ was.1,
                  )
            ];
        loose = λ m free.
            let was = still_loose m free in
            record { of_word = was.of_word; of_session = was.of_session };
        words = pool.words;
        sessions = pool.sessions;
      }
    where
      still_loose : (m : ℕ) → get_or (set c.items n None) m None ≡ None → IsLoose c m
      still_loose m free =
          elim (cases_eq m n) as (λ _. IsLoose c m) [
            | inl same ↦ subst (IsLoose c) (sym same) loose
            | inr other ↦ pool.loose m (sym (get_or-set_other c.items n m None None other) ∙ free)
          ]

-- the nodes below a number, in descending order
descending : ℕ → List ℕ
descending zero = []
descending (suc n) = n ∷ descending n

descending-below : (n m : ℕ) → IsNodeAmong m (descending n) → m < n
unfolding descending
descending-below zero m i = absurd i
descending-below (suc n) m (inl same) = omega arith
descending-below (suc n) m (inr i) = let rest = descending-below n m i in omega arith

below-descending : (n m : ℕ) → m < n → IsNodeAmong m (descending n)
unfolding descending
below-descending zero m below = absurd (omega arith)
below-descending (suc n) m below =
    elim (cases_eq m n) as (λ _. IsNodeAmong m (n ∷ descending n)) [
      | inl same ↦ inl same
      | inr other ↦ inr (below-descending n m (omega arith))
    ]

descending-different : (n : ℕ) → AllDifferent (descending n)
unfolding descending
descending-different zero = tt
descending-different (suc n) = (λ i. let below = descending-below n n i in omega arith, descending-different n)

length-before_each : (n : ℕ) → length (before_each n) ≡ n
length-before_each zero = refl
length-before_each (suc n) = let rest = length-before_each n in omega (arith, length-append (before_each n) (index_before n ∷ []))

before_each-at : (n k : ℕ) → k < n → get_or (before_each n) k None ≡ index_before k
before_each-at zero k below = absurd (omega arith)
before_each-at (suc n) k below =
    elim (cases_eq k n) as (λ _. get_or (before_each n ++ index_before n ∷ []) k None ≡ index_before k) [
      | inl same ↦ get_or_at (before_each n) (index_before n) [] None k (length-before_each n ∙ sym same) ∙ ap index_before (sym same)
      | inr other ↦ get_or_append_left (before_each n) (index_before n ∷ []) None k (let size = length-before_each n in omega arith) ∙ before_each-at n k (omega arith)
    ]

free_run-before_each : (n m : ℕ) → m ≤ n → IsFreeRun (before_each n) (index_before m) (descending m)
unfolding descending
free_run-before_each n zero below = refl
free_run-before_each n (suc m) below =
    (refl, subst (λ o. IsFreeRun (before_each n) o (descending m)) (sym (before_each-at n m (omega arith))) (free_run-before_each n m (omega arith)))

replicate-at : {A : Type 0} (n k : ℕ) (x : A) → get_or (replicate n x) k x ≡ x
replicate-at zero k x = refl
replicate-at (suc n) zero x = refl
replicate-at (suc n) (suc k) x = replicate-at n k x

none_listed : (n : ℕ) → AllListed (replicate n None)
none_listed n m v found = none_some (sym (replicate-at n m None) ∙ found)
  where
    none_some : {P : Type 0} → None ≡ Some v → P
    none_some e = cc

-- this many free nodes form a pool
pub pool-made : {T : Type 0} (c : Columns T) (n : ℕ) (first : Option ℕ) → n < 2 ^ 32 → c.items ≡ replicate n None → c.followers ≡ before_each n → c.of_word ≡ replicate n None → c.of_session ≡ replicate n None → first ≡ index_before n → IsPool c first
pool-made c n first fits items followers of_word of_session e =
    let sized : length c.items ≡ n = ap length items ∙ length-replicate n None in
    record {
      fits = subst (λ k. k < 2 ^ 32) (sym sized) fits;
      followers_length = ap length followers ∙ length-before_each n ∙ sym sized;
      of_word_length = ap length of_word ∙ length-replicate n None ∙ sym sized;
      of_session_length = ap length of_session ∙ length-replicate n None ∙ sym sized;
      free = descending n;
      free_linked = subst (λ fs. IsFreeRun fs first (descending n)) (sym followers) (subst (λ o. IsFreeRun (before_each n) o (descending n)) (sym e) (free_run-before_each n n (omega arith)));
      free_different = descending-different n;
      free_listed = λ m below none. below-descending n m (subst (λ k. m < k) sized below);
      free_empty = λ m i. (subst (λ k. m < k) (sym sized) (descending-below n m i), ap (λ xs. get_or xs m None) items ∙ replicate-at n m None);
      loose = λ m none. record {
        of_word = ap (λ xs. get_or xs m None) of_word ∙ replicate-at n m None;
        of_session = ap (λ xs. get_or xs m None) of_session ∙ replicate-at n m None;
      };
      words = subst AllListed (sym of_word) (none_listed n);
      sessions = subst AllListed (sym of_session) (none_listed n);
    }

-- without neighbours every list is empty
pub lists-replicate : (n : ℕ) → lists (replicate n None) ≡ replicate n []
lists-replicate n =
    ext_get_or [] (lists (replicate n None)) (replicate n []) (length-lists (replicate n None) ∙ length-replicate n None ∙ sym (length-replicate n []))
    (λ k below. lists-none n k ∙ sym (replicate-at n k []))

-- the last of this many nodes
pub index_before-none : (n : ℕ) → n ≡ 0 → index_before n ≡ None
index_before-none zero e = refl
index_before-none (suc n) e = absurd (omega arith)

pub index_before-some : (n : ℕ) → (n ≡ 0 → ⊥) → index_before n ≡ Some (n - 1)
index_before-some zero other = absurd (other refl)
index_before-some (suc n) other = let e : n ≡ suc n - 1 = omega arith in ap Some e
