-- Rows that are sorted by a key: where no key is there twice they are the entries of a finite map.
use Rattle.std.proofs.Common.{◌≡◌, ◌≢◌, ◌⊎◌, ℕ, ◌+◌, ◌<◌, ◌≤◌, Bool, true, false, cond, ◌&&◌, List, [], ◌∷◌, ◌++◌, map, length, zero, suc, get_or, slice_get, slice_index_or, inl, inr, Some, IsSome, is_some, true≢false, refl, sym, ap, subst, ◌∙◌, T, arith, add-one}
use Rattle.std.specs.Prelude.{Contains, sum_by}
use Rattle.std.proofs.lemmas.List.Sums.{sum_by-append, sum_by-cons}
use Rattle.std.proofs.lemmas.List.Sorted.{ranks_by, sorted_far, sum_by-IsPermutation, Contains-permutation, IsPermutation-sym}
use Rattle.std.specs.List.Sorted.{IsPermutation, IsSortedBy}
use Rattle.std.specs.Cmp.{IsTotalOrder}
use Rattle.std.specs.Ordering.{eq_by_cmp, is_eq, is_lt, ordering_reverse}
use Rattle.std.specs.declared.cmp.Ordering.{Ordering}
use Rattle.std.specs.declared.cmp.Ordering.TheVariants.{Less, Equal, Greater}
use Rattle.std.specs.FinMap.{FinMap, IsAntisymmetric, find, get, is_sorted}
use Rattle.std.specs.FinMap.Entries.{below_all}
use Rattle.fe_report.specs.within.Rows.{ArePart}
use Rattle.fe_report.proofs.Listed.{tied, same_value, not_none, found_at}
use Rattle.fe_service.proofs.KeyLemmas.{hit}

both : (a b : Bool) → T a → T b → T (a && b)
both true b p q = q
both false b p q = absurd p

-- ---- elements

pub contains_later : {X : Type 0} (y x : X) (xs : List X) → Contains xs x → Contains (y ∷ xs) x
contains_later y x xs c = let below : c.0 < length xs = c.1 in (suc c.0, omega (arith, below), c.2)

pub contains_first : {X : Type 0} (y x : X) (xs : List X) → y ≡ x → Contains (y ∷ xs) x
contains_first y x xs same = (0, omega arith, same)

pub contains_none : {X A : Type 0} (x : X) → Contains [] x → A
contains_none x c = let below : c.0 < 0 = c.1 in absurd (omega (arith, below))

pub first_or_later : {X : Type 0} (y x : X) (xs : List X) → Contains (y ∷ xs) x → (y ≡ x) ⊎ Contains xs x
first_or_later y x xs c = by c.0 c.1 c.2
  where
    by : (k : ℕ) → k < suc (length xs) → slice_index_or (y ∷ xs) k x ≡ x → (y ≡ x) ⊎ Contains xs x
    by zero below is = inl is
    by (suc k) below is = inr (k, omega (arith, below), is)

pub contains_mapped : {X Y : Type 0} (f : X → Y) (xs : List X) (x : X) (y : Y) → f x ≡ y → Contains xs x → Contains (map f xs) y
contains_mapped f [] x y e c = contains_none x c
contains_mapped f (z ∷ xs) x y e c = elim (first_or_later z x xs c) as (λ _. Contains (f z ∷ map f xs) y) [
  | inl same ↦ contains_first (f z) y (map f xs) (ap f same ∙ e)
  | inr later ↦ contains_later (f z) y (map f xs) (contains_mapped f xs x y e later)
]

pub from_mapped : {X Y : Type 0} (f : X → Y) (xs : List X) (y : Y) → Contains (map f xs) y → (x : X) × Contains xs x × (f x ≡ y)
from_mapped f [] y c = contains_none y c
from_mapped f (z ∷ xs) y c = elim (first_or_later (f z) y (map f xs) c) as (λ _. (x : _) × Contains (z ∷ xs) x × (f x ≡ y)) [
  | inl same ↦ (z, contains_first z z xs refl, same)
  | inr later ↦ let found = from_mapped f xs y later in (found.0, contains_later z found.0 xs found.1, found.2)
]

slice_get-contained : {X : Type 0} (xs : List X) (x : X) → Contains xs x → (k : ℕ) × (slice_get xs k ≡ Some x)
slice_get-contained [] x c = contains_none x c
slice_get-contained (y ∷ xs) x c = elim (first_or_later y x xs c) as (λ _. (k : ℕ) × (slice_get (y ∷ xs) k ≡ Some x)) [
  | inl same ↦ (0, ap Some same)
  | inr later ↦ let found = slice_get-contained xs x later in (suc found.0, found.1)
]

-- of two that are turned round, one that is neither below nor the same is above
lt_of : (a b : Ordering) → a ≡ ordering_reverse b → is_lt a ≡ false → is_eq b ≡ false → T (is_lt b)
lt_of a Less e l n = tt
lt_of a Equal e l n = absurd (true≢false n)
lt_of a Greater e l n = absurd (true≢false (sym (ap is_lt e) ∙ l))

module _ {K X : Type 0} {R : K → K → Ordering} (o : IsTotalOrder R) (same : IsAntisymmetric R) where
  -- ---- how often a key is there

  abbrev pub is_at : K → K × X → ℕ
  is_at q e = cond (eq_by_cmp R q e.0) 1 0

  abbrev pub times : K → List (K × X) → ℕ
  times q es = sum_by (is_at q) es

  times-cons : (q : K) (e : K × X) (es : List (K × X)) → times q (e ∷ es) ≡ is_at q e + times q es
  times-cons q e es = sum_by-cons (is_at q) e es

  times-hit : (q : K) (e : K × X) (es : List (K × X)) → eq_by_cmp R q e.0 ≡ true → times q (e ∷ es) ≡ 1 + times q es
  times-hit q e es t = times-cons q e es ∙ ap (λ b. cond b 1 0 + times q es) t

  times-miss : (q : K) (e : K × X) (es : List (K × X)) → eq_by_cmp R q e.0 ≡ false → times q (e ∷ es) ≡ times q es
  times-miss q e es t = let more : times q (e ∷ es) ≡ 0 + times q es = times-cons q e es ∙ ap (λ b. cond b 1 0 + times q es) t in omega (arith, more)

  pub times-none : (q : K) (es : List (K × X)) → ((x : X) → Contains es (q, x) → ⊥) → times q es ≡ 0
  times-none q [] off = refl
  times-none q (e ∷ es) off = by (eq_by_cmp R q e.0) refl (times-none q es (λ x c. off x (contains_later e (q, x) es c)))
    where
      by : (b : Bool) → eq_by_cmp R q e.0 ≡ b → times q es ≡ 0 → times q (e ∷ es) ≡ 0
      by true t rest =
          let key : e.0 ≡ q = sym (same q e.0 (tied _ t)) in
          absurd (off e.1 (contains_first e (q, e.1) es (λ i. (key i, e.1))))
      by false t rest = times-miss q e es t ∙ rest

  pub times-append : (q : K) (es fs : List (K × X)) → times q (es ++ fs) ≡ times q es + times q fs
  times-append q es fs = sum_by-append (is_at q) es fs

  times-later : (q : K) (e : K × X) (es : List (K × X)) → times q es ≤ times q (e ∷ es)
  times-later q e es = let more = times-cons q e es in omega (arith, more)

  -- a list whose elements give different rows
  module _ {A : Type 0} (f : A → K × X) where
    pub times-mapped : (xs : List A) → ((i j : ℕ) (d : A) → i < j → j < length xs → (f (get_or xs i d)).0 ≢ (f (get_or xs j d)).0) → (q : K) → times q (map f xs) ≤ 1
    times-mapped [] apart q = omega arith
    times-mapped (x ∷ xs) apart q =
        by (eq_by_cmp R q (f x).0) refl (times-mapped xs (λ i j d less below. apart (suc i) (suc j) d (omega (arith, less)) (omega (arith, below))) q)
      where
        by : (b : Bool) → eq_by_cmp R q (f x).0 ≡ b → times q (map f xs) ≤ 1 → times q (f x ∷ map f xs) ≤ 1
        by true t rest =
            let key : q ≡ (f x).0 = same q (f x).0 (tied _ t) in
            let none : times q (map f xs) ≡ 0 = times-none q (map f xs) (λ y c.
            let found = from_mapped f xs (q, y) c in
            let at = found.1 in
            let below : at.0 < length xs = at.1 in
            apart 0 (suc at.0) found.0 (omega arith) (omega (arith, below)) (sym key ∙ sym (ap (λ z. (f z).0) at.2 ∙ ap (λ e. e.0) found.2))) in
            let once = times-hit q (f x) (map f xs) t in
            omega (arith, none, once)
        by false t rest =
            let skipped = times-miss q (f x) (map f xs) t in
            omega (arith, rest, skipped)

  -- ---- sorted rows

  no_eq : (q : K) (e : K × X) (es : List (K × X)) → times q (e ∷ es) ≡ 0 → eq_by_cmp R q e.0 ≡ false
  no_eq q e es none = by (eq_by_cmp R q e.0) refl
    where
      by : (b : Bool) → eq_by_cmp R q e.0 ≡ b → eq_by_cmp R q e.0 ≡ false
      by true t = let hit = times-hit q e es t in absurd (omega (arith, hit, none))
      by false t = t

  all_above : (q : K) (es : List (K × X)) → ((k : ℕ) (d : K × X) → k < length es → is_lt (R (get_or es k d).0 q) ≡ false) → times q es ≡ 0 → T (below_all R q es)
  all_above q [] high none = tt
  all_above q (e ∷ es) high none =
      let rest = times-later q e es in
      both (is_lt (R q e.0)) (below_all R q es)
      (lt_of (R e.0 q) (R q e.0) (o.antisymm e.0 q) (high 0 e (omega arith)) (no_eq q e es none))
      (all_above q es (λ k d below. high (suc k) d (omega (arith, below))) (omega (arith, rest, none)))

  pub rising : (es : List (K × X)) → IsSortedBy (λ a b. is_lt (R a.0 b.0)) es → ((q : K) → times q es ≤ 1) → T (is_sorted R es)
  rising [] sorted once = tt
  rising (e ∷ es) sorted once =
      let hit_first = times-hit e.0 e es (hit o e.0 e.0 refl) in
      let one = once e.0 in
      both (below_all R e.0 es) (is_sorted R es)
      (all_above e.0 es (λ k d below. sorted_far (λ a b. is_lt (R a.0 b.0)) (ranks_by o (λ e. e.0)) (e ∷ es) sorted 0 (suc k) d (omega arith) (omega (arith, below))) (omega (arith, hit_first, one)))
      (rising es (λ k d low high. let pair = rw (add-one) at (sorted (suc k) d (omega arith) (omega (arith, high))) in rw (add-one) pair) (λ q. let later = times-later q e es in let one = once q in omega (arith, later, one)))

  -- ---- what is found in them

  pub found_contained : (es : List (K × X)) (q : K) (x : X) → T (is_sorted R es) → Contains es (q, x) → find R q es ≡ Some x
  found_contained es q x sorted c = let at = slice_get-contained es (q, x) c in found_at o same es at.0 (q, x) sorted at.1

  pub contained_found : (es : List (K × X)) (q : K) (x : X) → find R q es ≡ Some x → Contains es (q, x)
  contained_found [] q x is = not_none x is
  contained_found (e ∷ es) q x is =
      elim (eq_by_cmp R q e.0) as (λ b. eq_by_cmp R q e.0 ≡ b → cond b (Some e.1) (find R q es) ≡ Some x → Contains (e ∷ es) (q, x)) [
        | true ↦ λ t here.
            let key : e.0 ≡ q = sym (same q e.0 (tied _ t)) in
            let value : e.1 ≡ x = same_value _ _ here in
            contains_first e (q, x) es (λ i. (key i, value i))
        | false ↦ λ t there. contains_later e (q, x) es (contained_found es q x there)
      ] refl is

  -- rows of a map, each once, are a part of it once they are sorted, and no row is lost
  module _ (m : FinMap R X) (rows es : List (K × X)) (moved : IsPermutation rows es) (sorted : IsSortedBy (λ a b. is_lt (R a.0 b.0)) es) (once : (q : K) → times q rows ≤ 1) where
    rise : T (is_sorted R es)
    rise = rising es sorted (λ q. subst (λ n. n ≤ 1) (sym (sum_by-IsPermutation (is_at q) rows es moved)) (once q))

    pub sorted_part : ((q : K) (x : X) → Contains rows (q, x) → get m q ≡ Some x) → ArePart m es
    sorted_part sound = record {
      sorted = rise;
      sound = λ q x is. sound q x (Contains-permutation es rows (q, x) (IsPermutation-sym rows es moved) (contained_found es q x is));
    }

    pub sorted_there : (q : K) (x : X) → Contains rows (q, x) → IsSome (find R q es)
    sorted_there q x c = ap is_some (found_contained es q x rise (Contains-permutation rows es (q, x) moved c))
