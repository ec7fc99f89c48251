-- Membership of a node in a list, and lists without duplicates.
use Rattle.std.proofs.Common.{◌≡◌, ◌≢◌, ℕ, zero, suc, ◌<◌, ◌≤◌, ◌⊎◌, List, [], ◌∷◌, ◌++◌, length, get_or, true, false, eqb, Option, Some, refl, sym, ap, inl, inr, arith, subst, true≢false}
use Rattle.std.specs.Prelude.{Contains, AllPairs}
use Rattle.std.specs.List.{last_or, list_any, IsDistinct, AllByRecursion}
use Rattle.std.proofs.lemmas.Bool.{cases_eq, ne_eqb, eq-eqb}
use Rattle.std.proofs.lemmas.Map.Steps.{length-le_from_distinct_below}
use Rattle.std.proofs.lemmas.Map.Keys.{IsDistinct-cons}
use Rattle.std.proofs.lemmas.Map.Made.{AllPairs-from_IsDistinct}
use Rattle.std.proofs.lemmas.Bool.Decides.{Decides-eqb}
use Rattle.fe_pool.specs.Pool.{first_or, without}
use Rattle.fe_pool.specs.within.Runs.{IsNodeAmong, AllDifferent}

-- a node is in a list or it is not
pub among_cases : (n : ℕ) (xs : List ℕ) → IsNodeAmong n xs ⊎ (IsNodeAmong n xs → ⊥)
among_cases n [] = inr (λ i. i)
among_cases n (x ∷ xs) =
    elim (cases_eq n x) as (λ _. IsNodeAmong n (x ∷ xs) ⊎ (IsNodeAmong n (x ∷ xs) → ⊥)) [
      | inl same ↦ inl (inl same)
      | inr other ↦ elim (among_cases n xs) as (λ _. IsNodeAmong n (x ∷ xs) ⊎ (IsNodeAmong n (x ∷ xs) → ⊥)) [
        | inl here ↦ inl (inr here)
        | inr off ↦ inr (λ i. elim i as (λ _. ⊥) [ inl same ↦ other same | inr here ↦ off here ])
      ]
    ]

pub among-append_left : (n : ℕ) (xs ys : List ℕ) → IsNodeAmong n xs → IsNodeAmong n (xs ++ ys)
among-append_left n [] ys i = absurd i
among-append_left n (x ∷ xs) ys (inl same) = inl same
among-append_left n (x ∷ xs) ys (inr i) = inr (among-append_left n xs ys i)

pub among-append_right : (n : ℕ) (xs ys : List ℕ) → IsNodeAmong n ys → IsNodeAmong n (xs ++ ys)
among-append_right n [] ys i = i
among-append_right n (x ∷ xs) ys i = inr (among-append_right n xs ys i)

pub among-append_cases : (n : ℕ) (xs ys : List ℕ) → IsNodeAmong n (xs ++ ys) → IsNodeAmong n xs ⊎ IsNodeAmong n ys
among-append_cases n [] ys i = inr i
among-append_cases n (x ∷ xs) ys (inl same) = inl (inl same)
among-append_cases n (x ∷ xs) ys (inr i) =
    elim (among-append_cases n xs ys i) as (λ _. IsNodeAmong n (x ∷ xs) ⊎ IsNodeAmong n ys) [
      | inl left ↦ inl (inr left)
      | inr right ↦ inr right
    ]

-- a list that contains the node splits into the part before it and the part after it
pub among-split : (n : ℕ) (xs : List ℕ) → IsNodeAmong n xs → (before : List ℕ) × (after : List ℕ) × (xs ≡ before ++ n ∷ after)
among-split n [] i = absurd i
among-split n (x ∷ xs) (inl same) = ([], xs, ap (λ y. y ∷ xs) (sym same))
among-split n (x ∷ xs) (inr i) =
    let rest = among-split n xs i in (x ∷ rest.0, rest.1, ap (λ ys. x ∷ ys) rest.2)

pub Contains-among : (n : ℕ) (xs : List ℕ) → IsNodeAmong n xs → Contains xs n
Contains-among n [] i = absurd i
Contains-among n (x ∷ xs) (inl same) = (0, omega arith, sym same)
Contains-among n (x ∷ xs) (inr i) =
    let rest = Contains-among n xs i in (suc rest.0, omega (arith, rest.1), rest.2)

pub among-Contains : (n : ℕ) (xs : List ℕ) → Contains xs n → IsNodeAmong n xs
among-Contains n xs (k, within, same) = by_index xs k within same
  where
    by_index : (xs : List ℕ) (k : ℕ) → k < length xs → get_or xs k n ≡ n → IsNodeAmong n xs
    by_index [] k within same = absurd (omega arith)
    by_index (x ∷ xs) zero within same = inl (sym same)
    by_index (x ∷ xs) (suc k) within same = inr (by_index xs k (omega arith) same)

-- the last node of a list is in it
pub last-among : (x : ℕ) (xs : List ℕ) (l : ℕ) → last_or (Some x) xs ≡ Some l → IsNodeAmong l (x ∷ xs)
last-among x [] l e = inl (sym (cc))
last-among x (y ∷ ys) l e = inr (last-among y ys l e)

pub last-some : (x : ℕ) (xs : List ℕ) → (l : ℕ) × (last_or (Some x) xs ≡ Some l)
last-some x [] = (x, refl)
last-some x (y ∷ ys) = last-some y ys

pub last_or-append : (o : Option ℕ) (xs ys : List ℕ) → last_or o (xs ++ ys) ≡ last_or (last_or o xs) ys
last_or-append o [] ys = refl
last_or-append o (x ∷ xs) ys = last_or-append (Some x) xs ys

pub first_or-append : (o : Option ℕ) (xs ys : List ℕ) → first_or o (xs ++ ys) ≡ first_or (first_or o ys) xs
first_or-append o [] ys = refl
first_or-append o (x ∷ xs) ys = refl

-- in a list without duplicates, the parts before and after a node do not contain it
pub different-middle : (n : ℕ) (xs ys : List ℕ) → AllDifferent (xs ++ n ∷ ys) → (IsNodeAmong n xs → ⊥) × (IsNodeAmong n ys → ⊥)
different-middle n [] ys d = (λ i. i, d.0)
different-middle n (x ∷ xs) ys d =
    let rest = different-middle n xs ys d.1 in (
      λ i. elim i as (λ _. ⊥) [
        | inl same ↦ d.0 (among-append_right x xs (n ∷ ys) (inl (sym same)))
        | inr here ↦ rest.0 here
      ],
      rest.1,
    )

-- no node is in both parts
pub different-parts : (n : ℕ) (xs ys : List ℕ) → AllDifferent (xs ++ ys) → IsNodeAmong n xs → IsNodeAmong n ys → ⊥
different-parts n [] ys d i j = i
different-parts n (x ∷ xs) ys d (inl same) j = d.0 (among-append_right x xs ys (subst (λ m. IsNodeAmong m ys) same j))
different-parts n (x ∷ xs) ys d (inr i) j = different-parts n xs ys d.1 i j

pub different-left : (xs ys : List ℕ) → AllDifferent (xs ++ ys) → AllDifferent xs
different-left [] ys d = tt
different-left (x ∷ xs) ys d = (λ i. d.0 (among-append_left x xs ys i), different-left xs ys d.1)

pub different-right : (xs ys : List ℕ) → AllDifferent (xs ++ ys) → AllDifferent ys
different-right [] ys d = d
different-right (x ∷ xs) ys d = different-right xs ys d.1

-- the same as std defines it
pub distinct : (xs : List ℕ) → AllDifferent xs → IsDistinct eqb xs
unfolding IsDistinct
distinct [] d = tt
distinct (x ∷ xs) d = IsDistinct-cons eqb x xs (others xs d.0) (distinct xs d.1)
  where
    others : (ys : List ℕ) → (IsNodeAmong x ys → ⊥) → AllByRecursion (λ y. eqb x y ≡ false) ys
    others [] off = tt
    others (y ∷ ys) off = (ne_eqb x y (λ same. off (inl same)), others ys (λ i. off (inr i)))

-- no two nodes of the list are equal
pub all_pairs : (xs : List ℕ) → AllDifferent xs → AllPairs (λ a b. a ≢ b) xs
all_pairs xs d = AllPairs-from_IsDistinct Decides-eqb xs (distinct xs d)

-- different numbers below a bound: there are at most as many as the bound
pub length-le_bound : (xs : List ℕ) (bound : ℕ) → AllDifferent xs → ((n : ℕ) → IsNodeAmong n xs → n < bound) → length xs ≤ bound
length-le_bound xs bound d below = length-le_from_distinct_below xs bound (distinct xs d) (λ q e. below q (found q xs e))
  where
    found : (q : ℕ) (ys : List ℕ) → list_any (eqb q) ys ≡ true → IsNodeAmong q ys
    found q [] e = absurd (true≢false (sym e))
    found q (y ∷ ys) e =
        elim (cases_eq q y) as (λ _. IsNodeAmong q (y ∷ ys)) [
          | inl same ↦ inl same
          | inr other ↦ inr (found q ys (rw (ne_eqb q y other) at e))
        ]

-- removing a node that is not in the list changes nothing
pub without-off : (xs : List ℕ) (n : ℕ) → (IsNodeAmong n xs → ⊥) → without xs n ≡ xs
without-off [] n off = refl
without-off (x ∷ xs) n off = rw (ne_eqb x n (λ same. off (inl (sym same)))) (ap (λ ys. x ∷ ys) (without-off xs n (λ i. off (inr i))))

-- removing a node leaves the parts before and after it
pub without-middle : (xs ys : List ℕ) (n : ℕ) → AllDifferent (xs ++ n ∷ ys) → without (xs ++ n ∷ ys) n ≡ xs ++ ys
without-middle [] ys n d = rw (eq-eqb n n refl) (without-off ys n d.0)
without-middle (x ∷ xs) ys n d =
    rw (ne_eqb x n (λ same. d.0 (among-append_right x xs (n ∷ ys) (inl same))))
    (ap (λ zs. x ∷ zs) (without-middle xs ys n d.1))
