-- What follows if the neighbours agree with a list.
use Rattle.std.proofs.Common.{◌≡◌, ◌≢◌, ℕ, zero, suc, ◌<◌, ◌≤◌, List, [], ◌∷◌, ◌++◌, length, get_or, Option, Some, None, refl, sym, ap, ◌∙◌, inl, inr, arith, subst}
use Rattle.std.specs.List.{last_or}
use Rattle.std.proofs.lemmas.Bool.{cases_lt}
use Rattle.std.proofs.lemmas.List.{get_or-set_same, get_or-set_other, get_or_past}
use Rattle.fe_pool.specs.declared.neighbours.Neighbours.{Neighbours}
use Rattle.fe_pool.specs.Pool.{first_or}
use Rattle.fe_pool.specs.Columns.{Link, link_at}
use Rattle.fe_pool.specs.within.Runs.{IsNodeAmong, AllDifferent, IsNodeRun, IsWholeRun, previous_of, next_of, run_from, with_next, with_previous}
use Rattle.fe_pool.proofs.AmongLemmas.{first_or-append, last-among, last-some, length-le_bound}

-- a node with neighbours is in the vector
pub linked-below : (links : List Link) (n : ℕ) (v : Neighbours) → link_at links n ≡ Some v → n < length links
linked-below links n v found =
    elim (cases_lt n (length links)) as (λ _. n < length links) [
      | inl below ↦ below
      | inr past ↦ let none = get_or_past links n None past in absurd (clash (sym none ∙ found))
    ]
  where
    clash : None ≡ Some v → ⊥
    clash e = cc

-- neighbours that agree at the nodes of a list agree with the list
pub run-agree : (links links' : List Link) (p : Option ℕ) (xs : List ℕ) (q : Option ℕ) → ((m : ℕ) → IsNodeAmong m xs → link_at links' m ≡ link_at links m) → IsNodeRun links p xs q → IsNodeRun links' p xs q
run-agree links links' p [] q same r = tt
run-agree links links' p (x ∷ xs) q same r = (same x (inl refl) ∙ r.0, run-agree links links' (Some x) xs q (λ m i. same m (inr i)) r.1)

-- the first part of a list ends where the second begins
pub run-left : (links : List Link) (p : Option ℕ) (xs ys : List ℕ) (q : Option ℕ) → IsNodeRun links p (xs ++ ys) q → IsNodeRun links p xs (first_or q ys)
run-left links p [] ys q r = tt
run-left links p (x ∷ xs) ys q r =
    (r.0 ∙ ap (λ o. Some (record { previous = p; next = o })) (first_or-append q xs ys), run-left links (Some x) xs ys q r.1)

pub run-right : (links : List Link) (p : Option ℕ) (xs ys : List ℕ) (q : Option ℕ) → IsNodeRun links p (xs ++ ys) q → IsNodeRun links (last_or p xs) ys q
run-right links p [] ys q r = r
run-right links p (x ∷ xs) ys q r = run-right links (Some x) xs ys q r.1

pub run-join : (links : List Link) (p : Option ℕ) (xs ys : List ℕ) (q : Option ℕ) → IsNodeRun links p xs (first_or q ys) → IsNodeRun links (last_or p xs) ys q → IsNodeRun links p (xs ++ ys) q
run-join links p [] ys q r s = s
run-join links p (x ∷ xs) ys q r s =
    (r.0 ∙ ap (λ o. Some (record { previous = p; next = o })) (sym (first_or-append q xs ys)), run-join links (Some x) xs ys q r.1 s)

-- a node of a list has neighbours
pub run-linked : (links : List Link) (p : Option ℕ) (xs : List ℕ) (q : Option ℕ) (n : ℕ) → IsNodeRun links p xs q → IsNodeAmong n xs → (v : Neighbours) × (link_at links n ≡ Some v)
run-linked links p [] q n r i = absurd i
run-linked links p (x ∷ xs) q n r (inl same) = (record { previous = p; next = first_or q xs }, ap (link_at links) same ∙ r.0)
run-linked links p (x ∷ xs) q n r (inr i) = run-linked links (Some x) xs q n r.1 i

-- each node after the first has one before it, on the list
pub run-back : (links : List Link) (p : Option ℕ) (x : ℕ) (xs : List ℕ) (q : Option ℕ) (n : ℕ) → IsNodeRun links p (x ∷ xs) q → IsNodeAmong n xs → (m : ℕ) × IsNodeAmong m (x ∷ xs) × (previous_of (link_at links n) ≡ Some m)
run-back links p x [] q n r i = absurd i
run-back links p x (y ∷ ys) q n r (inl same) = (x, inl refl, ap (λ m. previous_of (link_at links m)) same ∙ ap previous_of r.1.0)
run-back links p x (y ∷ ys) q n r (inr i) =
    let rest = run-back links (Some x) y ys q n r.1 i in (rest.0, inr rest.1, rest.2)

-- a list has no duplicates if the node before it is not in it
pub run-different : (links : List Link) (p : Option ℕ) (xs : List ℕ) (q : Option ℕ) → IsNodeRun links p xs q → ((m : ℕ) → p ≡ Some m → IsNodeAmong m xs → ⊥) → AllDifferent xs
run-different links p [] q r before = tt
run-different links p (x ∷ xs) q r before = (off, run-different links (Some x) xs q r.1 after)
  where
    off : IsNodeAmong x xs → ⊥
    off i = let back = run-back links p x xs q x r i in before back.0 (sym (ap previous_of r.0) ∙ back.2) back.1

    after : (m : ℕ) → Some x ≡ Some m → IsNodeAmong m xs → ⊥
    after m e i = let same : m ≡ x = cc in off (subst (λ k. IsNodeAmong k xs) same i)

pub whole-different : (links : List Link) (xs : List ℕ) → IsWholeRun links xs → AllDifferent xs
whole-different links xs r = run-different links None xs None r clash
  where
    clash : (m : ℕ) → None ≡ Some m → IsNodeAmong m xs → ⊥
    clash m e i = cc

-- the node before a node of a complete list is on the list too
pub whole-previous : (links : List Link) (ys : List ℕ) (n m : ℕ) → IsWholeRun links ys → IsNodeAmong n ys → previous_of (link_at links n) ≡ Some m → IsNodeAmong m ys
whole-previous links [] n m r i e = absurd i
whole-previous links (y ∷ ys) n m r (inl same) e = absurd (clash (sym (ap (λ k. previous_of (link_at links k)) same ∙ ap previous_of r.0) ∙ e))
  where
    clash : None ≡ Some m → ⊥
    clash e = cc
whole-previous links (y ∷ ys) n m r (inr i) e =
    let back = run-back links None y ys None n r i in
    let same : back.0 ≡ m = some_same (sym back.2 ∙ e) in
    subst (λ k. IsNodeAmong k (y ∷ ys)) same back.1
  where
    some_same : {a b : ℕ} → Some a ≡ Some b → a ≡ b
    some_same e = cc

-- a node of a complete list with none before it is its first
pub whole-first : (links : List Link) (ys : List ℕ) (n : ℕ) → IsWholeRun links ys → IsNodeAmong n ys → previous_of (link_at links n) ≡ None → first_or None ys ≡ Some n
whole-first links [] n r i e = absurd i
whole-first links (y ∷ ys) n r (inl same) e = ap Some (sym same)
whole-first links (y ∷ ys) n r (inr i) e = let back = run-back links None y ys None n r i in absurd (clash (sym e ∙ back.2))
  where
    clash : {m : ℕ} → None ≡ Some m → ⊥
    clash e = cc

-- a complete list that contains a later node contains the earlier one too
pub whole-reaches : (links : List Link) (w : ℕ) (zs : List ℕ) (q : Option ℕ) (n : ℕ) (ys : List ℕ) → IsNodeRun links (Some w) zs q → IsNodeAmong n zs → IsWholeRun links ys → IsNodeAmong n ys → IsNodeAmong w ys
whole-reaches links w [] q n ys r i whole j = absurd i
whole-reaches links w (z ∷ zs) q n ys r (inl same) whole j = whole-previous links ys n w whole j (ap (λ k. previous_of (link_at links k)) same ∙ ap previous_of r.0)
whole-reaches links w (z ∷ zs) q n ys r (inr i) whole j =
    whole-previous links ys z w whole (whole-reaches links z zs q n ys r.1 i whole j) (ap previous_of r.0)

-- complete lists that share a node begin with the same node
pub whole-share : (links : List Link) (xs ys : List ℕ) (n : ℕ) → IsWholeRun links xs → IsWholeRun links ys → IsNodeAmong n xs → IsNodeAmong n ys → first_or None ys ≡ first_or None xs
whole-share links [] ys n r s i j = absurd i
whole-share links (x ∷ xs) ys n r s (inl same) j = whole-first links ys x s (subst (λ k. IsNodeAmong k ys) same j) (ap previous_of r.0)
whole-share links (x ∷ xs) ys n r s (inr i) j = whole-first links ys x s (whole-reaches links x xs None n ys r.1 i s j) (ap previous_of r.0)

-- complete lists that begin with the same node are equal
pub run-same : (links : List Link) (p p' : Option ℕ) (xs ys : List ℕ) → IsNodeRun links p xs None → IsNodeRun links p' ys None → first_or None xs ≡ first_or None ys → xs ≡ ys
run-same links p p' [] [] r s e = refl
run-same links p p' [] (y ∷ ys) r s e = cc
run-same links p p' (x ∷ xs) [] r s e = cc
run-same links p p' (x ∷ xs) (y ∷ ys) r s e =
    let same : x ≡ y = cc in
    let next = sym (ap next_of r.0) ∙ ap (λ k. next_of (link_at links k)) same ∙ ap next_of s.0 in
    let rest = run-same links (Some x) (Some y) xs ys r.1 s.1 next in cc

pub whole-same : (links : List Link) (xs ys : List ℕ) (n : ℕ) → IsWholeRun links xs → IsWholeRun links ys → IsNodeAmong n xs → IsNodeAmong n ys → ys ≡ xs
whole-same links xs ys n r s i j = run-same links None None ys xs s r (whole-share links xs ys n r s i j)

-- a complete list is no longer than the vector
pub whole-length : (links : List Link) (xs : List ℕ) → IsWholeRun links xs → length xs ≤ length links
whole-length links xs r =
    length-le_bound xs (length links) (whole-different links xs r) (λ n i.
    let found = run-linked links None xs None n r i in linked-below links n found.0 found.1)

-- following the nodes from the first gives the list
pub run_from-run : (links : List Link) (p : Option ℕ) (xs : List ℕ) (steps : ℕ) → IsNodeRun links p xs None → length xs ≤ steps → run_from links steps (first_or None xs) ≡ xs
run_from-run links p [] zero r fits = refl
run_from-run links p [] (suc steps) r fits = refl
run_from-run links p (x ∷ xs) zero r fits = absurd (omega arith)
run_from-run links p (x ∷ xs) (suc steps) r fits =
    ap (λ ys. x ∷ ys) (ap (run_from links steps) (ap next_of r.0) ∙ run_from-run links (Some x) xs steps r.1 (omega arith))

-- the last node of a list gets a successor
pub run-with_next_at : (links : List Link) (p : Option ℕ) (x : ℕ) (xs : List ℕ) (q : Option ℕ) (l : ℕ) (next : Option ℕ) → last_or (Some x) xs ≡ Some l → AllDifferent (x ∷ xs) → IsNodeRun links p (x ∷ xs) q → IsNodeRun (with_next links (Some l) next) p (x ∷ xs) next
run-with_next_at links p x [] q l next e d r =
    let same : x ≡ l = cc in
    let read : get_or (with_next links (Some x) next) x None ≡ Some (record { previous = previous_of (link_at links x); next = next }) = get_or-set_same links x _ None (linked-below links x _ r.0) in
    subst (λ k. IsNodeRun (with_next links (Some k) next) p (x ∷ []) next) same (read ∙ ap (λ o. Some (record { previous = previous_of o; next = next })) r.0, tt)
run-with_next_at links p x (y ∷ ys) q l next e d r =
    let other : x ≢ l = λ same. d.0 (subst (λ k. IsNodeAmong k (y ∷ ys)) (sym same) (last-among y ys l e)) in
    (get_or-set_other links l x _ None other ∙ r.0, run-with_next_at links (Some x) y ys q l next e d.1 r.1)

pub run-with_next : (links : List Link) (xs : List ℕ) (q next : Option ℕ) → AllDifferent xs → IsNodeRun links None xs q → IsNodeRun (with_next links (last_or None xs) next) None xs next
run-with_next links [] q next d r = tt
run-with_next links (x ∷ xs) q next d r =
    let last = last-some x xs in
    subst (λ o. IsNodeRun (with_next links o next) None (x ∷ xs) next) (sym last.1) (run-with_next_at links None x xs q last.0 next last.1 d r)

-- the first node of a list gets a predecessor
pub run-with_previous : (links : List Link) (p : Option ℕ) (xs : List ℕ) (previous : Option ℕ) → AllDifferent xs → IsNodeRun links p xs None → IsNodeRun (with_previous links (first_or None xs) previous) previous xs None
run-with_previous links p [] previous d r = tt
run-with_previous links p (x ∷ xs) previous d r = (
  get_or-set_same links x _ None (linked-below links x _ r.0) ∙ ap (λ o. Some (record { previous = previous; next = next_of o })) r.0,
  run-agree links _ (Some x) xs None (λ m i. get_or-set_other links x m _ None (λ same. d.0 (subst (λ k. IsNodeAmong k xs) same i))) r.1,
)

-- the other nodes keep their neighbours
pub with_next-other : (links : List Link) (at next : Option ℕ) (m : ℕ) → (at ≡ Some m → ⊥) → link_at (with_next links at next) m ≡ link_at links m
with_next-other links None next m other = refl
with_next-other links (Some a) next m other = get_or-set_other links a m _ None (λ same. other (ap Some (sym same)))

pub with_previous-other : (links : List Link) (at previous : Option ℕ) (m : ℕ) → (at ≡ Some m → ⊥) → link_at (with_previous links at previous) m ≡ link_at links m
with_previous-other links None previous m other = refl
with_previous-other links (Some a) previous m other = get_or-set_other links a m _ None (λ same. other (ap Some (sym same)))
