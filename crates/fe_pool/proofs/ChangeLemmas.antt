-- The two changes of a list: a node appended, and a node removed.
use Rattle.std.proofs.Common.{◌≡◌, ◌≢◌, ℕ, ◌<◌, List, [], ◌∷◌, ◌++◌, length, set, Option, Some, None, refl, sym, ◌∙◌, inl, inr, subst, length-set}
use Rattle.std.specs.List.{last_or}
use Rattle.std.proofs.lemmas.List.{get_or-set_same, get_or-set_other}
use Rattle.fe_pool.specs.declared.neighbours.Neighbours.{Neighbours}
use Rattle.fe_pool.specs.Pool.{first_or}
use Rattle.fe_pool.specs.Columns.{Link, link_at}
use Rattle.fe_pool.specs.within.Runs.{IsNodeAmong, AllDifferent, IsNodeRun, IsWholeRun, with_next, with_previous}
use Rattle.fe_pool.proofs.AmongLemmas.{among-append_left, among-append_right, among-append_cases, last-among, different-middle, different-parts, different-left, different-right}
use Rattle.fe_pool.proofs.RunLemmas.{run-agree, run-left, run-right, run-join, run-linked, linked-below, whole-different, run-with_next, run-with_previous, with_next-other, with_previous-other}
use Rattle.fe_pool.proofs.ListLemmas.{Relinks}

pub length-with_next : (links : List Link) (at next : Option ℕ) → length (with_next links at next) ≡ length links
length-with_next links None next = refl
length-with_next links (Some a) next = length-set links a _

pub length-with_previous : (links : List Link) (at previous : Option ℕ) → length (with_previous links at previous) ≡ length links
length-with_previous links None previous = refl
length-with_previous links (Some a) previous = length-set links a _

-- the first node of a list is in it, and so is the last
pub first_among : (xs : List ℕ) (m : ℕ) → first_or None xs ≡ Some m → IsNodeAmong m xs
first_among [] m e = cc
first_among (x ∷ xs) m e = inl (cc)

pub last_among : (xs : List ℕ) (m : ℕ) → last_or None xs ≡ Some m → IsNodeAmong m xs
last_among [] m e = cc
last_among (x ∷ xs) m e = last-among x xs m e

-- the neighbours with the node at the end of the list
abbrev pub pushed : List Link → List ℕ → ℕ → List Link
pushed links xs n = with_next (set links n (Some (record { previous = last_or None xs; next = None }))) (last_or None xs) (Some n)

module _ (links : List Link) (xs : List ℕ) (n : ℕ) (below : n < length links) (alone : link_at links n ≡ None) (whole : IsWholeRun links xs) where
  off_linked : (nodes : List ℕ) → IsWholeRun links nodes → IsNodeAmong n nodes → ⊥
  off_linked nodes r i = let found = run-linked links None nodes None n r i in clash (sym alone ∙ found.1)
    where
      clash : {v : Neighbours} → None ≡ Some v → ⊥
      clash e = cc

  pushed-whole : IsWholeRun (pushed links xs n) (xs ++ n ∷ [])
  pushed-whole =
      let off = off_linked xs whole in
      let kept = run-agree links (set links n (Some (record { previous = last_or None xs; next = None }))) None xs None (λ m i. get_or-set_other links n m _ None (λ same. off (subst (λ k. IsNodeAmong k xs) same i))) whole in
      run-join (pushed links xs n) None xs (n ∷ []) None
      (run-with_next _ xs None (Some n) (whole-different links xs whole) kept) (
        with_next-other _ (last_or None xs) (Some n) n (λ e. off (last_among xs n e)) ∙ get_or-set_same links n _ None below,
        tt,
      )

  pub push-relinks : Relinks links (pushed links xs n) xs (xs ++ n ∷ []) n
  push-relinks = record {
    sized = length-with_next _ (last_or None xs) (Some n) ∙ length-set links n _;
    before = whole;
    after = pushed-whole;
    kept = λ m off other. with_next-other _ (last_or None xs) (Some n) m (λ e. off (last_among xs m e)) ∙ get_or-set_other links n m _ None other;
    stays = λ m other i. among-append_left m xs (n ∷ []) i;
    stood = λ m other i. elim (among-append_cases m xs (n ∷ []) i) as (λ _. IsNodeAmong m xs) [
      | inl here ↦ here
      | inr last ↦ absurd (elim last as (λ _. ⊥) [ inl same ↦ other same | inr none ↦ none ])
    ];
    only = λ nodes r i. absurd (off_linked nodes r i);
    gone = λ off. absurd (off (among-append_right n xs (n ∷ []) (inl refl)));
  }

-- the neighbours without the node between the two
abbrev pub unlinked : List Link → Option ℕ → Option ℕ → ℕ → List Link
unlinked links previous next n = set (with_previous (with_next links previous next) next previous) n None

module _ (links : List Link) (xs ys : List ℕ) (n : ℕ) (whole : IsWholeRun links (xs ++ n ∷ ys)) where
  different : AllDifferent (xs ++ n ∷ ys)
  different = whole-different links (xs ++ n ∷ ys) whole

  not_both : (m : ℕ) → IsNodeAmong m xs → IsNodeAmong m ys → ⊥
  not_both m i j = different-parts m xs (n ∷ ys) different i (inr j)

  -- the neighbours of a node between two others
  pub unlink-link : link_at links n ≡ Some (record { previous = last_or None xs; next = first_or None ys })
  unlink-link = (run-right links None xs (n ∷ ys) None whole).0

  unlinked-kept : (m : ℕ) → (IsNodeAmong m xs → ⊥) → (IsNodeAmong m ys → ⊥) → m ≢ n → link_at (unlinked links (last_or None xs) (first_or None ys) n) m ≡ link_at links m
  unlinked-kept m off_left off_right other =
      get_or-set_other _ n m None None other
      ∙ with_previous-other _ (first_or None ys) (last_or None xs) m (λ e. off_right (first_among ys m e))
      ∙ with_next-other links (last_or None xs) (first_or None ys) m (λ e. off_left (last_among xs m e))

  unlinked-left : IsNodeRun (unlinked links (last_or None xs) (first_or None ys) n) None xs (first_or None ys)
  unlinked-left =
      let middle = different-middle n xs ys different in
      run-agree (with_next links (last_or None xs) (first_or None ys)) _ None xs (first_or None ys)
      (λ m i.
      get_or-set_other _ n m None None (λ same. middle.0 (subst (λ k. IsNodeAmong k xs) same i))
      ∙ with_previous-other _ (first_or None ys) (last_or None xs) m (λ e. not_both m i (first_among ys m e)))
      (run-with_next links xs (Some n) (first_or None ys) (different-left xs (n ∷ ys) different) (run-left links None xs (n ∷ ys) None whole))

  unlinked-right : IsNodeRun (unlinked links (last_or None xs) (first_or None ys) n) (last_or None xs) ys None
  unlinked-right =
      let middle = different-middle n xs ys different in
      let rest = (run-right links None xs (n ∷ ys) None whole).1 in
      let kept = run-agree links (with_next links (last_or None xs) (first_or None ys)) (Some n) ys None
      (λ m i. with_next-other links (last_or None xs) (first_or None ys) m (λ e. not_both m (last_among xs m e) i)) rest in
      run-agree (with_previous (with_next links (last_or None xs) (first_or None ys)) (first_or None ys) (last_or None xs)) _ (last_or None xs) ys None
      (λ m i. get_or-set_other _ n m None None (λ same. middle.1 (subst (λ k. IsNodeAmong k ys) same i)))
      (run-with_previous _ (Some n) ys (last_or None xs) (different-right xs (n ∷ ys) different).1 kept)

  pub unlink-relinks : Relinks links (unlinked links (last_or None xs) (first_or None ys) n) (xs ++ n ∷ ys) (xs ++ ys) n
  unlink-relinks = record {
    sized = length-set _ n None ∙ length-with_previous _ (first_or None ys) (last_or None xs) ∙ length-with_next links (last_or None xs) (first_or None ys);
    before = whole;
    after = run-join _ None xs ys None unlinked-left unlinked-right;
    kept = λ m off other. unlinked-kept m (λ i. off (among-append_left m xs (n ∷ ys) i)) (λ i. off (among-append_right m xs (n ∷ ys) (inr i))) other;
    stays = λ m other i. elim (among-append_cases m xs (n ∷ ys) i) as (λ _. IsNodeAmong m (xs ++ ys)) [
      | inl left ↦ among-append_left m xs ys left
      | inr right ↦ elim right as (λ _. IsNodeAmong m (xs ++ ys)) [ inl same ↦ absurd (other same) | inr later ↦ among-append_right m xs ys later ]
    ];
    stood = λ m other i. elim (among-append_cases m xs ys i) as (λ _. IsNodeAmong m (xs ++ n ∷ ys)) [
      | inl left ↦ among-append_left m xs (n ∷ ys) left
      | inr right ↦ among-append_right m xs (n ∷ ys) (inr right)
    ];
    only = λ nodes r i. among-append_right n xs (n ∷ ys) (inl refl);
    gone = λ off. get_or-set_same _ n None None (subst (λ k. n < k) (sym (length-with_previous _ (first_or None ys) (last_or None xs) ∙ length-with_next links (last_or None xs) (first_or None ys))) (linked-below links n _ unlink-link));
  }
