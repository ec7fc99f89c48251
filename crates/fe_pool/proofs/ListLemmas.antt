-- The lists that the neighbours form, and what a change of one list does to the others.
use Rattle.std.proofs.Common.{◌≡◌, ◌≢◌, ℕ, zero, suc, ◌+◌, ◌<◌, List, [], ◌∷◌, length, get_or, replicate, Option, Some, None, refl, sym, ap, ◌∙◌, inl, inr, arith, subst}
use Rattle.std.specs.List.{range_with_len}
use Rattle.std.proofs.lemmas.Bool.{cases_lt}
use Rattle.std.proofs.lemmas.List.{get_or_past, length-map}
use Rattle.std.proofs.lemmas.List.FromFn.{get_or-map-range_with_len}
use Rattle.fe_pool.specs.declared.neighbours.Neighbours.{Neighbours}
use Rattle.fe_pool.specs.Pool.{first_or, list_from}
use Rattle.fe_pool.specs.Columns.{Link, link_at}
use Rattle.fe_pool.specs.within.Runs.{IsNodeAmong, IsWholeRun, AllListed, previous_of, list_begun, lists}
use Rattle.fe_pool.proofs.AmongLemmas.{among_cases}
use Rattle.fe_pool.proofs.RunLemmas.{run-agree, run-linked, linked-below, whole-first, whole-share, whole-same, whole-length, run_from-run}

length-range_with_len : (a n : ℕ) → length (range_with_len a n) ≡ n
length-range_with_len a zero = refl
length-range_with_len a (suc n) = ap suc (length-range_with_len (a + 1) n)

pub length-lists : (links : List Link) → length (lists links) ≡ length links
unfolding lists
length-lists links = length-map (range_with_len 0 (length links)) (λ node. list_begun links node (link_at links node)) ∙ length-range_with_len 0 (length links)

-- the list at a node of the vector
pub lists-at : (links : List Link) (n : ℕ) → n < length links → get_or (lists links) n [] ≡ list_begun links n (link_at links n)
unfolding lists
lists-at links n below = get_or-map-range_with_len (λ node. list_begun links node (link_at links node)) 0 (length links) n n [] below (omega arith)

-- without neighbours no list begins
pub lists-none : (n k : ℕ) → get_or (lists (replicate {A = Link} n None)) k [] ≡ []
lists-none n k =
    elim (cases_lt k (length (replicate {A = Link} n None))) as (λ _. get_or (lists (replicate {A = Link} n None)) k [] ≡ []) [
      | inl below ↦ lists-at (replicate {A = Link} n None) k below ∙ ap (list_begun (replicate {A = Link} n None) k) (none_at n k)
      | inr past ↦ get_or_past (lists (replicate {A = Link} n None)) k [] (omega (arith, length-lists (replicate {A = Link} n None)))
    ]
  where
    none_at : (n k : ℕ) → link_at (replicate {A = Link} n None) k ≡ None
    none_at zero k = refl
    none_at (suc n) zero = refl
    none_at (suc n) (suc k) = none_at n k

-- a complete list is the one at its first node
lists-begun : (links : List Link) (x : ℕ) (xs : List ℕ) → IsWholeRun links (x ∷ xs) → get_or (lists links) x [] ≡ x ∷ xs
lists-begun links x xs r =
    lists-at links x (linked-below links x _ r.0)
    ∙ ap (list_begun links x) r.0
    ∙ run_from-run links None (x ∷ xs) (length links) r (whole-length links (x ∷ xs) r)

pub list_from-whole : (links : List Link) (xs : List ℕ) → IsWholeRun links xs → list_from (lists links) (first_or None xs) ≡ xs
list_from-whole links [] r = refl
list_from-whole links (x ∷ xs) r = lists-begun links x xs r

-- each list is complete, and is at its first node
pub record IsListAt (links : List Link) (index : ℕ) : Type 0 where
  pub whole : IsWholeRun links (get_or (lists links) index [])
  pub begins : (node : ℕ) → first_or None (get_or (lists links) index []) ≡ Some node → node ≡ index

empty_at : (links : List Link) (index : ℕ) → get_or (lists links) index [] ≡ [] → IsListAt links index
empty_at links index e = record {
  whole = subst (IsWholeRun links) (sym e) tt;
  begins = λ node f. none_some (sym (ap (first_or None) e) ∙ f);
}
  where
    none_some : {P : Type 0} {n : ℕ} → None ≡ Some n → P
    none_some e = cc

whole_at : (links : List Link) (index : ℕ) (xs : List ℕ) → IsWholeRun links xs → first_or None xs ≡ Some index → IsListAt links index
whole_at links index xs r f =
    let e : get_or (lists links) index [] ≡ xs = sym (ap (list_from (lists links)) f) ∙ list_from-whole links xs r in
    record {
      whole = subst (IsWholeRun links) (sym e) r;
      begins = λ node h. some_same (sym (sym (ap (first_or None) e) ∙ h) ∙ f);
    }
  where
    some_same : {a b : ℕ} → Some a ≡ Some b → a ≡ b
    some_same e = cc

pub list_at : (links : List Link) → AllListed links → (index : ℕ) → IsListAt links index
list_at links listed index =
    elim (cases_lt index (length links)) as (λ _. IsListAt links index) [
      | inl below ↦ by_link (link_at links index) refl (lists-at links index below)
      | inr past ↦ empty_at links index (get_or_past (lists links) index [] (omega (arith, length-lists links)))
    ]
  where
    by_previous : (v : Neighbours) (o : Option ℕ) → link_at links index ≡ Some v → v.previous ≡ o → get_or (lists links) index [] ≡ list_begun links index (Some v) → IsListAt links index
    by_previous v (Some m) found before e = empty_at links index (e ∙ ap (λ p. list_begun links index (Some (record { previous = p; next = v.next }))) before)
    by_previous v None found before e =
        let list = listed index v found in
        whole_at links index list.0 list.1 (whole-first links list.0 index list.1 list.2 (ap previous_of found ∙ before))

    by_link : (o : Link) → link_at links index ≡ o → get_or (lists links) index [] ≡ list_begun links index (link_at links index) → IsListAt links index
    by_link None found e = empty_at links index (e ∙ ap (list_begun links index) found)
    by_link (Some v) found e = by_previous v v.previous found refl (e ∙ ap (list_begun links index) found)

pub list_from_is_whole : (links : List Link) → AllListed links → (first : Option ℕ) → IsWholeRun links (list_from (lists links) first)
list_from_is_whole links listed None = tt
list_from_is_whole links listed (Some index) = (list_at links listed index).whole

-- a node with neighbours is on one of the lists
pub linked_is_on : (links : List Link) → AllListed links → (n : ℕ) (v : Neighbours) → link_at links n ≡ Some v → (first : ℕ) × IsNodeAmong n (get_or (lists links) first [])
linked_is_on links listed n v found = let list = listed n v found in at_first list.0 list.1 list.2
  where
    at_first : (xs : List ℕ) → IsWholeRun links xs → IsNodeAmong n xs → (first : ℕ) × IsNodeAmong n (get_or (lists links) first [])
    at_first [] r i = absurd i
    at_first (x ∷ xs) r i = (x, subst (IsNodeAmong n) (sym (lists-begun links x xs r)) i)

-- a node on one of the lists has neighbours
pub on_is_linked : (links : List Link) → AllListed links → (n first : ℕ) → IsNodeAmong n (get_or (lists links) first []) → (v : Neighbours) × (link_at links n ≡ Some v)
on_is_linked links listed n first i = run-linked links None _ None n (list_at links listed first).whole i

-- from `links` to `links'` the list `old` becomes `new`; one of the two may contain `node` while the other does not,
-- and all other nodes keep their neighbours
pub record Relinks (links links' : List Link) (old new : List ℕ) (node : ℕ) : Type 0 where
  pub sized : length links' ≡ length links
  pub before : IsWholeRun links old
  pub after : IsWholeRun links' new
  pub kept : (m : ℕ) → (IsNodeAmong m old → ⊥) → m ≢ node → link_at links' m ≡ link_at links m
  pub stays : (m : ℕ) → m ≢ node → IsNodeAmong m old → IsNodeAmong m new
  pub stood : (m : ℕ) → m ≢ node → IsNodeAmong m new → IsNodeAmong m old
  pub only : (nodes : List ℕ) → IsWholeRun links nodes → IsNodeAmong node nodes → IsNodeAmong node old
  pub gone : (IsNodeAmong node new → ⊥) → link_at links' node ≡ None

module _ (links links' : List Link) (old new : List ℕ) (node : ℕ) (re : Relinks links links' old new node) where
  -- a complete list that shares no node with the changed one stays the same
  pub relinks-whole : (xs : List ℕ) → IsWholeRun links xs → ((m : ℕ) → IsNodeAmong m xs → IsNodeAmong m old → ⊥) → IsWholeRun links' xs
  relinks-whole xs r off =
      run-agree links links' None xs None
      (λ m i. re.kept m (off m i) (λ same. let i' = subst (λ k. IsNodeAmong k xs) same i in off node i' (re.only xs r i')))
      r

  -- each node with neighbours is still on a complete list
  pub relinks-listed : AllListed links → AllListed links'
  relinks-listed listed m v found =
      elim (among_cases m new) as (λ _. (nodes : List ℕ) × IsWholeRun links' nodes × IsNodeAmong m nodes) [
        | inl here ↦ (new, re.after, here)
        | inr off ↦
            let other : m ≢ node = λ same. none_some (sym (re.gone (λ i. off (subst (λ k. IsNodeAmong k new) (sym same) i))) ∙ ap (link_at links') (sym same) ∙ found) in
            let off_old : IsNodeAmong m old → ⊥ = λ i. off (re.stays m other i) in
            let list = listed m v (sym (re.kept m off_old other) ∙ found) in
            (list.0, relinks-whole list.0 list.1 (λ k i j. off_old (subst (IsNodeAmong m) (whole-same links old list.0 k re.before list.1 j i) list.2)), list.2)
      ]
    where
      none_some : {P : Type 0} {n : Neighbours} → None ≡ Some n → P
      none_some e = cc

  -- a list that begins elsewhere stays the same
  pub relinks-list : AllListed links → (xs : List ℕ) → IsWholeRun links xs → (first_or None xs ≡ first_or None old → first_or None xs ≡ None) → list_from (lists links') (first_or None xs) ≡ xs
  relinks-list listed xs r apart = list_from-whole links' xs (relinks-whole xs r (λ m i j. no_first m xs i (apart (whole-share links old xs m re.before r j i))))
    where
      no_first : (m : ℕ) (xs : List ℕ) → IsNodeAmong m xs → first_or None xs ≡ None → ⊥
      no_first m [] i e = i
      no_first m (x ∷ xs) i e = cc

  -- each other node has neighbours exactly if it had some before
  pub relinks-linked : AllListed links → (m : ℕ) → m ≢ node → (v : Neighbours) → link_at links m ≡ Some v → (w : Neighbours) × (link_at links' m ≡ Some w)
  relinks-linked listed m other v found =
      elim (among_cases m old) as (λ _. (w : Neighbours) × (link_at links' m ≡ Some w)) [
        | inl here ↦ run-linked links' None new None m re.after (re.stays m other here)
        | inr off ↦ (v, re.kept m off other ∙ found)
      ]

  pub linked-relinks : (m : ℕ) → m ≢ node → (w : Neighbours) → link_at links' m ≡ Some w → (v : Neighbours) × (link_at links m ≡ Some v)
  linked-relinks m other w found =
      elim (among_cases m old) as (λ _. (v : Neighbours) × (link_at links m ≡ Some v)) [
        | inl here ↦ run-linked links None old None m re.before here
        | inr off ↦ (w, sym (re.kept m off other) ∙ found)
      ]

  -- each other node is on a list exactly if it was before
  pub relinks-on : AllListed links → (m : ℕ) → m ≢ node → ((first : ℕ) × IsNodeAmong m (get_or (lists links) first [])) → (first : ℕ) × IsNodeAmong m (get_or (lists links') first [])
  relinks-on listed m other on =
      let was = on_is_linked links listed m on.0 on.1 in
      let is = relinks-linked listed m other was.0 was.1 in
      linked_is_on links' (relinks-listed listed) m is.0 is.1

  pub on-relinks : AllListed links → (m : ℕ) → m ≢ node → ((first : ℕ) × IsNodeAmong m (get_or (lists links') first [])) → (first : ℕ) × IsNodeAmong m (get_or (lists links) first [])
  on-relinks listed m other on =
      let is = on_is_linked links' (relinks-listed listed) m on.0 on.1 in
      let was = linked-relinks m other is.0 is.1 in
      linked_is_on links listed m was.0 was.1
