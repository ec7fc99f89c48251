-- The invariant of every pool, and how changes of a node keep it.
use Rattle.std.proofs.Common.{◌≡◌, ℕ, ◌<◌, ◌⊎◌, List, [], ◌∷◌, length, get_or, Option, Some, None, IsSome, is_some, refl, sym, ap, ◌∙◌, inl, inr, subst, true≢false}
use Rattle.std.proofs.lemmas.Bool.{cases_lt}
use Rattle.std.proofs.lemmas.List.{get_or_past}
use Rattle.fe_pool.specs.declared.family.Family.{Family}
use Rattle.fe_pool.specs.declared.family.Family.TheVariants.{OfWord, OfSession}
use Rattle.fe_pool.specs.declared.neighbours.Neighbours.{Neighbours}
use Rattle.fe_pool.specs.Pool.{first_or, list_from, lists_of, IsOnOne, IsOn, IsOff, IsFree, AreSound, IsSound, IsNext}
use Rattle.fe_pool.specs.Columns.{Columns, Link, link_at, links_of, IsLoose}
use Rattle.fe_pool.specs.within.Runs.{IsNodeAmong, IsWholeRun, AllListed, lists, next_of, IsFreeRun, IsPool, contents}
use Rattle.fe_pool.proofs.AmongLemmas.{among-Contains, Contains-among, all_pairs}
use Rattle.fe_pool.proofs.RunLemmas.{whole-different, whole-share, linked-below, run-right}
use Rattle.fe_pool.proofs.ListLemmas.{IsListAt, list_at, length-lists, linked_is_on, on_is_linked, list_from_is_whole}

none_some : {X P : Type 0} {x : X} → None ≡ Some x → P
none_some e = cc

-- there is an item or there is none
pub item_cases : {T : Type 0} (o : Option T) → (o ≡ None) ⊎ IsSome o
item_cases None = inl refl
item_cases (Some x) = inr refl

pub link_cases : (o : Link) → (o ≡ None) ⊎ ((v : Neighbours) × (o ≡ Some v))
link_cases None = inl refl
link_cases (Some v) = inr (v, refl)

pub not_some : {T : Type 0} {o : Option T} → IsSome o → o ≡ None → ⊥
not_some some none = true≢false (sym some ∙ ap is_some none)

-- a node is on one of the lists exactly if it is in one of them
pub on_among : (ls : List (List ℕ)) (n : ℕ) → IsOnOne ls n → (first : ℕ) × IsNodeAmong n (get_or ls first [])
on_among ls n (first, contained) = by_first first (among-Contains n _ contained)
  where
    by_first : (first : Option ℕ) → IsNodeAmong n (list_from ls first) → (first : ℕ) × IsNodeAmong n (get_or ls first [])
    by_first None i = absurd i
    by_first (Some index) i = (index, i)

pub among_on : (ls : List (List ℕ)) (n : ℕ) → ((first : ℕ) × IsNodeAmong n (get_or ls first [])) → IsOnOne ls n
among_on ls n on = (Some on.0, Contains-among n _ on.1)

-- the lists that the neighbours form are sound
module _ {T : Type 0} (items : List (Option T)) (links : List Link) (sized : length links ≡ length items) (loose : (n : ℕ) → get_or items n None ≡ None → link_at links n ≡ None) (listed : AllListed links) where
  at : (index : ℕ) → IsListAt links index
  at = list_at links listed

  first_is : (index n : ℕ) → IsNodeAmong n (get_or (lists links) index []) → first_or None (get_or (lists links) index []) ≡ Some index
  first_is index n i = by_list (get_or (lists links) index []) i (at index).begins
    where
      by_list : (xs : List ℕ) → IsNodeAmong n xs → ((m : ℕ) → first_or None xs ≡ Some m → m ≡ index) → first_or None xs ≡ Some index
      by_list [] i begins = absurd i
      by_list (x ∷ xs) i begins = ap Some (begins x refl)

  same_index : (one other : Option ℕ) (n : ℕ) → IsNodeAmong n (list_from (lists links) one) → IsNodeAmong n (list_from (lists links) other) → one ≡ other
  same_index None other n i j = absurd i
  same_index (Some index) None n i j = absurd j
  same_index (Some index) (Some other) n i j =
      sym (first_is index n i) ∙ sym (whole-share links _ _ n (at index).whole (at other).whole i j) ∙ first_is other n j

  pub lists-sound : AreSound items (lists links)
  lists-sound = record {
    sized = length-lists links ∙ sized;
    begins = λ index node e. (at index).begins node e;
    different = λ first. all_pairs _ (whole-different links _ (list_from_is_whole links listed first));
    apart = λ one other node i j. same_index one other node (among-Contains node _ i) (among-Contains node _ j);
    taken = λ node on. elim (item_cases (get_or items node None)) as (λ _. IsSome (get_or items node None)) [
      | inl free ↦
          let among = on_among (lists links) node on in
          let found = on_is_linked links listed node among.0 among.1 in
          none_some (sym (loose node free) ∙ found.1)
      | inr some ↦ some
    ];
  }

-- the lists of a family are those that its neighbours form
pub lists_of-contents : {T : Type 0} (c : Columns T) (family : Family) → lists_of (contents c) family ≡ lists (links_of c family)
lists_of-contents c OfWord = refl
lists_of-contents c OfSession = refl

module _ {T : Type 0} (c : Columns T) (first : Option ℕ) (pool : IsPool c first) where
  pub pool-listed : (family : Family) → AllListed (links_of c family)
  pool-listed OfWord = pool.words
  pool-listed OfSession = pool.sessions

  pub pool-loose : (family : Family) (n : ℕ) → get_or c.items n None ≡ None → link_at (links_of c family) n ≡ None
  pool-loose OfWord n free = (pool.loose n free).of_word
  pool-loose OfSession n free = (pool.loose n free).of_session

  pub pool-sized : (family : Family) → length (links_of c family) ≡ length c.items
  pool-sized OfWord = pool.of_word_length
  pool-sized OfSession = pool.of_session_length

  pub pool-sound : IsSound (contents c)
  pool-sound = record {
    fits = pool.fits;
    families = λ family. subst (AreSound c.items) (sym (lists_of-contents c family)) (lists-sound c.items (links_of c family) (pool-sized family) (pool-loose family) (pool-listed family));
  }

  -- a node on a list has neighbours, and one on no list has none
  pub pool-on : (family : Family) (n : ℕ) → IsOn (contents c) family n → (v : Neighbours) × (link_at (links_of c family) n ≡ Some v)
  pool-on family n on =
      let among = on_among (lists (links_of c family)) n (subst (λ ls. IsOnOne ls n) (lists_of-contents c family) on) in
      on_is_linked (links_of c family) (pool-listed family) n among.0 among.1

  pub pool-off : (family : Family) (n : ℕ) → IsOff (contents c) family n → link_at (links_of c family) n ≡ None
  pool-off family n off =
      elim (link_cases (link_at (links_of c family) n)) as (λ _. link_at (links_of c family) n ≡ None) [
        | inl none ↦ none
        | inr found ↦ absurd (off (subst (λ ls. IsOnOne ls n) (sym (lists_of-contents c family)) (among_on _ n (linked_is_on (links_of c family) (pool-listed family) n found.0 found.1))))
      ]

  pub pool-off_loose : (n : ℕ) → ((family : Family) → IsOff (contents c) family n) → IsLoose c n
  pool-off_loose n off = record { of_word = pool-off OfWord n (off OfWord); of_session = pool-off OfSession n (off OfSession) }

  -- a free node is on no list
  pub pool-free_off : (family : Family) (n : ℕ) → get_or c.items n None ≡ None → IsOff (contents c) family n
  pool-free_off family n free on = let found = pool-on family n on in none_some (sym (pool-loose family n free) ∙ found.1)

  -- the first free node is free, and if there is none no node is free
  pub pool-first : (n : ℕ) → first ≡ Some n → (n < length c.items) × (get_or c.items n None ≡ None)
  pool-first n e = by_free pool.free pool.free_linked (λ m i. pool.free_empty m i)
    where
      by_free : (xs : List ℕ) → IsFreeRun c.followers first xs → ((m : ℕ) → IsNodeAmong m xs → (m < length c.items) × (get_or c.items m None ≡ None)) → (n < length c.items) × (get_or c.items n None ≡ None)
      by_free [] linked empty = none_some (sym linked ∙ e)
      by_free (x ∷ xs) linked empty = let same : n ≡ x = some_same (sym e ∙ linked.0) in empty n (inl same)
        where
          some_same : {a b : ℕ} → Some a ≡ Some b → a ≡ b
          some_same e = cc

  pub pool-full : first ≡ None → (n : ℕ) → IsFree (contents c) n → ⊥
  pool-full e n free = by_free pool.free pool.free_linked (pool.free_listed n free.0 free.1)
    where
      by_free : (xs : List ℕ) → IsFreeRun c.followers first xs → IsNodeAmong n xs → ⊥
      by_free [] linked i = i
      by_free (x ∷ xs) linked i = none_some (sym e ∙ linked.0)

-- a node with an item is in the pool
pub some-below : {T : Type 0} (items : List (Option T)) (n : ℕ) → IsSome (get_or items n None) → n < length items
some-below items n some =
    elim (cases_lt n (length items)) as (λ _. n < length items) [
      | inl below ↦ below
      | inr past ↦ absurd (not_some some (get_or_past items n None past))
    ]

module _ {T : Type 0} (c : Columns T) (first : Option ℕ) (pool : IsPool c first) (family : Family) (n : ℕ) where
  -- a node on a list is in the pool, and has neighbours
  pub on-below : IsOn (contents c) family n → n < length c.items
  on-below on =
      let found = pool-on c first pool family n on in
      subst (λ k. n < k) (pool-sized c first pool family) (linked-below (links_of c family) n found.0 found.1)

  pub on-linked : IsOn (contents c) family n → IsSome (link_at (links_of c family) n)
  on-linked on = let found = pool-on c first pool family n on in ap is_some found.1

  -- the next node is the one after it on each list
  pub pool-next : IsNext (contents c) family n (next_of (link_at (links_of c family) n))
  pool-next first before after e =
      let whole = subst (IsWholeRun (links_of c family)) (sym (ap (λ ls. list_from ls first) (lists_of-contents c family)) ∙ e) (list_from_is_whole (links_of c family) (pool-listed c _ pool family) first) in
      ap next_of (run-right (links_of c family) None before (n ∷ after) None whole).0
