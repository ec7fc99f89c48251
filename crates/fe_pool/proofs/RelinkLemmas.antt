-- What a change of one list does to a pool, in the terms of its contracts.
use Rattle.std.proofs.Common.{◌≡◌, ◌≢◌, ℕ, List, length, get_or, Option, Some, None, IsSome, is_some, refl, sym, ap, ◌∙◌, inl, inr, subst, true≢false}
use Rattle.std.specs.List.{last_or}
use Rattle.fe_pool.specs.declared.chain.Chain.{Chain}
use Rattle.fe_pool.specs.declared.family.Family.{Family}
use Rattle.fe_pool.specs.declared.family.Family.TheVariants.{OfWord, OfSession}
use Rattle.fe_pool.specs.declared.neighbours.Neighbours.{Neighbours}
use Rattle.fe_pool.specs.Pool.{Contents, first_or, list_from, lists_of, list_of, IsChain, IsOnOne, IsOff, KeepsOtherChains, KeepsOtherNodes, KeepsOtherFamily}
use Rattle.fe_pool.specs.Columns.{Columns, Link, link_at, links_of, with_links}
use Rattle.fe_pool.specs.within.Runs.{IsNodeAmong, AllListed, lists, IsPool, contents}
use Rattle.fe_pool.proofs.ListLemmas.{Relinks, relinks-listed, relinks-list, linked-relinks, relinks-on, on-relinks, list_from-whole, list_from_is_whole, on_is_linked}
use Rattle.fe_pool.proofs.PoolLemmas.{on_among, among_on, link_cases}

module _ {T : Type 0} (c : Columns T) where
  pub links_of-with_links : (family : Family) (links : List Link) → links_of (with_links c family links) family ≡ links
  links_of-with_links OfWord links = refl
  links_of-with_links OfSession links = refl

  pub with_links-with_links : (family : Family) (links links' : List Link) → with_links (with_links c family links) family links' ≡ with_links c family links'
  with_links-with_links OfWord links links' = refl
  with_links-with_links OfSession links links' = refl

  pub items-with_links : (family : Family) (links : List Link) → (with_links c family links).items ≡ c.items
  items-with_links OfWord links = refl
  items-with_links OfSession links = refl

  pub other_family : (family : Family) (links : List Link) → KeepsOtherFamily (contents c) (contents (with_links c family links)) family
  other_family OfWord links OfWord other = absurd (other refl)
  other_family OfWord links OfSession other = refl
  other_family OfSession links OfWord other = refl
  other_family OfSession links OfSession other = absurd (other refl)

-- another node without neighbours still has none
relinks-none : (links links' : List Link) (old new : List ℕ) (node : ℕ) → Relinks links links' old new node → (m : ℕ) → m ≢ node → link_at links m ≡ None → link_at links' m ≡ None
relinks-none links links' old new node re m other none =
    elim (link_cases (link_at links' m)) as (λ _. link_at links' m ≡ None) [
      | inl none' ↦ none'
      | inr found ↦ let was = linked-relinks links links' old new node re m other found.0 found.1 in none_some (sym none ∙ was.1)
    ]
  where
    none_some : {P : Type 0} {v : Neighbours} → None ≡ Some v → P
    none_some e = cc

-- other neighbours keep the pool's invariant if there are as many, each free node has none, and they form lists
with_columns : {T : Type 0} (c : Columns T) (first : Option ℕ) (words sessions : List Link) → IsPool c first → length words ≡ length c.items → length sessions ≡ length c.items
    → ((node : ℕ) → get_or c.items node None ≡ None → (link_at words node ≡ None) × (link_at sessions node ≡ None)) → AllListed words → AllListed sessions
    → IsPool (record c { of_word = words; of_session = sessions }) first
with_columns c first words sessions pool word_size session_size loose words_listed sessions_listed = record {
  fits = pool.fits;
  followers_length = pool.followers_length;
  of_word_length = word_size;
  of_session_length = session_size;
  free = pool.free;
  free_linked = pool.free_linked;
  free_different = pool.free_different;
  free_listed = pool.free_listed;
  free_empty = pool.free_empty;
  loose = λ node free. record { of_word = (loose node free).0; of_session = (loose node free).1 };
  words = words_listed;
  sessions = sessions_listed;
}

free_other : {T : Type 0} (c : Columns T) (node : ℕ) → IsSome (get_or c.items node None) → (m : ℕ) → get_or c.items m None ≡ None → m ≢ node
free_other c node taken m free same = true≢false (sym taken ∙ ap (λ k. is_some (get_or c.items k None)) (sym same) ∙ ap is_some free)

-- a change of a list, at a taken node, keeps the pool's invariant
pub relinked-pool : {T : Type 0} (c : Columns T) (first : Option ℕ) (family : Family) (links' : List Link) (old new : List ℕ) (node : ℕ) → IsPool c first → Relinks (links_of c family) links' old new node → IsSome (get_or c.items node None) → IsPool (with_links c family links') first
relinked-pool c first OfWord links' old new node pool re taken =
    with_columns c first links' c.of_session pool (re.sized ∙ pool.of_word_length) pool.of_session_length
    (λ m free. (relinks-none c.of_word links' old new node re m (free_other c node taken m free) (pool.loose m free).of_word, (pool.loose m free).of_session))
    (relinks-listed c.of_word links' old new node re pool.words) pool.sessions
relinked-pool c first OfSession links' old new node pool re taken =
    with_columns c first c.of_word links' pool pool.of_word_length (re.sized ∙ pool.of_session_length)
    (λ m free. ((pool.loose m free).of_word, relinks-none c.of_session links' old new node re m (free_other c node taken m free) (pool.loose m free).of_session))
    pool.words (relinks-listed c.of_session links' old new node re pool.sessions)

module _ {T : Type 0} (p p' : Contents T) (family : Family) (links links' : List Link) (e : lists_of p family ≡ lists links) (e' : lists_of p' family ≡ lists links') (listed : AllListed links) (old new : List ℕ) (node : ℕ) (re : Relinks links links' old new node) where
  -- the changed chain has the new list
  pub changed-list : (chain : Chain) → chain.first ≡ first_or None new → list_of p' family chain ≡ new
  changed-list chain f = ap (λ ls. list_from ls chain.first) e' ∙ ap (list_from (lists links')) f ∙ list_from-whole links' new re.after

  pub changed-chain : (chain : Chain) → chain.first ≡ first_or None new → chain.last ≡ last_or None new → chain.length ≡ length new → IsChain p' family chain
  changed-chain chain f l n =
      let list = changed-list chain f in
      record {
        first = f ∙ ap (first_or None) (sym list);
        last = l ∙ ap (last_or None) (sym list);
        counted = n ∙ ap length (sym list);
      }

  -- each other chain keeps its list
  pub changed-others : (chain : Chain) → chain.first ≡ first_or None old → KeepsOtherChains p p' family chain
  changed-others chain f other apart is =
      let list = ap (λ ls. list_from ls other.first) e in
      let begins : other.first ≡ first_or None (list_from (lists links) other.first) = is.first ∙ ap (first_or None) list in
      let stays = relinks-list links links' old new node re listed (list_from (lists links) other.first) (list_from_is_whole links listed other.first) (λ h. sym begins ∙ apart (begins ∙ h ∙ sym f)) in
      let kept : list_of p' family other ≡ list_of p family other = ap (λ ls. list_from ls other.first) e' ∙ ap (list_from (lists links')) begins ∙ stays ∙ sym list in (
        record {
          first = is.first ∙ ap (first_or None) (sym kept);
          last = is.last ∙ ap (last_or None) (sym kept);
          counted = is.counted ∙ ap length (sym kept);
        },
        kept,
      )

  -- each other node is on a list exactly if it was before
  pub changed-nodes : KeepsOtherNodes p p' family node
  changed-nodes m other = (
    λ on.
        let stays = relinks-on links links' old new node re listed m other (on_among (lists links) m (subst (λ ls. IsOnOne ls m) e on)) in
        subst (λ ls. IsOnOne ls m) (sym e') (among_on (lists links') m stays),
    λ on.
        let stood = on-relinks links links' old new node re listed m other (on_among (lists links') m (subst (λ ls. IsOnOne ls m) e' on)) in
        subst (λ ls. IsOnOne ls m) (sym e) (among_on (lists links) m stood),
  )

  -- a node that has left the list is on no list
  pub changed-off : (IsNodeAmong node new → ⊥) → IsOff p' family node
  changed-off off on =
      let found = on_is_linked links' (relinks-listed links links' old new node re listed) node _ (on_among (lists links') node (subst (λ ls. IsOnOne ls node) e' on)).1 in
      none_some (sym (re.gone off) ∙ found.1)
    where
      none_some : {P : Type 0} {v : Neighbours} → None ≡ Some v → P
      none_some h = cc
