-- What the two changes of a chain's list do to a pool and to the chain.
use Rattle.std.proofs.Common.{◌≡◌, ℕ, ◌+◌, ◌^◌, ◌<◌, List, [], ◌∷◌, ◌++◌, length, get_or, set, Option, Some, None, IsSome, is_some, refl, sym, ap, ◌∙◌, inl, inr, arith, subst, length-append}
use Rattle.std.specs.List.{last_or}
use Rattle.std.proofs.lemmas.Bool.{cases_eq}
use Rattle.std.proofs.lemmas.List.{get_or-set_same, get_or-set_other}
use Rattle.fe_pool.specs.declared.chain.Chain.{Chain}
use Rattle.fe_pool.specs.declared.family.Family.{Family}
use Rattle.fe_pool.specs.declared.neighbours.Neighbours.{Neighbours}
use Rattle.fe_pool.specs.Pool.{first_or, list_from, lists_of, list_of, without, IsChain, IsOff, KeepsOtherChains, KeepsOtherNodes, KeepsOtherFamily}
use Rattle.fe_pool.specs.Columns.{Columns, Link, link_at, links_of, with_links, IsLinked}
use Rattle.fe_pool.specs.within.Runs.{IsNodeAmong, IsWholeRun, lists, with_next, with_previous, IsPool, contents}
use Rattle.fe_pool.proofs.AmongLemmas.{among-append_left, among-append_right, among-append_cases, different-middle, without-middle}
use Rattle.fe_pool.proofs.RunLemmas.{run-linked, whole-different, whole-length}
use Rattle.fe_pool.proofs.ListLemmas.{Relinks, list_from_is_whole}
use Rattle.fe_pool.proofs.ChangeLemmas.{first_among, last_among, pushed, push-relinks, unlinked, unlink-link, unlink-relinks}
use Rattle.fe_pool.proofs.PoolLemmas.{pool-listed, pool-sized, pool-loose, pool-off, item_cases, not_some, some-below, lists_of-contents}
use Rattle.fe_pool.proofs.RelinkLemmas.{links_of-with_links, with_links-with_links, items-with_links, other_family, relinked-pool, changed-list, changed-chain, changed-others, changed-nodes, changed-off}

-- one more change of the same family's neighbours
pub with_links-step : {T : Type 0} (c c1 c2 : Columns T) (family : Family) (links : List Link) (f : List Link → List Link) → c1 ≡ with_links c family links → c2 ≡ with_links c1 family (f (links_of c1 family)) → c2 ≡ with_links c family (f links)
with_links-step c c1 c2 family links f one two =
    two
    ∙ ap (λ d. with_links d family (f (links_of d family))) one
    ∙ with_links-with_links c family links _
    ∙ ap (λ ls. with_links c family (f ls)) (links_of-with_links c family links)

-- from `c` to `c'` the list of the chain becomes `new`, and `n` may come or go
pub record IsChanged {T : Type 0} (c c' : Columns T) (family : Family) (chain : Chain) (new : List ℕ) (n : ℕ) : Type 0 where
  pub links : List Link
  pub is : c' ≡ with_links c family links
  pub relinks : Relinks (links_of c family) links (list_of (contents c) family chain) new n

module _ {T : Type 0} (c c' : Columns T) (first : Option ℕ) (pool : IsPool c first) (family : Family) (chain : Chain) (new : List ℕ) (n : ℕ) (change : IsChanged c c' family chain new n) where
  lists_after : lists_of (contents c') family ≡ lists change.links
  lists_after = ap (λ d. lists_of (contents d) family) change.is ∙ lists_of-contents (with_links c family change.links) family ∙ ap lists (links_of-with_links c family change.links)

  pub is-pool : IsSome (get_or c.items n None) → IsPool c' first
  is-pool taken = subst (λ d. IsPool d first) (sym change.is) (relinked-pool c first family change.links _ new n pool change.relinks taken)

  pub is-list : (chain' : Chain) → chain'.first ≡ first_or None new → list_of (contents c') family chain' ≡ new
  is-list = changed-list (contents c) (contents c') family _ change.links (lists_of-contents c family) lists_after (pool-listed c first pool family) _ new n change.relinks

  pub is-chain : (chain' : Chain) → chain'.first ≡ first_or None new → chain'.last ≡ last_or None new → chain'.length ≡ length new → IsChain (contents c') family chain'
  is-chain = changed-chain (contents c) (contents c') family _ change.links (lists_of-contents c family) lists_after (pool-listed c first pool family) _ new n change.relinks

  pub is-others : IsChain (contents c) family chain → KeepsOtherChains (contents c) (contents c') family chain
  is-others is = changed-others (contents c) (contents c') family _ change.links (lists_of-contents c family) lists_after (pool-listed c first pool family) _ new n change.relinks chain is.first

  pub is-nodes : KeepsOtherNodes (contents c) (contents c') family n
  is-nodes = changed-nodes (contents c) (contents c') family _ change.links (lists_of-contents c family) lists_after (pool-listed c first pool family) _ new n change.relinks

  pub is-off : (IsNodeAmong n new → ⊥) → IsOff (contents c') family n
  is-off = changed-off (contents c) (contents c') family _ change.links (lists_of-contents c family) lists_after (pool-listed c first pool family) _ new n change.relinks

  pub is-family : KeepsOtherFamily (contents c) (contents c') family
  is-family = subst (λ d. KeepsOtherFamily (contents c) (contents d) family) (sym change.is) (other_family c family change.links)

  pub is-items : c'.items ≡ c.items
  is-items = ap (λ d. d.items) change.is ∙ items-with_links c family change.links

-- a node that has neighbours still has some after a write of neighbours
pub linked-set : (links : List Link) (n m : ℕ) (v : Neighbours) → IsSome (link_at links m) → IsSome (link_at (set links n (Some v)) m)
linked-set links n m v some =
    elim (cases_eq m n) as (λ _. IsSome (link_at (set links n (Some v)) m)) [
      | inl same ↦ ap is_some (ap (link_at (set links n (Some v))) same ∙ get_or-set_same links n (Some v) None (subst (λ k. k < length links) same (some-below links m some)))
      | inr other ↦ ap is_some (get_or-set_other links n m (Some v) None other) ∙ some
    ]

pub linked-with_next : (links : List Link) (at next : Option ℕ) (m : ℕ) → IsSome (link_at links m) → IsSome (link_at (with_next links at next) m)
linked-with_next links None next m some = some
linked-with_next links (Some a) next m some = linked-set links a m _ some

module _ {T : Type 0} (c : Columns T) (first : Option ℕ) (pool : IsPool c first) (family : Family) (chain : Chain) (is : IsChain (contents c) family chain) where
  pub chain-whole : IsWholeRun (links_of c family) (list_of (contents c) family chain)
  chain-whole = subst (IsWholeRun (links_of c family)) (sym (ap (λ ls. list_from ls chain.first) (lists_of-contents c family))) (list_from_is_whole (links_of c family) (pool-listed c first pool family) chain.first)

  -- a node of the chain's list is taken and has neighbours
  pub member-linked : (n : ℕ) → IsNodeAmong n (list_of (contents c) family chain) → IsLinked c family n
  member-linked n i =
      let found = run-linked (links_of c family) None _ None n chain-whole i in
      record {
        taken = elim (item_cases (get_or c.items n None)) as (λ _. IsSome (get_or c.items n None)) [
          | inl free ↦ absurd (not_some (ap is_some found.1) (pool-loose c first pool family n free))
          | inr some ↦ some
        ];
        linked = ap is_some found.1;
      }

  -- and it still has, if nodes keep having neighbours
  pub linked-stays : (c' : Columns T) (links : List Link) (n : ℕ) → c' ≡ with_links c family links → IsLinked c family n → IsSome (link_at links n) → IsLinked c' family n
  linked-stays c' links n e linked some = record {
    taken = subst (λ items. IsSome (get_or items n None)) (sym (ap (λ d. d.items) e ∙ items-with_links c family links)) linked.taken;
    linked = subst (λ ls. IsSome (link_at ls n)) (sym (ap (λ d. links_of d family) e ∙ links_of-with_links c family links)) some;
  }

  -- a node is appended
  module _ (n : ℕ) (taken : IsSome (get_or c.items n None)) (off : IsOff (contents c) family n) where
    pushed_relinks : Relinks (links_of c family) (pushed (links_of c family) (list_of (contents c) family chain) n) (list_of (contents c) family chain) (list_of (contents c) family chain ++ n ∷ []) n
    pushed_relinks =
        push-relinks (links_of c family) (list_of (contents c) family chain) n
        (subst (λ k. n < k) (sym (pool-sized c first pool family)) (some-below c.items n taken))
        (pool-off c first pool family n off)
        chain-whole

    pub push-changed : (c1 c2 : Columns T) → c1 ≡ with_links c family (set (links_of c family) n (Some (record { previous = chain.last; next = None }))) → c2 ≡ with_links c1 family (with_next (links_of c1 family) chain.last (Some n)) → IsChanged c c2 family chain (list_of (contents c) family chain ++ n ∷ []) n
    push-changed c1 c2 one two = record {
      links = pushed (links_of c family) (list_of (contents c) family chain) n;
      is = with_links-step c c1 c2 family _ (λ ls. with_next ls chain.last (Some n)) one two
          ∙ ap (λ o. with_links c family (with_next (set (links_of c family) n (Some (record { previous = o; next = None }))) o (Some n))) is.last;
      relinks = pushed_relinks;
    }

    pub push-linked : (c1 : Columns T) → c1 ≡ with_links c family (set (links_of c family) n (Some (record { previous = chain.last; next = None }))) → (x : ℕ) → chain.last ≡ Some x → IsLinked c1 family x
    push-linked c1 one x e =
        let here = member-linked x (last_among _ x (sym is.last ∙ e)) in
        linked-stays c1 _ x one here (linked-set (links_of c family) n x _ here.linked)

    pub push-fits : chain.length + 1 < 2 ^ 32
    push-fits =
        let bound = whole-length _ _ pushed_relinks.after in
        let size = length-append (list_of (contents c) family chain) (n ∷ []) in
        let sized = pushed_relinks.sized in
        let all = pool-sized c first pool family in
        let counted = is.counted in
        let fits = pool.fits in
        omega arith

  -- a node is removed
  module _ (n : ℕ) (xs ys : List ℕ) (split : list_of (contents c) family chain ≡ xs ++ n ∷ ys) where
    split-whole : IsWholeRun (links_of c family) (xs ++ n ∷ ys)
    split-whole = subst (IsWholeRun (links_of c family)) split chain-whole

    pub split-link : link_at (links_of c family) n ≡ Some (record { previous = last_or None xs; next = first_or None ys })
    split-link = unlink-link (links_of c family) xs ys n split-whole

    pub split-member : (x : ℕ) → IsNodeAmong x (xs ++ n ∷ ys) → IsLinked c family x
    split-member x i = member-linked x (subst (IsNodeAmong x) (sym split) i)

    pub unlink-changed : (previous next : Option ℕ) (c1 c2 c3 : Columns T) → previous ≡ last_or None xs → next ≡ first_or None ys → c1 ≡ with_links c family (with_next (links_of c family) previous next) → c2 ≡ with_links c1 family (with_previous (links_of c1 family) next previous) → c3 ≡ with_links c2 family (set (links_of c2 family) n None) → IsChanged c c3 family chain (xs ++ ys) n
    unlink-changed previous next c1 c2 c3 p q one two three = record {
      links = unlinked (links_of c family) (last_or None xs) (first_or None ys) n;
      is = with_links-step c c2 c3 family _ (λ ls. set ls n None) (with_links-step c c1 c2 family _ (λ ls. with_previous ls next previous) one two) three
          ∙ ap (λ o. with_links c family (unlinked (links_of c family) o next n)) p
          ∙ ap (λ o. with_links c family (unlinked (links_of c family) (last_or None xs) o n)) q;
      relinks = subst (λ old. Relinks (links_of c family) (unlinked (links_of c family) (last_or None xs) (first_or None ys) n) old (xs ++ ys) n) (sym split) (unlink-relinks (links_of c family) xs ys n split-whole);
    }

    -- the nodes before and after have neighbours at each step
    pub unlink-previous : (previous : Option ℕ) → previous ≡ last_or None xs → (x : ℕ) → previous ≡ Some x → IsLinked c family x
    unlink-previous previous p x e = split-member x (among-append_left x xs (n ∷ ys) (last_among xs x (sym p ∙ e)))

    pub unlink-next : (previous next : Option ℕ) (c1 : Columns T) → next ≡ first_or None ys → c1 ≡ with_links c family (with_next (links_of c family) previous next) → (x : ℕ) → next ≡ Some x → IsLinked c1 family x
    unlink-next previous next c1 q one x e =
        let here = split-member x (among-append_right x xs (n ∷ ys) (inr (first_among ys x (sym q ∙ e)))) in
        linked-stays c1 _ x one here (linked-with_next (links_of c family) previous next x here.linked)

    pub unlink-taken : IsSome (get_or c.items n None)
    unlink-taken = (split-member n (among-append_right n xs (n ∷ ys) (inl refl))).taken

    pub unlink-without : without (list_of (contents c) family chain) n ≡ xs ++ ys
    unlink-without = ap (λ zs. without zs n) split ∙ without-middle xs ys n (whole-different (links_of c family) (xs ++ n ∷ ys) split-whole)

    pub unlink-gone : IsNodeAmong n (xs ++ ys) → ⊥
    unlink-gone i =
        let middle = different-middle n xs ys (whole-different (links_of c family) (xs ++ n ∷ ys) split-whole) in
        elim (among-append_cases n xs ys i) as (λ _. ⊥) [ inl left ↦ middle.0 left | inr right ↦ middle.1 right ]

    pub unlink-count : chain.length ≡ length (xs ++ ys) + 1
    unlink-count = is.counted ∙ ap length split ∙ counted
      where
        counted : length (xs ++ n ∷ ys) ≡ length (xs ++ ys) + 1
        counted = let long = length-append xs (n ∷ ys) in let short = length-append xs ys in omega arith

-- a change of one family's neighbours keeps the items
pub items-step : {T : Type 0} (c c' : Columns T) (family : Family) (links : List Link) → c' ≡ with_links c family links → c'.items ≡ c.items
items-step c c' family links e = ap (λ d. d.items) e ∙ items-with_links c family links
