-- The clauses of `push_back` and `unlink`, one by one.
use Rattle.std.proofs.Common.{◌≡◌, ℕ, ◌+◌, ◌-◌, ◌⊎◌, List, [], ◌∷◌, ◌++◌, length, get_or, set, Bool, true, false, not, Option, Some, None, IsSome, is_some, sym, ap, ◌∙◌, inl, inr, arith, subst, true≢false, length-append}
use Rattle.std.specs.Prelude.{Contains}
use Rattle.std.specs.List.{last_or}
use Rattle.fe_pool.specs.declared.chain.Chain.{Chain}
use Rattle.fe_pool.specs.declared.family.Family.{Family}
use Rattle.fe_pool.specs.declared.neighbours.Neighbours.{Neighbours}
use Rattle.fe_pool.specs.Pool.{first_or, list_of, without, IsChain, IsOff, ChangesList}
use Rattle.fe_pool.specs.Columns.{Columns, link_at, links_of, with_links, IsLinked}
use Rattle.fe_pool.specs.within.Runs.{previous_of, next_of, with_next, with_previous, IsPool, contents}
use Rattle.fe_pool.proofs.AmongLemmas.{among-split, among-Contains, last-some, last_or-append}
use Rattle.fe_pool.proofs.ChainLemmas.{IsChanged, is-pool, is-list, is-chain, is-others, is-nodes, is-off, is-family, is-items, items-step, push-changed, split-link, unlink-changed, unlink-previous, unlink-next, unlink-taken, unlink-without, unlink-gone, unlink-count}

-- a value chosen by a test is one of the two
abbrev pub IsChoice : Bool → Option ℕ → Option ℕ → Option ℕ → Type 0
IsChoice test one other value = ((test ≡ true) × (value ≡ one)) ⊎ ((test ≡ false) × (value ≡ other))

-- the choice by `is_none`, for `None` and for `Some`
chosen_none : (o : Option ℕ) (test : Bool) (one other value : Option ℕ) → o ≡ None → is_some o ≡ not test → IsChoice test one other value → value ≡ one
chosen_none o test one other value none tested (inl here) = here.1
chosen_none o test one other value none tested (inr there) = absurd (true≢false (sym (tested ∙ ap not there.0) ∙ ap is_some none))

chosen_some : (o : Option ℕ) (test : Bool) (one other value : Option ℕ) (x : ℕ) → o ≡ Some x → is_some o ≡ not test → IsChoice test one other value → value ≡ other
chosen_some o test one other value x some tested (inl here) = absurd (true≢false (sym (ap is_some some) ∙ tested ∙ ap not here.0))
chosen_some o test one other value x some tested (inr there) = there.1

-- the first node after one is appended
push-first : (xs : List ℕ) (n : ℕ) (first first' : Option ℕ) (test : Bool) → first ≡ first_or None xs → is_some first ≡ not test → IsChoice test (Some n) first first' → first' ≡ first_or None (xs ++ n ∷ [])
push-first [] n first first' test f tested choice = chosen_none first test (Some n) first first' f tested choice
push-first (x ∷ xs) n first first' test f tested choice = chosen_some first test (Some n) first first' x f tested choice ∙ f

-- the ends after a node is removed
unlink-first : (xs ys : List ℕ) (n : ℕ) (previous next first first' : Option ℕ) (test : Bool) → previous ≡ last_or None xs → next ≡ first_or None ys → first ≡ first_or None (xs ++ n ∷ ys) → is_some previous ≡ not test → IsChoice test next first first' → first' ≡ first_or None (xs ++ ys)
unlink-first [] ys n previous next first first' test p q f tested choice = chosen_none previous test next first first' p tested choice ∙ q
unlink-first (x ∷ xs) ys n previous next first first' test p q f tested choice =
    let last = last-some x xs in chosen_some previous test next first first' last.0 (p ∙ last.1) tested choice ∙ f

unlink-last : (xs ys : List ℕ) (n : ℕ) (previous next last last' : Option ℕ) (test : Bool) → previous ≡ last_or None xs → next ≡ first_or None ys → last ≡ last_or None (xs ++ n ∷ ys) → is_some next ≡ not test → IsChoice test previous last last' → last' ≡ last_or None (xs ++ ys)
unlink-last xs [] n previous next last last' test p q l tested choice = chosen_none next test previous last last' q tested choice ∙ p ∙ sym (last_or-append None xs [])
unlink-last xs (y ∷ ys) n previous next last last' test p q l tested choice =
    chosen_some next test previous last last' y q tested choice
    ∙ l
    ∙ last_or-append None xs (n ∷ y ∷ ys)
    ∙ sym (last_or-append None xs (y ∷ ys))

returned : {T : Type 0} (c c' : Columns T) (first : Option ℕ) (pool : IsPool c first) (family : Family) (chain chain' : Chain) (new : List ℕ) (n : ℕ) → IsChanged c c' family chain new n → IsChain (contents c) family chain → chain'.first ≡ first_or None new → chain'.last ≡ last_or None new → chain'.length ≡ length new → ChangesList (contents c) (contents c') family chain chain' new n
returned c c' first pool family chain chain' new n change is f l k = record {
  list = is-list c c' first pool family chain new n change chain' f;
  chain = is-chain c c' first pool family chain new n change chain' f l k;
  other_chains = is-others c c' first pool family chain new n change is;
  other_nodes = is-nodes c c' first pool family chain new n change;
  other_family = is-family c c' first pool family chain new n change;
  items = is-items c c' first pool family chain new n change;
}

module _ {T : Type 0} (c : Columns T) (first : Option ℕ) (pool : IsPool c first) (family : Family) (chain : Chain) (is : IsChain (contents c) family chain) (n : ℕ) where
  module _ (taken : IsSome (get_or c.items n None)) (off : IsOff (contents c) family n) (c1 c2 : Columns T) (one : c1 ≡ with_links c family (set (links_of c family) n (Some (record { previous = chain.last; next = None })))) (two : c2 ≡ with_links c1 family (with_next (links_of c1 family) chain.last (Some n))) where
    pub push-pool : IsPool c2 first
    push-pool = is-pool c c2 first pool family chain _ n (push-changed c first pool family chain is n taken off c1 c2 one two) taken

    pub push-returned : (first' : Option ℕ) (test : Bool) → is_some chain.first ≡ not test → IsChoice test (Some n) chain.first first' → ChangesList (contents c) (contents c2) family chain (record { first = first'; last = Some n; length = chain.length + 1 }) (list_of (contents c) family chain ++ n ∷ []) n
    push-returned first' test tested choice =
        returned c c2 first pool family chain _ _ n (push-changed c first pool family chain is n taken off c1 c2 one two) is
        (push-first (list_of (contents c) family chain) n chain.first first' test is.first tested choice)
        (sym (last_or-append None (list_of (contents c) family chain) (n ∷ [])))
        counted
      where
        counted : chain.length + 1 ≡ length (list_of (contents c) family chain ++ n ∷ [])
        counted = let size = length-append (list_of (contents c) family chain) (n ∷ []) in let before = is.counted in omega arith

  module _ (on : Contains (list_of (contents c) family chain) n) where
    before : List ℕ
    before = (among-split n _ (among-Contains n _ on)).0

    behind : List ℕ
    behind = (among-split n _ (among-Contains n _ on)).1

    split : list_of (contents c) family chain ≡ before ++ n ∷ behind
    unfolding before behind
    split = (among-split n _ (among-Contains n _ on)).2

    pub unlink-linked : IsSome (link_at (links_of c family) n)
    unlink-linked = ap is_some (split-link c first pool family chain is n before behind split)

    pub unlink-item : IsSome (get_or c.items n None)
    unlink-item = unlink-taken c first pool family chain is n before behind split

    module _ (v : Neighbours) (link : Some v ≡ link_at (links_of c family) n) where
      previous_is : v.previous ≡ last_or None before
      previous_is = ap previous_of (link ∙ split-link c first pool family chain is n before behind split)

      next_is : v.next ≡ first_or None behind
      next_is = ap next_of (link ∙ split-link c first pool family chain is n before behind split)

      pub unlink-before : (x : ℕ) → v.previous ≡ Some x → IsLinked c family x
      unlink-before = unlink-previous c first pool family chain is n before behind split v.previous previous_is

      module _ (c1 : Columns T) (one : c1 ≡ with_links c family (with_next (links_of c family) v.previous v.next)) where
        pub unlink-behind : (x : ℕ) → v.next ≡ Some x → IsLinked c1 family x
        unlink-behind = unlink-next c first pool family chain is n before behind split v.previous v.next c1 next_is one

        module _ (c2 : Columns T) (two : c2 ≡ with_links c1 family (with_previous (links_of c1 family) v.next v.previous)) where
          pub unlink-still : IsSome (get_or c2.items n None)
          unlink-still = subst (λ items. IsSome (get_or items n None)) (sym (items-step c1 c2 family _ two ∙ items-step c c1 family _ one)) unlink-item

          module _ (c3 : Columns T) (three : c3 ≡ with_links c2 family (set (links_of c2 family) n None)) where
            changed : IsChanged c c3 family chain (before ++ behind) n
            changed = unlink-changed c first pool family chain is n before behind split v.previous v.next c1 c2 c3 previous_is next_is one two three

            pub unlink-pool : IsPool c3 first
            unlink-pool = is-pool c c3 first pool family chain _ n changed unlink-item

            pub unlink-off : IsOff (contents c3) family n
            unlink-off = is-off c c3 first pool family chain _ n changed (unlink-gone c first pool family chain is n before behind split)

            pub unlink-returned : (first' last' : Option ℕ) (test test' : Bool) → is_some v.previous ≡ not test → IsChoice test v.next chain.first first' → is_some v.next ≡ not test' → IsChoice test' v.previous chain.last last' → ChangesList (contents c) (contents c3) family chain (record { first = first'; last = last'; length = chain.length - 1 }) (without (list_of (contents c) family chain) n) n
            unlink-returned first' last' test test' tested choice tested' choice' =
                subst (λ new. ChangesList (contents c) (contents c3) family chain (record { first = first'; last = last'; length = chain.length - 1 }) new n)
                (sym (unlink-without c first pool family chain is n before behind split))
                (
                returned c c3 first pool family chain _ _ n changed is
                (unlink-first before behind n v.previous v.next chain.first first' test previous_is next_is (is.first ∙ ap (first_or None) split) tested choice)
                (unlink-last before behind n v.previous v.next chain.last last' test' previous_is next_is (is.last ∙ ap (last_or None) split) tested' choice')
                (let counted = unlink-count c first pool family chain is n before behind split in omega arith)
                )

            pub unlink-shorter : (chain.length - 1) + 1 ≡ chain.length
            unlink-shorter = let counted = unlink-count c first pool family chain is n before behind split in omega arith
