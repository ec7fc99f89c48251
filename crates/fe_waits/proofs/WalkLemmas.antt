-- The walk along a session's list, node by node.
use Rattle.std.proofs.Common.{◌≡◌, ℕ, ◌≤◌, ◌+◌, inl, List, [], ◌∷◌, ◌++◌, length, slice_get, Option, Some, None, refl, sym, ap, subst, ◌∙◌, arith, append_assoc, append-nil, length-append}
use Rattle.std.specs.Prelude.{Contains}
use Rattle.std.specs.Ordering.{nat_cmp}
use Rattle.std.specs.FinMap.{FinMap}
use Rattle.fe_pool.specs.declared.chain.Chain.{Chain}
use Rattle.fe_pool.specs.declared.family.Family.TheVariants.{OfSession}
use Rattle.fe_pool.specs.Pool.{Contents, first_or, list_of, IsOn, IsNext}
use Rattle.fe_pool.specs.within.Runs.{IsNodeAmong}
use Rattle.fe_pool.proofs.AmongLemmas.{among-append_right, Contains-among, among-Contains}
use Rattle.fe_waits.specs.declared.row.Row.{Row}
use Rattle.fe_waits.specs.within.Inner.{row_in, IsKept}
use Rattle.fe_waits.proofs.MemberLemmas.{none_some, some_same}

-- this many nodes of the slot's list have been visited, and this is the next
pub record IsWalk (pool : Contents Row) (sessions : List Chain) (slot : ℕ) (at : Option ℕ) (steps end : ℕ) : Type 0 where
  pub chain : Chain
  pub is_chain : slice_get sessions slot ≡ Some chain
  pub whole : end ≡ length (list_of pool OfSession chain)
  pub before : List ℕ
  pub rest : List ℕ
  pub split : list_of pool OfSession chain ≡ before ++ rest
  pub next : at ≡ first_or None rest
  pub counted : length before ≡ steps

first-of : (rest : List ℕ) (node : ℕ) → first_or None rest ≡ Some node → (after : List ℕ) × (rest ≡ node ∷ after)
first-of [] node e = none_some e
first-of (x ∷ after) node e = (after, ap (λ y. y ∷ after) (some_same e))

none-left : (rest : List ℕ) → first_or None rest ≡ None → rest ≡ []
none-left [] e = refl
none-left (x ∷ after) e = none_some (sym e)

module _ (pool : Contents Row) (sessions : List Chain) (words : FinMap nat_cmp (List Chain)) (waiting : ℕ) (kept : IsKept pool sessions words waiting) (slot : ℕ) where
  abbrev pub walk-begun : (chain : Chain) → slice_get sessions slot ≡ Some chain → IsWalk pool sessions slot chain.first 0 chain.length
  walk-begun chain at = record {
    chain = chain;
    is_chain = at;
    whole = (kept.by_session.chains slot chain at).counted;
    before = [];
    rest = list_of pool OfSession chain;
    split = refl;
    next = (kept.by_session.chains slot chain at).first;
    counted = refl;
  }

  module _ (at : Option ℕ) (steps end : ℕ) (walk : IsWalk pool sessions slot at steps end) where
    -- at the end all nodes have been visited
    pub walk-ended : at ≡ None → list_of pool OfSession walk.chain ≡ walk.before
    walk-ended none = walk.split ∙ ap (λ l. walk.before ++ l) (none-left walk.rest (sym walk.next ∙ none)) ∙ append-nil walk.before

    pub walk-all : end ≤ steps → list_of pool OfSession walk.chain ≡ walk.before
    walk-all past = walk.split ∙ ap (λ l. walk.before ++ l) (by_rest walk.rest (ap length walk.split ∙ length-append walk.before walk.rest)) ∙ append-nil walk.before
      where
        by_rest : (rest : List ℕ) → length (list_of pool OfSession walk.chain) ≡ length walk.before + length rest → rest ≡ []
        by_rest [] e = refl
        by_rest (x ∷ rest) e = absurd (omega (arith, walk.whole, walk.counted))

    -- each request of the slot has a node on the list
    pub walk-has : (node : ℕ) (row : Row) → row_in pool.items node ≡ Some row → row.slot ≡ slot → IsNodeAmong node (list_of pool OfSession walk.chain)
    walk-has node row is in_slot =
        let on = kept.by_session.listed node row is in
        let same : on.0 ≡ walk.chain = some_same (sym on.1 ∙ ap (slice_get sessions) in_slot ∙ walk.is_chain) in
        among-Contains node _ (subst (λ c. Contains (list_of pool OfSession c) node) same on.2)

    -- the current node
    module _ (node : ℕ) (here : at ≡ Some node) where
      pub walk-after : (after : List ℕ) × (walk.rest ≡ node ∷ after)
      walk-after = first-of walk.rest node (sym walk.next ∙ here)

      pub walk-split : list_of pool OfSession walk.chain ≡ walk.before ++ node ∷ walk-after.0
      walk-split = walk.split ∙ ap (λ l. walk.before ++ l) walk-after.1

      contains : Contains (list_of pool OfSession walk.chain) node
      contains = Contains-among node _ (subst (IsNodeAmong node) (sym walk-split) (among-append_right node walk.before (node ∷ walk-after.0) (inl refl)))

      pub walk-on : IsOn pool OfSession node
      walk-on = (walk.chain.first, contains)

      pub walk-row : (row : Row) × (row_in pool.items node ≡ Some row) × (row.slot ≡ slot)
      walk-row = kept.by_session.belongs slot walk.chain node walk.is_chain contains

      abbrev pub walk-next : (next : Option ℕ) → IsNext pool OfSession node next → IsWalk pool sessions slot next (steps + 1) end
      walk-next next goes = record {
        chain = walk.chain;
        is_chain = walk.is_chain;
        whole = walk.whole;
        before = walk.before ++ node ∷ [];
        rest = walk-after.0;
        split = walk-split ∙ sym (append_assoc walk.before (node ∷ []) walk-after.0);
        next = goes walk.chain.first walk.before walk-after.0 walk-split;
        counted = length-append walk.before (node ∷ []) ∙ ap (λ n. n + 1) walk.counted;
      }
