-- The search along a session's list for the request with a number.
use Rattle.std.proofs.Common.{◌≡◌, ◌≢◌, ℕ, ◌≤◌, ◌+◌, inl, inr, List, [], ◌∷◌, slice_get, Option, Some, None, refl, sym, ap, subst, ◌∙◌}
use Rattle.std.specs.Option.{option_map}
use Rattle.std.specs.Ordering.{nat_cmp}
use Rattle.std.specs.FinMap.{FinMap, get}
use Rattle.fe_pool.specs.declared.chain.Chain.{Chain}
use Rattle.fe_pool.specs.declared.family.Family.TheVariants.{OfSession}
use Rattle.fe_pool.specs.Pool.{Contents, list_of, IsNext}
use Rattle.fe_pool.specs.within.Runs.{IsNodeAmong}
use Rattle.fe_pool.proofs.AmongLemmas.{among-append_cases}
use Rattle.fe_waits.specs.declared.row.Row.{Row}
use Rattle.fe_waits.specs.Waiting.{WaitingAccess, key_of, waiting_access_of, row_at}
use Rattle.fe_waits.specs.within.Inner.{members_of, row_in, IsKept}
use Rattle.fe_waits.proofs.MemberLemmas.{some_same, members-node, members-row}
use Rattle.fe_waits.proofs.WalkLemmas.{IsWalk, walk-begun, walk-ended, walk-all, walk-has, walk-row, walk-next}

-- no visited node has the number
pub record IsSearched (pool : Contents Row) (sessions : List Chain) (slot number : ℕ) (at : Option ℕ) (steps end : ℕ) : Type 0 where
  pub walk : IsWalk pool sessions slot at steps end
  pub missed : (node : ℕ) (row : Row) → IsNodeAmong node walk.before → row_in pool.items node ≡ Some row → row.number ≢ number

module _ (pool : Contents Row) (sessions : List Chain) (words : FinMap nat_cmp (List Chain)) (waiting : ℕ) (kept : IsKept pool sessions words waiting) (slot number : ℕ) where
  pub searched-none_yet : (chain : Chain) → slice_get sessions slot ≡ Some chain → IsSearched pool sessions slot number chain.first 0 chain.length
  searched-none_yet chain at = record { walk = walk-begun pool sessions words waiting kept slot chain at; missed = λ node row i. absurd i }

  module _ (at : Option ℕ) (steps end : ℕ) (search : IsSearched pool sessions slot number at steps end) where
    -- at the end of the list the number is absent
    absent : list_of pool OfSession search.walk.chain ≡ search.walk.before → get (members_of pool.items) (slot, number) ≡ None
    absent all = by_answer (get (members_of pool.items) (slot, number)) refl
      where
        by_answer : (o : Option WaitingAccess) → get (members_of pool.items) (slot, number) ≡ o → get (members_of pool.items) (slot, number) ≡ None
        by_answer None e = e
        by_answer (Some waiter) e =
            let found = members-node pool.items (slot, number) waiter e in
            let among = walk-has pool sessions words waiting kept slot at steps end search.walk found.0 found.1 found.2 (ap (λ p. p.0) found.3) in
            absurd (search.missed found.0 found.1 (subst (IsNodeAmong found.0) all among) found.2 (ap (λ p. p.1) found.3))

    pub searched-end : at ≡ None → get (members_of pool.items) (slot, number) ≡ None
    searched-end none = absent (walk-ended pool sessions words waiting kept slot at steps end search.walk none)

    pub searched-all : end ≤ steps → get (members_of pool.items) (slot, number) ≡ None
    searched-all past = absent (walk-all pool sessions words waiting kept slot at steps end search.walk past)

    -- the current node
    module _ (node : ℕ) (here : at ≡ Some node) where
      -- it has the number
      pub searched-found : (row : Row) → row_in pool.items node ≡ Some row → row.number ≡ number → row_in pool.items node ≡ row_at (members_of pool.items) slot number
      searched-found row is same =
          let found = walk-row pool sessions words waiting kept slot at steps end search.walk node here in
          let rows : found.0 ≡ row = some_same (sym found.1 ∙ is) in
          let in_slot : row.slot ≡ slot = ap (λ (r : Row). r.slot) (sym rows) ∙ found.2 in
          is ∙ sym (own row (members-row pool.items kept.different node row is)) ∙ (λ i. row_at (members_of pool.items) (in_slot i) (same i))
        where
          own : (row : Row) → get (members_of pool.items) (key_of row) ≡ Some (waiting_access_of row) → row_at (members_of pool.items) row.slot row.number ≡ Some row
          own row e = ap (option_map (λ (w : WaitingAccess). record { slot = row.slot; number = row.number; array = w.array; index = w.index; op = w.op })) e

      -- it has another number
      pub searched-next : (row : Row) (next : Option ℕ) → row_in pool.items node ≡ Some row → row.number ≢ number → IsNext pool OfSession node next → IsSearched pool sessions slot number next (steps + 1) end
      searched-next row next is other goes = record {
        walk = walk-next pool sessions words waiting kept slot at steps end search.walk node here next goes;
        missed = λ n r i e. elim (among-append_cases n search.walk.before (node ∷ []) i) as (λ _. r.number ≢ number) [
          | inl seen ↦ search.missed n r seen e
          | inr last ↦ elim last as (λ _. r.number ≢ number) [
            | inl same ↦ let rows : row ≡ r = some_same (sym is ∙ ap (row_in pool.items) (sym same) ∙ e) in λ number_is. other (ap (λ (r : Row). r.number) rows ∙ number_is)
            | inr none ↦ absurd none
          ]
        ];
      }
