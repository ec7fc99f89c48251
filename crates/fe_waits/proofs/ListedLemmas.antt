-- The chains of one family when a node joins a list or leaves it.
use Rattle.std.proofs.Common.{◌≡◌, ◌≢◌, ℕ, zero, suc, ◌<◌, ◌⊎◌, inl, inr, List, [], ◌∷◌, ◌++◌, length, set, Option, Some, None, refl, sym, ap, subst, ◌∙◌, arith}
use Rattle.std.specs.Prelude.{Contains}
use Rattle.std.specs.List.{last_or}
use Rattle.std.proofs.lemmas.Bool.{cases_eq, ne_eqb, eq-eqb}
use Rattle.fe_pool.specs.declared.chain.Chain.{Chain}
use Rattle.fe_pool.specs.declared.family.Family.{Family}
use Rattle.fe_pool.specs.Pool.{Contents, IsChain, IsApart, KeepsOtherChains, list_of, list_from, lists_of, first_or, without}
use Rattle.fe_pool.specs.within.Runs.{IsNodeAmong}
use Rattle.fe_pool.proofs.AmongLemmas.{among-append_left, among-append_right, among-append_cases, Contains-among, among-Contains}
use Rattle.fe_waits.specs.declared.row.Row.{Row}
use Rattle.fe_waits.specs.within.Inner.{AreListed, row_in, empty_chain}
use Rattle.fe_waits.proofs.MemberLemmas.{none_some, some_same}

-- ---- lists and positions

pub row-set_here : (nodes : List (Option Row)) (node : ℕ) (o : Option Row) → node < length nodes → row_in (set nodes node o) node ≡ o
row-set_here [] node o below = absurd (omega arith)
row-set_here (x ∷ nodes) zero o below = refl
row-set_here (x ∷ nodes) (suc node) o below = row-set_here nodes node o (omega arith)

pub row-set_other : (nodes : List (Option Row)) (node : ℕ) (o : Option Row) (other : ℕ) → other ≢ node → row_in (set nodes node o) other ≡ row_in nodes other
row-set_other [] node o other n = refl
row-set_other (x ∷ nodes) zero o zero n = absurd (n refl)
row-set_other (x ∷ nodes) zero o (suc other) n = refl
row-set_other (x ∷ nodes) (suc node) o zero n = refl
row-set_other (x ∷ nodes) (suc node) o (suc other) n = row-set_other nodes node o other (λ e. n (ap suc e))

pub row-below : (nodes : List (Option Row)) (node : ℕ) (row : Row) → row_in nodes node ≡ Some row → node < length nodes
row-below [] node row e = none_some e
row-below (x ∷ nodes) zero row e = omega arith
row-below (x ∷ nodes) (suc node) row e = let rest = row-below nodes node row e in omega arith

pub contains-first : (xs : List ℕ) (n : ℕ) → first_or None xs ≡ Some n → Contains xs n
contains-first [] n e = none_some e
contains-first (x ∷ xs) n e = Contains-among n (x ∷ xs) (inl (sym (some_same e)))

among-without : (n m : ℕ) (xs : List ℕ) → m ≢ n → IsNodeAmong m xs → IsNodeAmong m (without xs n)
among-without n m [] other i = i
among-without n m (x ∷ xs) other (inl same) = rw (ne_eqb x n (λ e. other (same ∙ e))) (inl same)
among-without n m (x ∷ xs) other (inr i) =
    elim (cases_eq x n) as (λ _. IsNodeAmong m (without (x ∷ xs) n)) [
      | inl here ↦ rw (eq-eqb x n here) (among-without n m xs other i)
      | inr there ↦ rw (ne_eqb x n there) (inr (among-without n m xs other i))
    ]

without-among : (n m : ℕ) (xs : List ℕ) → IsNodeAmong m (without xs n) → IsNodeAmong m xs × (m ≢ n)
without-among n m [] i = absurd i
without-among n m (x ∷ xs) i =
    elim (cases_eq x n) as (λ _. IsNodeAmong m (without (x ∷ xs) n) → IsNodeAmong m (x ∷ xs) × (m ≢ n)) [
      | inl here ↦ λ i. let rest = without-among n m xs (rw (eq-eqb x n here) at i) in (inr rest.0, rest.1)
      | inr there ↦ λ i. elim (rw (ne_eqb x n there) at i) as (λ _. IsNodeAmong m (x ∷ xs) × (m ≢ n)) [
        | inl same ↦ (inl same, λ e. there (sym same ∙ e))
        | inr j ↦ let rest = without-among n m xs j in (inr rest.0, rest.1)
      ]
    ] i

-- ---- a family

module _ {Position : Type 0} (family : Family) (position_of : Row → Position) where
  -- the same lists, in another pool
  pub listed-moved : (nodes : List (Option Row)) (old new : Contents Row) (chain_of : Position → Option Chain) → lists_of new family ≡ lists_of old family → AreListed nodes old family position_of chain_of → AreListed nodes new family position_of chain_of
  listed-moved nodes old new chain_of same all = record {
    chains = λ position chain e.
        let is = all.chains position chain e in
        let list = ap (λ ls. list_from ls chain.first) same in
        record { first = is.first ∙ ap (first_or None) (sym list); last = is.last ∙ ap (last_or None) (sym list); counted = is.counted ∙ ap length (sym list) };
    listed = λ node row e. let on = all.listed node row e in (on.0, on.1, subst (λ ls. Contains (list_from ls on.0.first) node) (sym same) on.2);
    belongs = λ position chain node e on. all.belongs position chain node e (subst (λ ls. Contains (list_from ls chain.first) node) same on);
  }

  module _ (nodes : List (Option Row)) (old new : Contents Row) (chain_of : Position → Option Chain) (all : AreListed nodes old family position_of chain_of) where
    -- the chains of two positions don't begin with the same node
    apart : (one other : Position) (c d : Chain) → one ≢ other → chain_of one ≡ Some c → chain_of other ≡ Some d → IsApart c d
    apart one other c d differ at_one at_other same = by_first c.first refl
      where
        by_first : (o : Option ℕ) → c.first ≡ o → c.first ≡ None
        by_first None e = e
        by_first (Some n) e =
            let left = all.belongs one c n at_one (contains-first _ n (sym (all.chains one c at_one).first ∙ e)) in
            let right = all.belongs other d n at_other (contains-first _ n (sym (all.chains other d at_other).first ∙ (sym same ∙ e))) in
            let rows = some_same (sym left.1 ∙ right.1) in
            absurd (differ (sym left.2 ∙ ap position_of rows ∙ right.2))

    module _ (position : Position) (cases : (other : Position) → (other ≡ position) ⊎ (other ≢ position)) (chain chain' : Chain) (chain_of' : Position → Option Chain) (here : chain_of position ≡ Some chain) (here' : chain_of' position ≡ Some chain') (others : (other : Position) → other ≢ position → chain_of' other ≡ chain_of other) (is_chain : IsChain new family chain') (kept : KeepsOtherChains old new family chain) where
      chains_kept : (other : Position) (c : Chain) → chain_of' other ≡ Some c → IsChain new family c
      chains_kept other c e =
          elim (cases other) as (λ _. IsChain new family c) [
            | inl same ↦ subst (IsChain new family) (some_same (sym here' ∙ ap chain_of' (sym same) ∙ e)) is_chain
            | inr differ ↦ let was = sym (others other differ) ∙ e in (kept c (apart other position c chain differ was here) (all.chains other c was)).0
          ]

      same_list : (other : Position) (c : Chain) → other ≢ position → chain_of other ≡ Some c → list_of new family c ≡ list_of old family c
      same_list other c differ was = (kept c (apart other position c chain differ was here) (all.chains other c was)).1

      -- a node of the position is appended to its list
      pub listed-pushed : (node : ℕ) (row : Row) → node < length nodes → row_in nodes node ≡ None → position_of row ≡ position → list_of new family chain' ≡ list_of old family chain ++ node ∷ [] → AreListed (set nodes node (Some row)) new family position_of chain_of'
      listed-pushed node row below free belongs list = record { chains = chains_kept; listed = on; belongs = off }
        where
          on : (n : ℕ) (r : Row) → row_in (set nodes node (Some row)) n ≡ Some r → (c : Chain) × (chain_of' (position_of r) ≡ Some c) × Contains (list_of new family c) n
          on n r e =
              elim (cases_eq n node) as (λ _. (c : Chain) × (chain_of' (position_of r) ≡ Some c) × Contains (list_of new family c) n) [
                | inl same ↦
                    let is : row ≡ r = some_same (sym (row-set_here nodes node (Some row) below) ∙ ap (row_in (set nodes node (Some row))) (sym same) ∙ e) in
                    (chain', ap chain_of' (ap position_of (sym is) ∙ belongs) ∙ here', Contains-among n _ (subst (IsNodeAmong n) (sym list) (among-append_right n (list_of old family chain) (node ∷ []) (inl same))))
                | inr differ ↦ stays n r (all.listed n r (sym (row-set_other nodes node (Some row) n differ) ∙ e)) (cases (position_of r))
              ]
            where
              stays : (n : ℕ) (r : Row) → ((c : Chain) × (chain_of (position_of r) ≡ Some c) × Contains (list_of old family c) n) → (position_of r ≡ position) ⊎ (position_of r ≢ position) → (c : Chain) × (chain_of' (position_of r) ≡ Some c) × Contains (list_of new family c) n
              stays n r was (inl same) =
                  let is : was.0 ≡ chain = some_same (sym was.1 ∙ ap chain_of same ∙ here) in
                  (chain', ap chain_of' same ∙ here', Contains-among n _ (subst (IsNodeAmong n) (sym list) (among-append_left n (list_of old family chain) (node ∷ []) (among-Contains n _ (subst (λ c. Contains (list_of old family c) n) is was.2)))))
              stays n r was (inr differ) = (was.0, others (position_of r) differ ∙ was.1, subst (λ l. Contains l n) (sym (same_list (position_of r) was.0 differ was.1)) was.2)

          kept_row : (n : ℕ) (r : Row) → row_in nodes n ≡ Some r → row_in (set nodes node (Some row)) n ≡ Some r
          kept_row n r e = row-set_other nodes node (Some row) n (λ same. none_some (sym free ∙ ap (row_in nodes) (sym same) ∙ e)) ∙ e

          off : (other : Position) (c : Chain) (n : ℕ) → chain_of' other ≡ Some c → Contains (list_of new family c) n → (r : Row) × (row_in (set nodes node (Some row)) n ≡ Some r) × (position_of r ≡ other)
          off other c n e on =
              elim (cases other) as (λ _. (r : Row) × (row_in (set nodes node (Some row)) n ≡ Some r) × (position_of r ≡ other)) [
                | inl same ↦
                    let is : chain' ≡ c = some_same (sym here' ∙ ap chain_of' (sym same) ∙ e) in
                    elim (among-append_cases n (list_of old family chain) (node ∷ []) (subst (IsNodeAmong n) list (among-Contains n _ (subst (λ c. Contains (list_of new family c) n) (sym is) on)))) as (λ _. (r : Row) × (row_in (set nodes node (Some row)) n ≡ Some r) × (position_of r ≡ other)) [
                      | inl left ↦ let was = all.belongs position chain n here (Contains-among n _ left) in (was.0, kept_row n was.0 was.1, was.2 ∙ sym same)
                      | inr right ↦ elim right as (λ _. (r : Row) × (row_in (set nodes node (Some row)) n ≡ Some r) × (position_of r ≡ other)) [
                        | inl n_is ↦ (row, ap (row_in (set nodes node (Some row))) n_is ∙ row-set_here nodes node (Some row) below, belongs ∙ sym same)
                        | inr none ↦ absurd none
                      ]
                    ]
                | inr differ ↦
                    let at_other = sym (others other differ) ∙ e in
                    let was = all.belongs other c n at_other (subst (λ l. Contains l n) (same_list other c differ at_other) on) in
                    (was.0, kept_row n was.0 was.1, was.2)
              ]

      -- a node leaves the list of its position
      pub listed-unlinked : (node : ℕ) (row : Row) → row_in nodes node ≡ Some row → position_of row ≡ position → list_of new family chain' ≡ without (list_of old family chain) node → AreListed (set nodes node None) new family position_of chain_of'
      listed-unlinked node row is_row belongs list = record { chains = chains_kept; listed = on; belongs = off }
        where
          gone : row_in (set nodes node None) node ≡ None
          gone = row-set_here nodes node None (row-below nodes node row is_row)

          on : (n : ℕ) (r : Row) → row_in (set nodes node None) n ≡ Some r → (c : Chain) × (chain_of' (position_of r) ≡ Some c) × Contains (list_of new family c) n
          on n r e =
              elim (cases_eq n node) as (λ _. (c : Chain) × (chain_of' (position_of r) ≡ Some c) × Contains (list_of new family c) n) [
                | inl same ↦ none_some (sym gone ∙ ap (row_in (set nodes node None)) (sym same) ∙ e)
                | inr differ ↦ stays (all.listed n r (sym (row-set_other nodes node None n differ) ∙ e)) differ (cases (position_of r))
              ]
            where
              stays : ((c : Chain) × (chain_of (position_of r) ≡ Some c) × Contains (list_of old family c) n) → n ≢ node → (position_of r ≡ position) ⊎ (position_of r ≢ position) → (c : Chain) × (chain_of' (position_of r) ≡ Some c) × Contains (list_of new family c) n
              stays was differ (inl same) =
                  let is : was.0 ≡ chain = some_same (sym was.1 ∙ ap chain_of same ∙ here) in
                  (chain', ap chain_of' same ∙ here', Contains-among n _ (subst (IsNodeAmong n) (sym list) (among-without node n (list_of old family chain) differ (among-Contains n _ (subst (λ c. Contains (list_of old family c) n) is was.2)))))
              stays was differ (inr else) = (was.0, others (position_of r) else ∙ was.1, subst (λ l. Contains l n) (sym (same_list (position_of r) was.0 else was.1)) was.2)

          off : (other : Position) (c : Chain) (n : ℕ) → chain_of' other ≡ Some c → Contains (list_of new family c) n → (r : Row) × (row_in (set nodes node None) n ≡ Some r) × (position_of r ≡ other)
          off other c n e on =
              elim (cases other) as (λ _. (r : Row) × (row_in (set nodes node None) n ≡ Some r) × (position_of r ≡ other)) [
                | inl same ↦
                    let is : chain' ≡ c = some_same (sym here' ∙ ap chain_of' (sym same) ∙ e) in
                    let left = without-among node n (list_of old family chain) (subst (IsNodeAmong n) list (among-Contains n _ (subst (λ c. Contains (list_of new family c) n) (sym is) on))) in
                    let was = all.belongs position chain n here (Contains-among n _ left.0) in
                    (was.0, row-set_other nodes node None n left.1 ∙ was.1, was.2 ∙ sym same)
                | inr differ ↦
                    let at_other = sym (others other differ) ∙ e in
                    let was = all.belongs other c n at_other (subst (λ l. Contains l n) (same_list other c differ at_other) on) in
                    let n_differs = λ (n_is : n ≡ node). differ (sym was.2 ∙ ap position_of (some_same (sym was.1 ∙ ap (row_in nodes) n_is ∙ is_row)) ∙ belongs) in
                    (was.0, row-set_other nodes node None n n_differs ∙ was.1, was.2)
              ]

  -- the chains with other positions and the same nodes: new positions are empty, and a removed position has no node
  pub listed-replaced : (nodes : List (Option Row)) (pool : Contents Row) (chain_of chain_of' : Position → Option Chain) → AreListed nodes pool family position_of chain_of → ((position : Position) (chain : Chain) → chain_of' position ≡ Some chain → (chain_of position ≡ Some chain) ⊎ (chain ≡ empty_chain)) → ((node : ℕ) (row : Row) → row_in nodes node ≡ Some row → chain_of' (position_of row) ≡ chain_of (position_of row)) → AreListed nodes pool family position_of chain_of'
  listed-replaced nodes pool chain_of chain_of' all from keeps = record {
    chains = λ position chain e. elim (from position chain e) as (λ _. IsChain pool family chain) [
      | inl was ↦ all.chains position chain was
      | inr is ↦ subst (IsChain pool family) (sym is) (record { first = refl; last = refl; counted = refl })
    ];
    listed = λ node row e. let was = all.listed node row e in (was.0, keeps node row e ∙ was.1, was.2);
    belongs = λ position chain node e on. elim (from position chain e) as (λ _. (row : Row) × (row_in nodes node ≡ Some row) × (position_of row ≡ position)) [
      | inl was ↦ all.belongs position chain node was on
      | inr is ↦ absurd (among-Contains node [] (subst (λ c. Contains (list_of pool family c) node) is on))
    ];
  }
