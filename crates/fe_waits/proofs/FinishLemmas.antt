-- A request is removed: the steps of `finish`, one after the other.
use Rattle.std.proofs.Common.{◌≡◌, ℕ, ◌<◌, ◌≤◌, ◌+◌, ◌-◌, inl, inr, List, length, set, slice_get, Option, Some, None, IsSome, is_some, refl, sym, ap, subst, ◌∙◌, arith}
use Rattle.std.specs.Prelude.{Contains}
use Rattle.std.specs.Ordering.{nat_cmp}
use Rattle.std.specs.FinMap.{FinMap, remove, len}
use Rattle.std.proofs.lemmas.Bool.{cases_eq}
use Rattle.std.proofs.Math.ListN.{length-set}
use Rattle.fe_pool.specs.declared.chain.Chain.{Chain}
use Rattle.fe_pool.specs.declared.family.Family.{Family}
use Rattle.fe_pool.specs.declared.family.Family.TheVariants.{OfWord, OfSession}
use Rattle.fe_pool.specs.Pool.{Contents, IsChain, IsOff, KeepsOtherChains, KeepsOtherFamily, list_of, lists_of, without}
use Rattle.fe_waits.specs.declared.row.Row.{Row}
use Rattle.fe_waits.specs.Waiting.{key_of, waiting_access_of, count_of}
use Rattle.fe_waits.specs.within.Inner.{chain_at, with_chain, members_of, row_in, AreListed, AreDifferent, IsKept, session_of, word_of, length_of}
use Rattle.fe_waits.proofs.AddLemmas.{session-not_word, word-not_session, off-moved}
use Rattle.fe_waits.proofs.KeptLemmas.{sum-set}
use Rattle.fe_waits.proofs.ListedLemmas.{listed-moved, listed-unlinked, row-set_here, row-set_other, row-below}
use Rattle.fe_waits.proofs.MemberLemmas.{none_some, some_same, key_cases, members-row, members-freed, len-remove_old, count-remove, count-remove_other}
use Rattle.fe_waits.proofs.WordLemmas.{slice_get-set, slice_get-set_other, slice_get-below, chain_at-with_here, chain_at-with_other}

module _ (pool : Contents Row) (sessions : List Chain) (words : FinMap nat_cmp (List Chain)) (waiting : ℕ) (kept : IsKept pool sessions words waiting) (node : ℕ) (row : Row) (is_row : row_in pool.items node ≡ Some row) where
  -- its word and its session exist
  pub word-there : IsSome (chain_at words (row.array, row.index))
  word-there = ap is_some (kept.by_word.listed node row is_row).1

  pub session-there : row.slot < length sessions
  session-there = slice_get-below sessions row.slot (ap is_some (kept.by_session.listed node row is_row).1)

  -- the nodes after its node is free
  abbrev pub nodes : List (Option Row)
  nodes = set pool.items node None

  members_nodes : members_of nodes ≡ remove (members_of pool.items) (key_of row)
  members_nodes = members-freed pool.items kept.different node row is_row

  different : AreDifferent nodes
  different one other r s at_one at_other same = kept.different one other r s (was one r at_one) (was other s at_other) same
    where
      was : (n : ℕ) (r : Row) → row_in nodes n ≡ Some r → row_in pool.items n ≡ Some r
      was n r e =
          elim (cases_eq n node) as (λ _. row_in pool.items n ≡ Some r) [
            | inl same ↦ none_some (sym (row-set_here pool.items node None (row-below pool.items node row is_row)) ∙ ap (row_in nodes) (sym same) ∙ e)
            | inr other ↦ sym (row-set_other pool.items node None n other) ∙ e
          ]

  module _ (word : Chain) (at_word : chain_at words (word_of row) ≡ Some word) where
    -- what the first `unlink` requires
    pub word-chain_kept : IsChain pool OfWord word
    word-chain_kept = kept.by_word.chains (word_of row) word at_word

    pub word-on : Contains (list_of pool OfWord word) node
    word-on =
        let on = kept.by_word.listed node row is_row in
        subst (λ c. Contains (list_of pool OfWord c) node) (some_same (sym on.1 ∙ at_word)) on.2

    -- after it
    module _ (linked : Contents Row) (word' : Chain) (word_list : list_of linked OfWord word' ≡ without (list_of pool OfWord word) node) (word_chain : IsChain linked OfWord word') (word_kept : KeepsOtherChains pool linked OfWord word) (word_family : KeepsOtherFamily pool linked OfWord) (word_items : linked.items ≡ pool.items) where
      words_linked : AreListed nodes linked OfWord word_of (λ w. chain_at (with_chain words row.array row.index word') w)
      words_linked =
          listed-unlinked OfWord word_of pool.items pool linked (λ w. chain_at words w) kept.by_word (word_of row) (λ other. key_cases other (word_of row)) word word' (λ w. chain_at (with_chain words row.array row.index word') w) at_word
          (chain_at-with_here words row.array row.index word' word-there) (chain_at-with_other words row.array row.index word' word-there) word_chain word_kept node row is_row refl word_list

      sessions_linked : AreListed pool.items linked OfSession session_of (λ slot. slice_get sessions slot)
      sessions_linked = listed-moved OfSession session_of pool.items pool linked (λ slot. slice_get sessions slot) (word_family OfSession session-not_word) kept.by_session

      module _ (session : Chain) (at_session : slice_get sessions row.slot ≡ Some session) where
        -- what the second `unlink` requires
        pub session-chain_linked : IsChain linked OfSession session
        session-chain_linked = sessions_linked.chains row.slot session at_session

        pub session-on : Contains (list_of linked OfSession session) node
        session-on =
            let on = sessions_linked.listed node row is_row in
            subst (λ c. Contains (list_of linked OfSession c) node) (some_same (sym on.1 ∙ at_session)) on.2

        -- after it
        module _ (left : Contents Row) (session' : Chain) (session_list : list_of left OfSession session' ≡ without (list_of linked OfSession session) node) (session_chain : IsChain left OfSession session') (session_length : session'.length + 1 ≡ session.length) (session_kept : KeepsOtherChains linked left OfSession session) (session_family : KeepsOtherFamily linked left OfSession) (session_items : left.items ≡ linked.items) where
          sessions_left : AreListed nodes left OfSession session_of (λ slot. slice_get (set sessions row.slot session') slot)
          sessions_left =
              listed-unlinked OfSession session_of pool.items linked left (λ slot. slice_get sessions slot) sessions_linked row.slot (λ other. cases_eq other row.slot) session session' (λ slot. slice_get (set sessions row.slot session') slot) at_session
              (slice_get-set sessions row.slot session' session-there) (λ other differ. slice_get-set_other sessions row.slot other session' differ) session_chain session_kept node row is_row refl session_list

          words_left : AreListed nodes left OfWord word_of (λ w. chain_at (with_chain words row.array row.index word') w)
          words_left = listed-moved OfWord word_of nodes linked left (λ w. chain_at (with_chain words row.array row.index word') w) (session_family OfWord word-not_session) words_linked

          -- the count is not zero
          pub some-waits : 1 ≤ waiting
          some-waits = let sum = sum-set sessions row.slot session session' at_session in omega (arith, kept.total)

          -- what `give_back` requires, and what it returns
          pub row-left : row_in left.items node ≡ Some row
          row-left = ap (λ l. row_in l node) (session_items ∙ word_items) ∙ is_row

          pub off-left : IsOff linked OfWord node → IsOff left OfSession node → (family : Family) → IsOff left family node
          off-left off_word off_session OfWord = off-moved linked left OfWord node (session_family OfWord word-not_session) off_word
          off-left off_word off_session OfSession = off_session

          counts : (slot : ℕ) (chain : Chain) → slice_get (set sessions row.slot session') slot ≡ Some chain → (chain.length ≡ count_of (members_of nodes) slot) × (chain.length ≤ 32)
          counts slot chain e =
              elim (cases_eq slot row.slot) as (λ _. (chain.length ≡ count_of (members_of nodes) slot) × (chain.length ≤ 32)) [
                | inl same ↦
                    let is : session' ≡ chain = some_same (sym (slice_get-set sessions row.slot session' session-there) ∙ ap (slice_get (set sessions row.slot session')) (sym same) ∙ e) in
                    let long : session'.length ≡ chain.length = ap length_of is in
                    let was = kept.counted row.slot session at_session in
                    let few = kept.few row.slot session at_session in
                    let now : count_of (members_of nodes) slot ≡ count_of (members_of pool.items) row.slot - 1 = ap (count_of (members_of nodes)) same ∙ ap (λ m. count_of m row.slot) members_nodes ∙ count-remove (members_of pool.items) (key_of row) (waiting_access_of row) (members-row pool.items kept.different node row is_row) in
                    (omega arith, omega arith)
                | inr other ↦
                    let at = sym (slice_get-set_other sessions row.slot slot session' other) ∙ e in
                    let now : count_of (members_of nodes) slot ≡ count_of (members_of pool.items) slot = ap (λ m. count_of m slot) members_nodes ∙ count-remove_other (members_of pool.items) (key_of row) slot other in
                    (kept.counted slot chain at ∙ sym now, kept.few slot chain at)
              ]

          -- after `give_back`
          module _ (freed : Contents Row) (gave : freed ≡ record left { items = set left.items node None }) where
            items_freed : freed.items ≡ nodes
            items_freed = ap (λ p. p.items) gave ∙ ap (λ l. set l node None) (session_items ∙ word_items)

            same-lists : (family : Family) → lists_of freed family ≡ lists_of left family
            same-lists family = ap (λ p. lists_of p family) gave ∙ by_family family
              where
                by_family : (family : Family) → lists_of (record left { items = set left.items node None }) family ≡ lists_of left family
                by_family OfWord = refl
                by_family OfSession = refl

            pub members-finished : members_of freed.items ≡ remove (members_of pool.items) (key_of row)
            members-finished = ap members_of items_freed ∙ members_nodes

            pub kept-finished : len (with_chain words row.array row.index word') ≤ 64 → IsKept freed (set sessions row.slot session') (with_chain words row.array row.index word') (waiting - 1)
            kept-finished arrays =
                let less : len (members_of freed.items) ≡ len (members_of pool.items) - 1 = ap len members-finished ∙ len-remove_old (members_of pool.items) (key_of row) (waiting_access_of row) (members-row pool.items kept.different node row is_row) in
                let sum = sum-set sessions row.slot session session' at_session in
                record {
                  sized = ap length items_freed ∙ length-set pool.items node None ∙ kept.sized;
                  slots = length-set sessions row.slot session' ∙ kept.slots;
                  different = subst AreDifferent (sym items_freed) different;
                  by_session = subst (λ l. AreListed l freed OfSession session_of (λ slot. slice_get (set sessions row.slot session') slot)) (sym items_freed) (listed-moved OfSession session_of nodes left freed (λ slot. slice_get (set sessions row.slot session') slot) (same-lists OfSession) sessions_left);
                  by_word = subst (λ l. AreListed l freed OfWord word_of (λ w. chain_at (with_chain words row.array row.index word') w)) (sym items_freed) (listed-moved OfWord word_of nodes left freed (λ w. chain_at (with_chain words row.array row.index word') w) (same-lists OfWord) words_left);
                  counted = λ slot chain e. (counts slot chain e).0 ∙ ap (λ l. count_of (members_of l) slot) (sym items_freed);
                  few = λ slot chain e. (counts slot chain e).1;
                  all = omega (arith, kept.all);
                  total = omega (arith, kept.total);
                  arrays = arrays;
                }
