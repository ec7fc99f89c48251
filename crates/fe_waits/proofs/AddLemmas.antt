-- A request is added: the steps of `add`, one after the other.
use Rattle.std.proofs.Common.{◌≡◌, ◌≢◌, ℕ, ◌<◌, ◌≤◌, ◌+◌, inl, inr, List, [], ◌∷◌, ◌++◌, length, set, slice_get, Option, Some, None, IsSome, is_some, refl, sym, ap, subst, ◌∙◌, arith}
use Rattle.std.specs.Prelude.{IsNone}
use Rattle.std.specs.Ordering.{nat_cmp}
use Rattle.std.specs.FinMap.{FinMap, get, insert, len}
use Rattle.std.proofs.lemmas.Bool.{cases_eq}
use Rattle.std.proofs.Math.ListN.{length-set}
use Rattle.fe_pool.specs.declared.chain.Chain.{Chain}
use Rattle.fe_pool.specs.declared.family.Family.{Family}
use Rattle.fe_pool.specs.declared.family.Family.TheVariants.{OfWord, OfSession}
use Rattle.fe_pool.specs.Pool.{Contents, IsChain, IsFree, IsOff, IsOnOne, KeepsOtherChains, KeepsOtherFamily, list_of, lists_of}
use Rattle.fe_waits.specs.declared.row.Row.{Row}
use Rattle.fe_waits.specs.Waiting.{key_of, waiting_access_of, count_of}
use Rattle.fe_waits.specs.within.Inner.{chain_at, with_chain, members_of, row_in, AreListed, AreDifferent, IsKept, session_of, word_of, length_of}
use Rattle.fe_waits.proofs.ListedLemmas.{listed-moved, listed-pushed, row-set_here, row-set_other}
use Rattle.fe_waits.proofs.KeptLemmas.{sum-set, sum-bound}
use Rattle.fe_waits.proofs.MemberLemmas.{IsNew, none_some, some_same, key_cases, members-row, members-taken, free-or-full, len-insert_new, count-insert, count-insert_other}
use Rattle.fe_waits.proofs.WordLemmas.{slice_get-set, slice_get-set_other, slice_get-below, slice_get-some, chain_at-with_here, chain_at-with_other}

-- there are two families
pub session-not_word : OfSession ≢ OfWord
session-not_word e = cc

pub word-not_session : OfWord ≢ OfSession
word-not_session e = cc

-- a node off a family is off it in another pool with the same lists
pub off-moved : (old new : Contents Row) (family : Family) (node : ℕ) → lists_of new family ≡ lists_of old family → IsOff old family node → IsOff new family node
off-moved old new family node same off on = off (subst (λ ls. IsOnOne ls node) same on)

module _ (pool : Contents Row) (sessions : List Chain) (words : FinMap nat_cmp (List Chain)) (waiting : ℕ) (kept : IsKept pool sessions words waiting) where
  -- a slot with room: it has a chain, and there are fewer than 2,048 requests in all
  pub slot-chain : (slot : ℕ) → slot < 64 → (chain : Chain) × (slice_get sessions slot ≡ Some chain)
  slot-chain slot below = slice_get-some sessions slot (omega (arith, kept.slots))

  pub total-room : (slot : ℕ) → slot < 64 → count_of (members_of pool.items) slot < 32 → waiting < 2048
  total-room slot below room =
      let there = slot-chain slot below in
      let chain = there.0 in
      let counted = kept.counted slot chain there.1 in
      let more : Chain = record { first = chain.first; last = chain.last; length = chain.length + 1 } in
      let bound = sum-bound (set sessions slot more) 32 (few more (omega arith)) in
      let sum = sum-set sessions slot chain more there.1 in
      omega (arith, kept.total, kept.slots, length-set sessions slot more)
    where
      few : (more : Chain) → more.length ≤ 32 → (i : ℕ) (x : Chain) → slice_get (set sessions slot more) i ≡ Some x → x.length ≤ 32
      few more fits i x e =
          elim (cases_eq i slot) as (λ _. x.length ≤ 32) [
            | inl same ↦ subst (λ c. c.length ≤ 32) (some_same (sym (slice_get-set sessions slot more (omega (arith, kept.slots))) ∙ ap (slice_get (set sessions slot more)) (sym same) ∙ e)) fits
            | inr other ↦ kept.few i x (sym (slice_get-set_other sessions slot i more other) ∙ e)
          ]

  pub has-free : waiting < 2048 → (node : ℕ) × IsFree pool node
  has-free room =
      elim (free-or-full pool.items kept.different) as (λ _. (node : ℕ) × IsFree pool node) [
        | inl free ↦ (free.0, (free.1, free.2))
        | inr full ↦ absurd (omega (arith, kept.all, kept.sized))
      ]

  -- `take` finds a node
  pub takes : (o : Option ℕ) → waiting < 2048 → (IsNone o → (node : ℕ) → ¬ (IsFree pool node)) → IsSome o
  takes None room full = let free = has-free room in absurd (full refl free.0 free.1)
  takes (Some node) room full = refl

  module _ (row : Row) (below : row.slot < 64) (new : get (members_of pool.items) (key_of row) ≡ None) where
    is-new : IsNew pool.items (key_of row)
    is-new node r e same = none_some (sym new ∙ ap (get (members_of pool.items)) (sym same) ∙ members-row pool.items kept.different node r e)

    module _ (node : ℕ) (free : IsFree pool node) where
      -- the nodes after `take`
      abbrev pub nodes : List (Option Row)
      nodes = set pool.items node (Some row)

      pub members-added : members_of nodes ≡ insert (members_of pool.items) (key_of row) (waiting_access_of row)
      members-added = members-taken pool.items node row free.0 free.1 is-new

      different : AreDifferent nodes
      different one other r s at_one at_other same =
          elim (cases_eq one node) as (λ _. one ≡ other) [
            | inl one_is ↦ elim (cases_eq other node) as (λ _. one ≡ other) [
              | inl other_is ↦ one_is ∙ sym other_is
              | inr other_not ↦ absurd (is-new other s (was other s other_not at_other) (sym same ∙ ap key_of (sym (here one r one_is at_one))))
            ]
            | inr one_not ↦ elim (cases_eq other node) as (λ _. one ≡ other) [
              | inl other_is ↦ absurd (is-new one r (was one r one_not at_one) (same ∙ ap key_of (sym (here other s other_is at_other))))
              | inr other_not ↦ kept.different one other r s (was one r one_not at_one) (was other s other_not at_other) same
            ]
          ]
        where
          here : (n : ℕ) (r : Row) → n ≡ node → row_in nodes n ≡ Some r → row ≡ r
          here n r is e = some_same (sym (row-set_here pool.items node (Some row) free.0) ∙ ap (row_in nodes) (sym is) ∙ e)

          was : (n : ℕ) (r : Row) → n ≢ node → row_in nodes n ≡ Some r → row_in pool.items n ≡ Some r
          was n r n_not e = sym (row-set_other pool.items node (Some row) n n_not) ∙ e

      -- after `take`
      module _ (taken : Contents Row) (took : taken ≡ record pool { items = nodes }) where
        same-lists : (family : Family) → lists_of taken family ≡ lists_of pool family
        same-lists family = ap (λ p. lists_of p family) took ∙ by_family family
          where
            by_family : (family : Family) → lists_of (record pool { items = nodes }) family ≡ lists_of pool family
            by_family OfWord = refl
            by_family OfSession = refl

        words_taken : AreListed pool.items taken OfWord word_of (λ w. chain_at words w)
        words_taken = listed-moved OfWord word_of pool.items pool taken (λ w. chain_at words w) (same-lists OfWord) kept.by_word

        sessions_taken : AreListed pool.items taken OfSession session_of (λ slot. slice_get sessions slot)
        sessions_taken = listed-moved OfSession session_of pool.items pool taken (λ slot. slice_get sessions slot) (same-lists OfSession) kept.by_session

        -- what the push to the word's list requires
        pub word-chain_taken : (word : Chain) → chain_at words (word_of row) ≡ Some word → IsChain taken OfWord word
        word-chain_taken word at_word = words_taken.chains (word_of row) word at_word

        pub taken-is : IsSome (row_in taken.items node)
        taken-is = ap (λ p. is_some (row_in p.items node)) took ∙ ap is_some (row-set_here pool.items node (Some row) free.0)

        pub off-taken : IsOff pool OfWord node → IsOff taken OfWord node
        off-taken off = off-moved pool taken OfWord node (same-lists OfWord) off

        -- after that push
        module _ (linked : Contents Row) (word word' : Chain) (at_word : chain_at words (word_of row) ≡ Some word) (word_list : list_of linked OfWord word' ≡ list_of taken OfWord word ++ node ∷ []) (word_chain : IsChain linked OfWord word') (word_kept : KeepsOtherChains taken linked OfWord word) (word_family : KeepsOtherFamily taken linked OfWord) (word_items : linked.items ≡ taken.items) where
          there : IsSome (chain_at words (row.array, row.index))
          there = ap is_some at_word

          words_linked : AreListed nodes linked OfWord word_of (λ w. chain_at (with_chain words row.array row.index word') w)
          words_linked =
              listed-pushed OfWord word_of pool.items taken linked (λ w. chain_at words w) words_taken (word_of row) (λ other. key_cases other (word_of row)) word word' (λ w. chain_at (with_chain words row.array row.index word') w) at_word
              (chain_at-with_here words row.array row.index word' there) (chain_at-with_other words row.array row.index word' there) word_chain word_kept node row free.0 free.1 refl word_list

          sessions_linked : AreListed pool.items linked OfSession session_of (λ slot. slice_get sessions slot)
          sessions_linked = listed-moved OfSession session_of pool.items taken linked (λ slot. slice_get sessions slot) (word_family OfSession session-not_word) sessions_taken

          -- what the push to the session's list requires
          pub session-chain_linked : (session : Chain) → slice_get sessions row.slot ≡ Some session → IsChain linked OfSession session
          session-chain_linked session at_session = sessions_linked.chains row.slot session at_session

          pub linked-is : IsSome (row_in linked.items node)
          linked-is = ap (λ l. is_some (row_in l node)) word_items ∙ taken-is

          pub off-linked : IsOff pool OfSession node → IsOff linked OfSession node
          off-linked off = off-moved pool linked OfSession node (word_family OfSession session-not_word ∙ same-lists OfSession) off

          -- after that push
          module _ (added : Contents Row) (session session' : Chain) (at_session : slice_get sessions row.slot ≡ Some session) (session_list : list_of added OfSession session' ≡ list_of linked OfSession session ++ node ∷ []) (session_chain : IsChain added OfSession session') (session_length : session'.length ≡ session.length + 1) (session_kept : KeepsOtherChains linked added OfSession session) (session_family : KeepsOtherFamily linked added OfSession) (session_items : added.items ≡ linked.items) (room : count_of (members_of pool.items) row.slot < 32) where
            slot_below : row.slot < length sessions
            slot_below = slice_get-below sessions row.slot (ap is_some at_session)

            abbrev pub sessions' : List Chain
            sessions' = set sessions row.slot session'

            sessions_added : AreListed nodes added OfSession session_of (λ slot. slice_get sessions' slot)
            sessions_added =
                listed-pushed OfSession session_of pool.items linked added (λ slot. slice_get sessions slot) sessions_linked row.slot (λ other. cases_eq other row.slot) session session' (λ slot. slice_get sessions' slot) at_session
                (slice_get-set sessions row.slot session' slot_below) (λ other differ. slice_get-set_other sessions row.slot other session' differ) session_chain session_kept node row free.0 free.1 refl session_list

            words_added : AreListed nodes added OfWord word_of (λ w. chain_at (with_chain words row.array row.index word') w)
            words_added = listed-moved OfWord word_of nodes linked added (λ w. chain_at (with_chain words row.array row.index word') w) (session_family OfWord word-not_session) words_linked

            pub items_added : added.items ≡ nodes
            items_added = session_items ∙ word_items ∙ ap (λ p. p.items) took

            counts : (slot : ℕ) (chain : Chain) → slice_get sessions' slot ≡ Some chain → (chain.length ≡ count_of (members_of nodes) slot) × (chain.length ≤ 32)
            counts slot chain e =
                elim (cases_eq slot row.slot) as (λ _. (chain.length ≡ count_of (members_of nodes) slot) × (chain.length ≤ 32)) [
                  | inl same ↦
                      let is : session' ≡ chain = some_same (sym (slice_get-set sessions row.slot session' slot_below) ∙ ap (slice_get sessions') (sym same) ∙ e) in
                      let long : session'.length ≡ chain.length = ap length_of is in
                      let was = kept.counted row.slot session at_session in
                      let now : count_of (members_of nodes) slot ≡ count_of (members_of pool.items) row.slot + 1 = ap (count_of (members_of nodes)) same ∙ ap (λ m. count_of m row.slot) members-added ∙ count-insert (members_of pool.items) (key_of row) (waiting_access_of row) new in
                      (omega arith, omega arith)
                  | inr other ↦
                      let at = sym (slice_get-set_other sessions row.slot slot session' other) ∙ e in
                      let now : count_of (members_of nodes) slot ≡ count_of (members_of pool.items) slot = ap (λ m. count_of m slot) members-added ∙ count-insert_other (members_of pool.items) (key_of row) (waiting_access_of row) slot other in
                      (kept.counted slot chain at ∙ sym now, kept.few slot chain at)
                ]

            kept_added : (arrays : len (with_chain words row.array row.index word') ≤ 64) → (p : Contents Row) → p ≡ added → p.items ≡ nodes → IsKept p sessions' (with_chain words row.array row.index word') (waiting + 1)
            kept_added arrays p p_is is =
                let long : len (members_of p.items) ≡ len (members_of pool.items) + 1 = ap (λ l. len (members_of l)) is ∙ ap len members-added ∙ len-insert_new (members_of pool.items) (key_of row) (waiting_access_of row) new in
                let sum = sum-set sessions row.slot session session' at_session in
                record {
                  sized = ap length is ∙ length-set pool.items node (Some row) ∙ kept.sized;
                  slots = length-set sessions row.slot session' ∙ kept.slots;
                  different = subst AreDifferent (sym is) different;
                  by_session = subst (λ l. AreListed l p OfSession session_of (λ slot. slice_get sessions' slot)) (sym is) (subst (λ q. AreListed nodes q OfSession session_of (λ slot. slice_get sessions' slot)) (sym p_is) sessions_added);
                  by_word = subst (λ l. AreListed l p OfWord word_of (λ w. chain_at (with_chain words row.array row.index word') w)) (sym is) (subst (λ q. AreListed nodes q OfWord word_of (λ w. chain_at (with_chain words row.array row.index word') w)) (sym p_is) words_added);
                  counted = λ slot chain e. (counts slot chain e).0 ∙ ap (λ l. count_of (members_of l) slot) (sym is);
                  few = λ slot chain e. (counts slot chain e).1;
                  all = omega (arith, kept.all);
                  total = omega (arith, kept.total);
                  arrays = arrays;
                }

            pub kept-added : len (with_chain words row.array row.index word') ≤ 64 → IsKept added sessions' (with_chain words row.array row.index word') (waiting + 1)
            kept-added arrays = kept_added arrays added refl items_added
