-- What follows from the invariant of the waiting lists.
use Rattle.std.proofs.Common.{◌≡◌, ◌≢◌, ℕ, zero, suc, ◌<◌, ◌≤◌, ◌+◌, ◌*◌, ◌⊎◌, inl, inr, List, [], ◌∷◌, length, replicate, set, slice_get, Option, Some, None, is_some, true≢false, refl, sym, ap, subst, ◌∙◌, arith, mul-suc}
use Rattle.std.specs.Prelude.{Contains, sum_by, IfSome, IfNone, IsNone, ◌↔◌}
use Rattle.std.proofs.lemmas.Bool.{cases_lt, cases_eq}
use Rattle.std.proofs.lemmas.List.Sums.{sum_by-cons}
use Rattle.std.proofs.lemmas.List.{length-replicate}
use Rattle.std.specs.Ordering.{nat_cmp}
use Rattle.std.specs.Option.{option_and_then}
use Rattle.std.specs.FinMap.{FinMap, get, empty, insert, remove, len, len-empty, get-empty}
use Rattle.fe_pool.specs.declared.chain.Chain.{Chain}
use Rattle.fe_pool.specs.declared.family.Family.TheVariants.{OfWord, OfSession}
use Rattle.fe_pool.specs.Pool.{Contents, IsChain, first_or, list_of}
use Rattle.fe_pool.proofs.AmongLemmas.{among-Contains}
use Rattle.fe_waits.specs.declared.row.Row.{Row}
use Rattle.fe_waits.specs.Waiting.{pair_cmp, WaitingAccess, key_of, waiting_access_of, of_slot, count_of, IsWord, IsNodeOn, NoneOnWord, NoneOnArray, IsWithinLimits}
use Rattle.fe_waits.specs.within.Inner.{chain_at, lengths, members_of, row_in, AreListed, IsKept, IsNodeOfSlot, length_of, word_of, waiting_of, empty_chain}
use Rattle.fe_waits.proofs.ListedLemmas.{contains-first, listed-replaced}
use Rattle.fe_waits.proofs.MemberLemmas.{none_some, some_same, members-node, members-row, members-empty, of_slot-none}
use Rattle.fe_waits.proofs.WordLemmas.{slice_get-below, slice_get-some, slice_get-replicate, chain-there, chain_of, chain-word, len-lengths, len-added, len-dropped, get-insert_here, get-insert_other, get-remove_here, get-remove_other}

-- ---- sums over positions

pub sum-set : (xs : List Chain) (i : ℕ) (old new : Chain) → slice_get xs i ≡ Some old → sum_by length_of (set xs i new) + old.length ≡ sum_by length_of xs + new.length
sum-set [] i old new e = none_some e
sum-set (x ∷ xs) zero old new e = let same : x.length ≡ old.length = ap length_of (some_same e) in omega (arith, sum_by-cons length_of new xs, sum_by-cons length_of x xs)
sum-set (x ∷ xs) (suc i) old new e = omega (arith, sum-set xs i old new e, sum_by-cons length_of x (set xs i new), sum_by-cons length_of x xs)

pub sum-bound : (xs : List Chain) (most : ℕ) → ((i : ℕ) (x : Chain) → slice_get xs i ≡ Some x → x.length ≤ most) → sum_by length_of xs ≤ most * length xs
sum-bound [] most few = omega arith
sum-bound (x ∷ xs) most few =
    let here = few 0 x refl in
    let rest = sum-bound xs most (λ i y e. few (suc i) y e) in
    omega (arith, mul-suc most (length xs), sum_by-cons length_of x xs)

empty_list : (xs : List ℕ) → first_or None xs ≡ None → xs ≡ []
empty_list [] e = refl
empty_list (x ∷ xs) e = none_some (sym e)

module _ (pool : Contents Row) (sessions : List Chain) (words : FinMap nat_cmp (List Chain)) (waiting : ℕ) (kept : IsKept pool sessions words waiting) where
  -- a list without a first node is empty
  none_on : (family : _) (chain : Chain) (node : ℕ) → chain.first ≡ None → first_or None (list_of pool family chain) ≡ chain.first → Contains (list_of pool family chain) node → ⊥
  none_on family chain node none is on = among-Contains node [] (subst (λ l. Contains l node) (empty_list _ (is ∙ none)) on)

  -- ---- the first of a slot

  pub slot-first : (slot : ℕ) (chain : Chain) (node : ℕ) → slice_get sessions slot ≡ Some chain → chain.first ≡ Some node → IsNodeOfSlot (waiting_of pool words) slot node
  slot-first slot chain node at first =
      let on = contains-first _ node (sym (kept.by_session.chains slot chain at).first ∙ first) in
      kept.by_session.belongs slot chain node at on

  pub slot-none : (slot : ℕ) (chain : Chain) → slice_get sessions slot ≡ Some chain → chain.first ≡ None → of_slot (members_of pool.items) slot ≡ empty
  slot-none slot chain at none = of_slot-none (members_of pool.items) slot (λ number waiter e.
      let found = members-node pool.items (slot, number) waiter e in
      let on = kept.by_session.listed found.0 found.1 found.2 in
      let same : on.0 ≡ chain = some_same (sym on.1 ∙ ap (slice_get sessions) (ap (λ p. p.0) found.3) ∙ at) in
      none_on OfSession chain found.0 none (sym (kept.by_session.chains slot chain at).first) (subst (λ c. Contains (list_of pool OfSession c) found.0) same on.2))

  pub slot-ends : (slot : ℕ) (chain : Chain) → slice_get sessions slot ≡ Some chain → IfSome chain.first (IsNodeOfSlot (waiting_of pool words) slot) × IfNone chain.first (of_slot (members_of pool.items) slot ≡ empty)
  slot-ends slot chain at = by_first chain.first refl
    where
      by_first : (o : Option ℕ) → chain.first ≡ o → IfSome o (IsNodeOfSlot (waiting_of pool words) slot) × IfNone o (of_slot (members_of pool.items) slot ≡ empty)
      by_first None e = (tt, slot-none slot chain at e)
      by_first (Some node) e = (slot-first slot chain node at e, tt)

  -- ---- the first on a word

  pub word-first : (array index : ℕ) (chain : Chain) (node : ℕ) → chain_at words (array, index) ≡ Some chain → chain.first ≡ Some node → IsNodeOn (waiting_of pool words) array index node
  word-first array index chain node at first =
      let on = contains-first _ node (sym (kept.by_word.chains (array, index) chain at).first ∙ first) in
      let row = kept.by_word.belongs (array, index) chain node at on in
      (row.0, row.1, (ap (λ p. p.0) row.2, ap (λ p. p.1) row.2))

  pub word-none : (array index : ℕ) (chain : Chain) → chain_at words (array, index) ≡ Some chain → chain.first ≡ None → NoneOnWord (members_of pool.items) array index
  word-none array index chain at none key waiter e is_on =
      let found = members-node pool.items key waiter e in
      let on = kept.by_word.listed found.0 found.1 found.2 in
      let word : word_of found.1 ≡ (array, index) = λ i. ((ap (λ w. w.array) found.4 ∙ is_on.0) i, (ap (λ w. w.index) found.4 ∙ is_on.1) i) in
      let same : on.0 ≡ chain = some_same (sym on.1 ∙ ap (chain_at words) word ∙ at) in
      none_on OfWord chain found.0 none (sym (kept.by_word.chains (array, index) chain at).first) (subst (λ c. Contains (list_of pool OfWord c) found.0) same on.2)

  pub word-ends : (array index : ℕ) (chain : Chain) → chain_at words (array, index) ≡ Some chain → IfSome chain.first (IsNodeOn (waiting_of pool words) array index) × (IsNone chain.first ↔ NoneOnWord (members_of pool.items) array index)
  word-ends array index chain at = by_first chain.first refl
    where
      by_first : (o : Option ℕ) → chain.first ≡ o → IfSome o (IsNodeOn (waiting_of pool words) array index) × (IsNone o ↔ NoneOnWord (members_of pool.items) array index)
      by_first None e = (tt, (λ _. word-none array index chain at e, λ _. refl))
      by_first (Some node) e =
          let on = word-first array index chain node at e in
          (on, (λ none. absurd (true≢false none), λ none. absurd (none (key_of on.0) (waiting_access_of on.0) (members-row pool.items kept.different node on.0 on.1) on.2)))

  -- ---- the limits

  total_bound : waiting ≤ 2048
  total_bound = let bound = sum-bound sessions 32 kept.few in omega (arith, kept.total, kept.slots, bound)

  slot_bound : (key : ℕ × ℕ) (waiter : WaitingAccess) → get (members_of pool.items) key ≡ Some waiter → key.0 < 64
  slot_bound key waiter e =
      let found = members-node pool.items key waiter e in
      let on = kept.by_session.listed found.0 found.1 found.2 in
      let below = slice_get-below sessions found.1.slot (ap is_some on.1) in
      let same : found.1.slot ≡ key.0 = ap (λ p. p.0) found.3 in
      omega (arith, kept.slots)

  count_bound : (slot : ℕ) → (slot < 64) ⊎ (64 ≤ slot) → count_of (members_of pool.items) slot ≤ 32
  count_bound slot (inl below) =
      let there = slice_get-some sessions slot (omega (arith, kept.slots)) in
      let few = kept.few slot there.0 there.1 in
      let counted = kept.counted slot there.0 there.1 in
      omega arith
  count_bound slot (inr above) =
      let none = of_slot-none (members_of pool.items) slot (λ number waiter e. absurd (past number waiter e)) in
      let zero_of = ap len none ∙ len-empty pair_cmp WaitingAccess in
      omega arith
    where
      past : (number : ℕ) (waiter : WaitingAccess) → get (members_of pool.items) (slot, number) ≡ Some waiter → ⊥
      past number waiter e = let below = slot_bound (slot, number) waiter e in omega arith

  pub kept-limits : IsWithinLimits (waiting_of pool words)
  kept-limits = record {
    slots = slot_bound;
    words = λ key waiter e.
        let found = members-node pool.items key waiter e in
        let on = kept.by_word.listed found.0 found.1 found.2 in
        let word = chain-word words found.1.array found.1.index (ap is_some on.1) in
        subst (λ w. IsWord (lengths words) w.array w.index) found.4 word;
    few = λ slot. count_bound slot (cases_lt slot 64);
    all = let bound = total_bound in omega (arith, kept.all);
    arrays = subst (λ n. n ≤ 64) (sym (len-lengths words)) kept.arrays;
    nodes = λ node row e. members-row pool.items kept.different node row e;
  }

-- ---- when arrays are added and dropped

module _ (pool : Contents Row) (sessions : List Chain) (words : FinMap nat_cmp (List Chain)) (waiting : ℕ) (kept : IsKept pool sessions words waiting) where
  -- the same with other arrays that have the words of all requests
  with-words : (words' : FinMap nat_cmp (List Chain)) → AreListed pool.items pool OfWord word_of (λ w. chain_at words' w) → len words' ≤ 64 → IsKept pool sessions words' waiting
  with-words words' by_word few = record {
    sized = kept.sized;
    slots = kept.slots;
    different = kept.different;
    by_session = kept.by_session;
    by_word = by_word;
    counted = kept.counted;
    few = kept.few;
    all = kept.all;
    total = kept.total;
    arrays = few;
  }

  pub kept-array_added : (array count : ℕ) → get words array ≡ None → len words < 64 → IsKept pool sessions (insert words array (replicate count empty_chain)) waiting
  kept-array_added array count new room =
      let more = len-added words array (replicate count empty_chain) new in
      with-words _ (listed-replaced OfWord word_of pool.items pool (λ w. chain_at words w) (λ w. chain_at (insert words array (replicate count empty_chain)) w) kept.by_word from keeps) (omega arith)
    where
      at-other : (w : ℕ × ℕ) → w.0 ≢ array → chain_at (insert words array (replicate count empty_chain)) w ≡ chain_at words w
      at-other w other = ap (option_and_then (λ chains. slice_get chains w.1)) (get-insert_other words array (replicate count empty_chain) w.0 other)

      from : (w : ℕ × ℕ) (chain : Chain) → chain_at (insert words array (replicate count empty_chain)) w ≡ Some chain → (chain_at words w ≡ Some chain) ⊎ (chain ≡ empty_chain)
      from w chain e =
          elim (cases_eq w.0 array) as (λ _. (chain_at words w ≡ Some chain) ⊎ (chain ≡ empty_chain)) [
            | inl same ↦ inr (slice_get-replicate count w.1 empty_chain chain (sym (chain_of (insert words array (replicate count empty_chain)) w.0 w.1 (replicate count empty_chain) (ap (get (insert words array (replicate count empty_chain))) same ∙ get-insert_here words array (replicate count empty_chain))) ∙ e))
            | inr other ↦ inl (sym (at-other w other) ∙ e)
          ]

      keeps : (node : ℕ) (row : Row) → row_in pool.items node ≡ Some row → chain_at (insert words array (replicate count empty_chain)) (word_of row) ≡ chain_at words (word_of row)
      keeps node row e =
          elim (cases_eq row.array array) as (λ _. chain_at (insert words array (replicate count empty_chain)) (word_of row) ≡ chain_at words (word_of row)) [
            | inl same ↦
                let there = chain-there words row.array row.index (ap is_some (kept.by_word.listed node row e).1) in
                none_some (sym new ∙ ap (get words) (sym same) ∙ there.1)
            | inr other ↦ at-other (word_of row) other
          ]

  pub kept-array_dropped : (array : ℕ) → NoneOnArray (members_of pool.items) array → IsKept pool sessions (remove words array) waiting
  kept-array_dropped array unused =
      let less = len-dropped words array in
      let few = kept.arrays in
      with-words _ (listed-replaced OfWord word_of pool.items pool (λ w. chain_at words w) (λ w. chain_at (remove words array) w) kept.by_word from keeps) (omega arith)
    where
      at-other : (w : ℕ × ℕ) → w.0 ≢ array → chain_at (remove words array) w ≡ chain_at words w
      at-other w other = ap (option_and_then (λ chains. slice_get chains w.1)) (get-remove_other words array w.0 other)

      from : (w : ℕ × ℕ) (chain : Chain) → chain_at (remove words array) w ≡ Some chain → (chain_at words w ≡ Some chain) ⊎ (chain ≡ empty_chain)
      from w chain e =
          elim (cases_eq w.0 array) as (λ _. (chain_at words w ≡ Some chain) ⊎ (chain ≡ empty_chain)) [
            | inl same ↦ none_some (sym (ap (option_and_then (λ chains. slice_get chains w.1)) (ap (get (remove words array)) same ∙ get-remove_here words array)) ∙ e)
            | inr other ↦ inl (sym (at-other w other) ∙ e)
          ]

      keeps : (node : ℕ) (row : Row) → row_in pool.items node ≡ Some row → chain_at (remove words array) (word_of row) ≡ chain_at words (word_of row)
      keeps node row e = at-other (word_of row) (unused (key_of row) (waiting_access_of row) (members-row pool.items kept.different node row e))

-- ---- the first value

pub kept-new : (pool : Contents Row) (sessions : List Chain) (words : FinMap nat_cmp (List Chain)) → pool.items ≡ replicate 2048 None → sessions ≡ replicate 64 empty_chain → words ≡ empty → IsKept pool sessions words 0
kept-new pool sessions words items chains arrays =
    let none = ap members_of items ∙ members-empty 2048 in
    record {
      sized = ap length items ∙ length-replicate {A = Option Row} 2048 None;
      slots = ap length chains ∙ length-replicate 64 empty_chain;
      different = λ node other row else e f same. no_row node row e;
      by_session = record {
        chains = λ slot chain e. subst (IsChain pool OfSession) (sym (empty_at slot chain e)) (record { first = refl; last = refl; counted = refl });
        listed = λ node row e. no_row node row e;
        belongs = λ slot chain node e on. absurd (among-Contains node [] (subst (λ c. Contains (list_of pool OfSession c) node) (empty_at slot chain e) on));
      };
      by_word = record {
        chains = λ word chain e. no_chain word chain e;
        listed = λ node row e. no_row node row e;
        belongs = λ word chain node e on. no_chain word chain e;
      };
      counted = λ slot chain e. ap length_of (empty_at slot chain e) ∙ sym (ap (λ m. count_of m slot) none ∙ ap len (of_slot-none empty slot (λ number waiter e. none_some (sym (get-empty pair_cmp (slot, number)) ∙ e))) ∙ len-empty pair_cmp WaitingAccess);
      few = λ slot chain e. subst (λ c. c.length ≤ 32) (sym (empty_at slot chain e)) (omega arith);
      all = sym (ap len none ∙ len-empty pair_cmp WaitingAccess);
      total = sym (ap (sum_by length_of) chains ∙ sum-replicate 64);
      arrays = subst (λ m. len m ≤ 64) (sym arrays) (subst (λ n. n ≤ 64) (sym (len-empty nat_cmp (List Chain))) (omega arith));
    }
  where
    no_row : {P : Type 0} (node : ℕ) (row : Row) → row_in pool.items node ≡ Some row → P
    no_row node row e = none_some (sym (ap (λ l. row_in l node) items ∙ none-replicate 2048 node) ∙ e)
      where
        none-replicate : (count node : ℕ) → row_in (replicate count None) node ≡ None
        none-replicate zero node = refl
        none-replicate (suc count) zero = refl
        none-replicate (suc count) (suc node) = none-replicate count node

    empty_at : (slot : ℕ) (chain : Chain) → slice_get sessions slot ≡ Some chain → chain ≡ empty_chain
    empty_at slot chain e = slice_get-replicate 64 slot empty_chain chain (sym (ap (λ l. slice_get l slot) chains) ∙ e)

    no_chain : {P : Type 0} (word : ℕ × ℕ) (chain : Chain) → chain_at words word ≡ Some chain → P
    no_chain word chain e = none_some (sym (ap (λ m. chain_at m word) arrays ∙ ap (option_and_then (λ chains. slice_get chains word.1)) (get-empty nat_cmp word.0)) ∙ e)

    sum-replicate : (count : ℕ) → sum_by length_of (replicate count empty_chain) ≡ 0
    sum-replicate zero = refl
    sum-replicate (suc count) = let first = sum_by-cons length_of empty_chain (replicate count empty_chain) in let rest = sum-replicate count in omega arith
