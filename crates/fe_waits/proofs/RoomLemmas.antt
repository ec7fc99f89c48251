-- Room in a slot, for a caller whose numbers are in a window of 32.
use Rattle.std.proofs.Common.{◌≡◌, ◌≢◌, ℕ, zero, suc, ◌<◌, ◌≤◌, ◌+◌, ◌-◌, inl, inr, Bool, true, false, cond, Option, Some, None, is_some, refl, sym, ap, ◌∙◌, arith}
use Rattle.std.specs.FinMap.{FinMap, empty, get, insert, remove, len, len-empty, len-remove, same_map, get-empty}
use Rattle.std.proofs.lemmas.Bool.{cases_eq, ne_eqb, eq-eqb}
use Rattle.fe_words.specs.declared.op.Op.TheVariants.{ReadXx}
use Rattle.fe_waits.specs.Waiting.{pair_cmp, pair_cmp_total, pair_cmp-IsAntisymmetric, WaitingAccess, of_slot, count_of}
use Rattle.fe_waits.proofs.MemberLemmas.{none_some, key_cases, get-of_slot, get-insert_other, get-remove_here, get-remove_other, len-insert_new}

-- each key is of the slot, and its number is one of this many from the floor on
abbrev pub AreWithin : FinMap pair_cmp WaitingAccess → ℕ → ℕ → ℕ → Type 0
AreWithin m slot floor many = (key : ℕ × ℕ) (waiter : WaitingAccess) → get m key ≡ Some waiter → (key.0 ≡ slot) × (floor ≤ key.1) × (key.1 < floor + many)

len-less : (m : FinMap pair_cmp WaitingAccess) (k : ℕ × ℕ) → len m ≤ len (remove m k) + 1
len-less m k = let e = len-remove pair_cmp_total m k in by_test (is_some (get m k)) e
  where
    by_test : (b : Bool) → len (remove m k) ≡ cond b (len m - 1) (len m) → len m ≤ len (remove m k) + 1
    by_test true e = omega arith
    by_test false e = omega arith

within-bound : (many : ℕ) (m : FinMap pair_cmp WaitingAccess) (slot floor : ℕ) → AreWithin m slot floor many → len m ≤ many
within-bound zero m slot floor within =
    let none : m ≡ empty = same_map pair_cmp_total pair_cmp-IsAntisymmetric _ _ (λ q. by_answer q (get m q) refl) in
    let size = ap len none ∙ len-empty pair_cmp WaitingAccess in
    omega arith
  where
    by_answer : (q : ℕ × ℕ) (o : Option WaitingAccess) → get m q ≡ o → get m q ≡ get (empty {X = WaitingAccess} {R = pair_cmp}) q
    by_answer q None e = e ∙ sym (get-empty pair_cmp q)
    by_answer q (Some waiter) e = let in_window = within q waiter e in absurd (omega (arith, in_window.1, in_window.2))
within-bound (suc many) m slot floor within =
    let fewer = within-bound many (remove m (slot, floor + many)) slot floor rest in
    let less = len-less m (slot, floor + many) in
    omega arith
  where
    rest : AreWithin (remove m (slot, floor + many)) slot floor many
    rest key waiter e =
        elim (key_cases key (slot, floor + many)) as (λ _. (key.0 ≡ slot) × (floor ≤ key.1) × (key.1 < floor + many)) [
          | inl same ↦ none_some (sym (ap (get (remove m (slot, floor + many))) same ∙ get-remove_here m (slot, floor + many)) ∙ e)
          | inr other ↦
              let was = within key waiter (sym (get-remove_other m (slot, floor + many) key other) ∙ e) in
              let not_last : key.1 ≢ floor + many = λ n. other (λ i. (was.0 i, n i)) in
              (was.0, was.1, below was.2 not_last)
        ]
      where
        below : {n : ℕ} → n < floor + suc many → n ≢ floor + many → n < floor + many
        below {n} less differs =
            elim (cases_eq n (floor + many)) as (λ _. n < floor + many) [
              | inl same ↦ absurd (differs same)
              | inr other ↦ omega arith
            ]

-- if the numbers of a slot and one more are in a window of 32, the slot has room for that one
pub room-in-window : (members : FinMap pair_cmp WaitingAccess) (slot floor number : ℕ) → ((n : ℕ) (waiter : WaitingAccess) → get members (slot, n) ≡ Some waiter → (floor ≤ n) × (n < floor + 32)) → get members (slot, number) ≡ None → floor ≤ number → number < floor + 32 → count_of members slot < 32
room-in-window members slot floor number within new least most =
    let more = len-insert_new (of_slot members slot) (slot, number) waits (own-none) in
    let bound = within-bound 32 (insert (of_slot members slot) (slot, number) waits) slot floor all in
    omega arith
  where
    waits : WaitingAccess
    waits = record { array = 0; index = 0; op = ReadXx }

    own-none : get (of_slot members slot) (slot, number) ≡ None
    own-none = get-of_slot members slot (slot, number) ∙ ap (λ b. cond b (get members (slot, number)) None) (eq-eqb slot slot refl) ∙ new

    all : AreWithin (insert (of_slot members slot) (slot, number) waits) slot floor 32
    all key waiter e =
        elim (key_cases key (slot, number)) as (λ _. (key.0 ≡ slot) × (floor ≤ key.1) × (key.1 < floor + 32)) [
          | inl same ↦ let n_is : key.1 ≡ number = ap (λ p. p.1) same in (ap (λ p. p.0) same, omega arith, omega arith)
          | inr other ↦
              let at = sym (get-of_slot members slot key) ∙ sym (get-insert_other (of_slot members slot) (slot, number) waits key other) ∙ e in
              elim (cases_eq key.0 slot) as (λ _. (key.0 ≡ slot) × (floor ≤ key.1) × (key.1 < floor + 32)) [
                | inl same ↦
                    let there = within key.1 waiter (ap (λ s. get members (s, key.1)) (sym same) ∙ sym (ap (λ b. cond b (get members key) None) (eq-eqb key.0 slot same)) ∙ at) in
                    (same, there.0, there.1)
                | inr differs ↦ none_some (sym (ap (λ b. cond b (get members key) None) (ne_eqb key.0 slot differs)) ∙ at)
              ]
        ]
