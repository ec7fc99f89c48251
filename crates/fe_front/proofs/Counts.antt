-- How many requests wait, after a change of them.
use Rattle.std.proofs.Common.{◌≡◌, ℕ, zero, suc, ◌+◌, inl, inr, true, false, cond, List, [], ◌∷◌, length, Option, Some, None, IsSome, refl, sym, ap, subst, ◌∙◌, arith}
use Rattle.std.specs.Cmp.{tied_itself}
use Rattle.std.specs.FinMap.{get, remove, len, entries, get-entries, len-entries, empty_of_len}
use Rattle.std.specs.FinMap.Entries.{find}
use Rattle.std.proofs.lemmas.Bool.{cases_eq, eq-eqb, ne_eqb}
use Rattle.fe_waits.specs.Waiting.{pair_cmp, pair_cmp_total, WaitingAccess}
use Rattle.fe_waits.proofs.MemberLemmas.{len-remove_old, len-positive, none_some, get-of_slot, without-none, count-remove, without-remove}
use Rattle.fe_state.specs.State.{ServerState, after}
use Rattle.fe_state.specs.declared.entry.Entry.{Entry}
use Rattle.fe_service.specs.AttachmentsState.{count_of, of_session, without_session}
use Rattle.fe_service.specs.Service.{WaitingAccesses, AreTurns, without_turn, without_turns}
use Rattle.fe_service.proofs.Serving.{turn_len}

find_first : (k : ℕ × ℕ) (w : WaitingAccess) (es : List ((ℕ × ℕ) × WaitingAccess)) → find pair_cmp k ((k, w) ∷ es) ≡ Some w
find_first k w es = rw (tied_itself pair_cmp_total k) refl

-- the first request is there
first_there : (m : WaitingAccesses) (e : (ℕ × ℕ) × WaitingAccess) (es : List ((ℕ × ℕ) × WaitingAccess)) → entries m ≡ e ∷ es → get m e.0 ≡ Some e.1
first_there m e es is = get-entries m e.0 ∙ ap (find pair_cmp e.0) is ∙ find_first e.0 e.1 es

-- the first request of a session is one of its
first_own : (m : WaitingAccesses) (session : ℕ) (k : ℕ × ℕ) (w : WaitingAccess) → get (of_session m session) k ≡ Some w → (k.0 ≡ session) × (get m k ≡ Some w)
first_own m session k w there = elim (cases_eq k.0 session) as (λ _. (k.0 ≡ session) × (get m k ≡ Some w)) [
  | inl same ↦ (same, sym (ap (λ b. cond b (get m k) None) (eq-eqb k.0 session same)) ∙ sym (get-of_slot m session k) ∙ there)
  | inr other ↦ none_some (sym (ap (λ b. cond b (get m k) None) (ne_eqb k.0 session other)) ∙ sym (get-of_slot m session k) ∙ there)
]

split_one : (n : ℕ) (m : WaitingAccesses) (session : ℕ) → count_of m session ≡ suc n
    → ((m : WaitingAccesses) (session : ℕ) → count_of m session ≡ n → len m ≡ len (without_session m session) + n)
    → (es : List ((ℕ × ℕ) × WaitingAccess)) → entries (of_session m session) ≡ es → len m ≡ len (without_session m session) + suc n
split_one n m session sized smaller [] is = let none = len-entries (of_session m session) ∙ ap length is in absurd (omega (arith, sized, none))
split_one n m session sized smaller (e ∷ es) is =
    let (same, there) = first_own m session e.0 e.1 (first_there (of_session m session) e es is) in
    let all = ap (count_of m) same ∙ sized in
    let fewer = count-remove m e.0 e.1 there in
    let rest = smaller (remove m e.0) e.0.0 (omega (arith, all, fewer)) in
    let others = ap len (without-remove m e.0) in
    let less = len-remove_old m e.0 e.1 there in
    let some = len-positive m e.0 e.1 there in
    subst (λ s. len m ≡ len (without_session m s) + suc n) same (omega (arith, rest, others, less, some))

split_by : (n : ℕ) (m : WaitingAccesses) (session : ℕ) → count_of m session ≡ n → len m ≡ len (without_session m session) + n
split_by zero m session none = let same = ap len (without-none m session (empty_of_len (of_session m session) none)) in omega (arith, same)
split_by (suc n) m session sized = split_one n m session sized (λ m session. split_by n m session) (entries (of_session m session)) refl

-- the requests of a session and those of the others are all
pub waiting-split : (waiting : WaitingAccesses) (session : ℕ) → len waiting ≡ len (without_session waiting session) + count_of waiting session
waiting-split waiting session = split_by (count_of waiting session) waiting session refl

-- one that waits is taken out
pub waiting-removed : (waiting : WaitingAccesses) (key : ℕ × ℕ) → IsSome (get waiting key) → len waiting ≡ len (remove waiting key) + 1
waiting-removed waiting key there = by (get waiting key) refl there
  where
    by : (o : Option WaitingAccess) → get waiting key ≡ o → IsSome o → len waiting ≡ len (remove waiting key) + 1
    by None is some = none_there some
      where
        none_there : {P : Type 0} → false ≡ true → P
        none_there f = cc
    by (Some w) is some = let less = len-remove_old waiting key w is in let positive = len-positive waiting key w is in omega (arith, less, positive)

-- those that are served wait no more
pub waiting-served : (s : ServerState) (waiting : WaitingAccesses) (es : List Entry) → AreTurns s waiting es → len waiting ≡ len (without_turns waiting es) + length es
waiting-served s waiting [] turns = omega arith
waiting-served s waiting (e ∷ es) turns =
    let one = turn_len s waiting e turns.0 in
    let rest = waiting-served (after s e) (without_turn waiting e) es turns.1 in
    omega (arith, one, rest)
