-- What the turns of a service leave: what still waits stays usable, and each turn is a legal entry.
use Rattle.std.proofs.Common.{◌≡◌, ◌≢◌, ℕ, ◌+◌, ◌-◌, ◌^◌, ◌<◌, ◌≤◌, inl, inr, Option, Some, None, List, [], ◌∷◌, ◌++◌, length, refl, sym, ap, subst, ◌∙◌, arith}
use Rattle.std.specs.Prelude.{IsSomeAnd}
use Rattle.std.specs.Option.{option_map}
use Rattle.std.specs.Ordering.{nat_cmp}
use Rattle.std.specs.FinMap.{FinMap, get, remove}
use Rattle.fe_waits.proofs.MemberLemmas.{key_cases, none_some, get-remove_here, get-remove_other}
use Rattle.fe_state.proofs.Maps.{get_inserted, get_beside, same_or_other}
use Rattle.fe_state.specs.Sessions.{Session, keeping, put_session, IsUsable}
use Rattle.fe_state.specs.State.{ServerState, IsLegal, after, after_all}
use Rattle.fe_state.specs.History.{AreLegal}
use Rattle.fe_state.specs.declared.kept.Kept.{Kept}
use Rattle.fe_state.specs.declared.answer.Answer.{Answer}
use Rattle.fe_state.specs.declared.request.Request.{Request}
use Rattle.fe_state.specs.declared.entry.Entry.{Entry}
use Rattle.fe_state.specs.declared.entry.Entry.TheVariants.{Finished}
use Rattle.fe_service.specs.Service.{WaitingAccesses, request_of, AreUsable, IsTurn, AreTurns, without_turn, without_turns, Serves}

-- the sessions where one keeps an answer for a number more, looked up at a session
put_own : (sessions : FinMap nat_cmp Session) (session number other : ℕ) (k : Kept) (here : Option Session) → get sessions session ≡ here → other ≢ number
    → IsSomeAnd here (λ x. IsUsable x other) → IsSomeAnd (get (put_session sessions session (option_map (λ x. keeping x number k) here)) session) (λ x. IsUsable x other)
put_own sessions session number other k None is differs usable = absurd usable
put_own sessions session number other k (Some x) is differs usable =
    let kept : IsUsable (keeping x number k) other = record { in_window = usable.in_window; not_kept = get_beside x.kept number k other differs ∙ usable.not_kept } in
    subst (λ (o : Option Session). IsSomeAnd o (λ x. IsUsable x other)) (sym (get_inserted sessions session (keeping x number k))) kept

put_other : (sessions : FinMap nat_cmp Session) (session other : ℕ) (new : Option Session) → other ≢ session → get (put_session sessions session new) other ≡ get sessions other
put_other sessions session other None differs = refl
put_other sessions session other (Some x) differs = get_beside sessions session x other differs

-- A number that does not wait finishes: what waits stays usable.
pub finished_usable : (s : ServerState) (waiting : WaitingAccesses) (session number : ℕ) (request : Request) (answer : Answer) → AreUsable s waiting → get waiting (session, number) ≡ None
    → AreUsable (after s (Finished session number request answer)) waiting
finished_usable s waiting session number request answer usable new key w waits =
    elim (same_or_other key.0 session) as (λ _. IsSomeAnd (get (after s (Finished session number request answer)).sessions key.0) (λ x. IsUsable x key.1)) [
      | inl same ↦
          let differs : key.1 ≢ number = λ n. none_some (sym new ∙ ap (get waiting) (λ i. (sym same i, sym n i)) ∙ waits) in
          let was : IsSomeAnd (get s.sessions session) (λ x. IsUsable x key.1) = subst (λ n. IsSomeAnd (get s.sessions n) (λ x. IsUsable x key.1)) same (usable key w waits) in
          subst
          (λ n. IsSomeAnd (get (after s (Finished session number request answer)).sessions n) (λ x. IsUsable x key.1))
          (sym same)
          (put_own s.sessions session number key.1 (record { request = request; answer = answer; place = s.place }) (get s.sessions session) refl differs was)
      | inr other ↦
          subst
          (λ (o : Option Session). IsSomeAnd o (λ x. IsUsable x key.1))
          (sym (put_other s.sessions session key.0 _ other))
          (usable key w waits)
    ]

-- what still waits without one of them was usable before
pub removed_usable : (s : ServerState) (waiting : WaitingAccesses) (k : ℕ × ℕ) → AreUsable s waiting → AreUsable s (remove waiting k)
removed_usable s waiting k usable key w waits =
    elim (key_cases key k) as (λ _. IsSomeAnd (get s.sessions key.0) (λ x. IsUsable x key.1)) [
      | inl same ↦ none_some (sym (ap (get (remove waiting k)) same ∙ get-remove_here waiting k) ∙ waits)
      | inr other ↦ usable key w (sym (get-remove_other waiting k key other) ∙ waits)
    ]

pub turn_usable : (s : ServerState) (waiting : WaitingAccesses) (e : Entry) → AreUsable s waiting → IsTurn s waiting e → AreUsable (after s e) (without_turn waiting e)
turn_usable s waiting e usable t =
    subst
    (λ (e : Entry). AreUsable (after s e) (without_turn waiting e))
    (sym t.entry)
    (finished_usable s (remove waiting (t.session, t.number)) t.session t.number (request_of t.waiter) t.answer (removed_usable s waiting (t.session, t.number) usable) (get-remove_here waiting (t.session, t.number)))

pub turn_legal : (s : ServerState) (waiting : WaitingAccesses) (e : Entry) → AreUsable s waiting → s.place < 2 ^ 63 - 1 → IsTurn s waiting e → IsLegal s e
turn_legal s waiting e usable place t =
    subst (IsLegal s) (sym t.entry) (record { has_place = place; allowed = usable (t.session, t.number) t.waiter t.waits; answered = t.answered })

pub turns_legal : (s : ServerState) (waiting : WaitingAccesses) (es : List Entry) → AreUsable s waiting → s.place + length es ≤ 2 ^ 63 - 1 → AreTurns s waiting es → AreLegal s es
turns_legal s waiting [] usable places turns = tt
turns_legal s waiting (e ∷ es) usable places turns =
    (turn_legal s waiting e usable (omega (arith, places)) turns.0, turns_legal (after s e) (without_turn waiting e) es (turn_usable s waiting e usable turns.0) (omega (arith, places)) turns.1)

pub serves_legally : (s s' : ServerState) (waiting waiting' : WaitingAccesses) (es : List Entry) → AreUsable s waiting → s.place + length es ≤ 2 ^ 63 - 1 → Serves s waiting es s' waiting' → AreLegal s es
serves_legally s s' waiting waiting' es usable places serves = turns_legal s waiting es usable places serves.turns

-- one turn more, after others
pub turns_then : (s : ServerState) (waiting : WaitingAccesses) (es : List Entry) (e : Entry) → AreTurns s waiting es → IsTurn (after_all s es) (without_turns waiting es) e → AreTurns s waiting (es ++ e ∷ [])
turns_then s waiting [] e turns turn = (turn, tt)
turns_then s waiting (x ∷ es) e turns turn = (turns.0, turns_then (after s x) (without_turn waiting x) es e turns.1 turn)

pub after_then : (s : ServerState) (es : List Entry) (e : Entry) → after_all s (es ++ e ∷ []) ≡ after (after_all s es) e
after_then s [] e = refl
after_then s (x ∷ es) e = after_then (after s x) es e

pub without_then : (waiting : WaitingAccesses) (es : List Entry) (e : Entry) → without_turns waiting (es ++ e ∷ []) ≡ without_turn (without_turns waiting es) e
without_then waiting [] e = refl
without_then waiting (x ∷ es) e = without_then (without_turn waiting x) es e

-- turns after turns
pub turns_append : (s : ServerState) (waiting : WaitingAccesses) (es fs : List Entry) → AreTurns s waiting es → AreTurns (after_all s es) (without_turns waiting es) fs → AreTurns s waiting (es ++ fs)
turns_append s waiting [] fs turns more = more
turns_append s waiting (e ∷ es) fs turns more = (turns.0, turns_append (after s e) (without_turn waiting e) es fs turns.1 more)

pub without_append : (waiting : WaitingAccesses) (es fs : List Entry) → without_turns waiting (es ++ fs) ≡ without_turns (without_turns waiting es) fs
without_append waiting [] fs = refl
without_append waiting (e ∷ es) fs = without_append (without_turn waiting e) es fs

pub turns_usable : (s : ServerState) (waiting : WaitingAccesses) (es : List Entry) → AreUsable s waiting → AreTurns s waiting es → AreUsable (after_all s es) (without_turns waiting es)
turns_usable s waiting [] usable turns = usable
turns_usable s waiting (e ∷ es) usable turns = turns_usable (after s e) (without_turn waiting e) es (turn_usable s waiting e usable turns.0) turns.1

pub turns_place : (s : ServerState) (es : List Entry) → (after_all s es).place ≡ s.place + length es
turns_place s [] = omega arith
turns_place s (e ∷ es) = let rest = turns_place (after s e) es in omega (arith, rest)
