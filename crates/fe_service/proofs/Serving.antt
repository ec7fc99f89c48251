-- What one turn leaves of the parts of a service, and when a word is at rest.
use Rattle.std.proofs.Common.{◌≡◌, ℕ, ◌+◌, inl, inr, Some, None, List, [], ◌∷◌, ◌++◌, length, length-append, refl, sym, ap, subst, ◌∙◌, arith}
use Rattle.std.specs.FinMap.{get, remove, len}
use Rattle.fe_words.specs.declared.word.Tag.{Tag}
use Rattle.fe_waits.specs.Waiting.{WaitingAccess, IsOn}
use Rattle.fe_waits.proofs.MemberLemmas.{key_cases, none_some, get-remove_here, get-remove_other, len-remove_old, len-positive}
use Rattle.fe_state.specs.Directory.{words_in}
use Rattle.fe_state.specs.Effect.{IsOwnWord}
use Rattle.fe_state.specs.State.{ServerState, reply, after, after_all, directory_of}
use Rattle.fe_state.specs.declared.entry.Entry.{Entry}
use Rattle.fe_service.specs.Service.{WaitingAccesses, AreUsable, request_of, IsTurn, AreTurns, without_turn, without_turns}
use Rattle.fe_service.specs.within.ServiceInner.{IsQuietAt, WaitAtTag, TakesTurn, TakesTurns}
use Rattle.fe_service.specs.declared.service_inner.ServiceInner.{ServiceInner}
use Rattle.fe_service.proofs.Replies.{other_waits}
use Rattle.fe_service.proofs.Lengths.{turns_lengths}
use Rattle.fe_service.proofs.Turns.{turns_usable, turns_place, turns_then, after_then, without_then, turns_append, without_append}
use Rattle.fe_state.proofs.Histories.{after-append}

-- no turn taken yet
pub none_taken : (p : ServiceInner) → TakesTurns p p []
none_taken p = record { turns = tt; state = refl; waiting = refl; attachments = refl; arrays = refl; pending = nothing p.pending }
  where
    nothing : (es : List Entry) → es ≡ es ++ []
    nothing [] = refl
    nothing (e ∷ es) = ap (λ rest. e ∷ rest) (nothing es)

append_assoc : (xs ys zs : List Entry) → (xs ++ ys) ++ zs ≡ xs ++ (ys ++ zs)
append_assoc [] ys zs = refl
append_assoc (x ∷ xs) ys zs = ap (λ rest. x ∷ rest) (append_assoc xs ys zs)

-- one turn more
pub taken_then : (old mid new : ServiceInner) (es : List Entry) (array index : ℕ) (e : Entry) → TakesTurns old mid es → TakesTurn mid new array index e → TakesTurns old new (es ++ e ∷ [])
taken_then old mid new es array index e before t = record {
  turns =
      turns_then
      old.state
      old.attachments.waiting
      es
      e
      before.turns
      (subst (λ w. IsTurn (after_all old.state es) w e) before.waiting (subst (λ s. IsTurn s mid.attachments.waiting e) before.state t.turn));
  state = t.state ∙ ap (λ s. after s e) before.state ∙ sym (after_then old.state es e);
  waiting = t.waiting ∙ ap (λ w. without_turn w e) before.waiting ∙ sym (without_then old.attachments.waiting es e);
  attachments = t.attachments ∙ before.attachments;
  arrays = t.arrays ∙ before.arrays;
  pending = t.pending ∙ ap (λ p. p ++ e ∷ []) before.pending ∙ append_assoc old.pending es (e ∷ []);
}

-- one fewer waits after a turn
pub turn_len : (s : ServerState) (waiting : WaitingAccesses) (e : Entry) → IsTurn s waiting e → len (without_turn waiting e) + 1 ≡ len waiting
turn_len s waiting e t =
    let fewer = len-remove_old waiting (t.session, t.number) t.waiter t.waits in
    let some = len-positive waiting (t.session, t.number) t.waiter t.waits in
    subst (λ (e : Entry). len (without_turn waiting e) + 1 ≡ len waiting) (sym t.entry) (omega (arith, fewer, some))

-- what waits after a turn waited before
pub turn_within : (s : ServerState) (waiting : WaitingAccesses) (e : Entry) → IsTurn s waiting e → (key : ℕ × ℕ) (w : WaitingAccess) → get (without_turn waiting e) key ≡ Some w → get waiting key ≡ Some w
turn_within s waiting e t key w waits =
    let left : get (remove waiting (t.session, t.number)) key ≡ Some w = subst (λ (e : Entry). get (without_turn waiting e) key ≡ Some w) t.entry waits in
    elim (key_cases key (t.session, t.number)) as (λ _. get waiting key ≡ Some w) [
      | inl same ↦ none_some (sym (ap (get (remove waiting (t.session, t.number))) same ∙ get-remove_here waiting (t.session, t.number)) ∙ left)
      | inr other ↦ sym (get-remove_other waiting (t.session, t.number) key other) ∙ left
    ]

-- a turn on one word leaves the others quiet
pub turn_beside : (s : ServerState) (waiting : WaitingAccesses) (e : Entry) (t : IsTurn s waiting e) (array index b j : ℕ) → IsOn t.waiter array index → ¬ ((b ≡ array) × (j ≡ index))
    → IsQuietAt s waiting b j → IsQuietAt (after s e) (without_turn waiting e) b j
turn_beside s waiting e t array index b j on differs quiet key w waits on_w =
    let was : get waiting key ≡ Some w = turn_within s waiting e t key w waits in
    let other : ¬ IsOwnWord (directory_of s) (request_of t.waiter) w.array w.index = λ own. differs (sym on_w.0 ∙ own.0 ∙ on.0, sym on_w.1 ∙ own.1 ∙ on.1) in
    subst
    (λ (e : Entry). reply (after s e) (request_of w) ≡ None)
    (sym t.entry)
    (other_waits (directory_of s) (request_of t.waiter) w.array w.index w.op other (quiet key w was on_w))

-- fewer that wait at a tag wait at it
pub fewer_at_tag : (many few : WaitingAccesses) (array index : ℕ) (tag : Tag) → ((key : ℕ × ℕ) (w : WaitingAccess) → get few key ≡ Some w → get many key ≡ Some w) → WaitAtTag many array index tag → WaitAtTag few array index tag
fewer_at_tag many few array index tag within at key w waits on = at key w (within key w waits) on

-- turns after turns
pub taken_join : (old mid new : ServiceInner) (es fs : List Entry) → TakesTurns old mid es → TakesTurns mid new fs → TakesTurns old new (es ++ fs)
taken_join old mid new es fs before t = record {
  turns =
      turns_append
      old.state
      old.attachments.waiting
      es
      fs
      before.turns
      (subst (λ w. AreTurns (after_all old.state es) w fs) before.waiting (subst (λ s. AreTurns s mid.attachments.waiting fs) before.state t.turns));
  state = t.state ∙ ap (λ s. after_all s fs) before.state ∙ sym (after-append old.state es fs);
  waiting = t.waiting ∙ ap (λ w. without_turns w fs) before.waiting ∙ sym (without_append old.attachments.waiting es fs);
  attachments = t.attachments ∙ before.attachments;
  arrays = t.arrays ∙ before.arrays;
  pending = t.pending ∙ ap (λ p. p ++ fs) before.pending ∙ append_assoc old.pending es fs;
}

pub turns_len : (s : ServerState) (waiting : WaitingAccesses) (es : List Entry) → AreTurns s waiting es → length es + len (without_turns waiting es) ≡ len waiting
turns_len s waiting [] turns = omega arith
turns_len s waiting (e ∷ es) turns =
    let one = turn_len s waiting e turns.0 in
    let rest = turns_len (after s e) (without_turn waiting e) es turns.1 in
    omega (arith, one, rest)

pub turns_within : (s : ServerState) (waiting : WaitingAccesses) (es : List Entry) → AreTurns s waiting es → (key : ℕ × ℕ) (w : WaitingAccess) → get (without_turns waiting es) key ≡ Some w → get waiting key ≡ Some w
turns_within s waiting [] turns key w waits = waits
turns_within s waiting (e ∷ es) turns key w waits = turn_within s waiting e turns.0 key w (turns_within (after s e) (without_turn waiting e) es turns.1 key w waits)

-- what holds of the parts after turns
pub taken_usable : (old new : ServiceInner) (es : List Entry) → AreUsable old.state old.attachments.waiting → TakesTurns old new es → AreUsable new.state new.attachments.waiting
taken_usable old new es usable t =
    subst
    (λ s. AreUsable s new.attachments.waiting)
    (sym t.state)
    (subst (λ w. AreUsable (after_all old.state es) w) (sym t.waiting) (turns_usable old.state old.attachments.waiting es usable t.turns))

pub taken_len : (old new : ServiceInner) (es : List Entry) → TakesTurns old new es → length es + len new.attachments.waiting ≡ len old.attachments.waiting
taken_len old new es t = subst (λ w. length es + len w ≡ len old.attachments.waiting) (sym t.waiting) (turns_len old.state old.attachments.waiting es t.turns)

pub taken_places : (old new : ServiceInner) (es : List Entry) → TakesTurns old new es → new.state.place + len new.attachments.waiting ≡ old.state.place + len old.attachments.waiting
taken_places old new es t =
    let fewer = taken_len old new es t in
    let place = ap (λ s. s.place) t.state ∙ turns_place old.state es in
    omega (arith, fewer, place)

pub taken_room : (old new : ServiceInner) (es : List Entry) → TakesTurns old new es → length new.pending + len new.attachments.waiting ≡ length old.pending + len old.attachments.waiting
taken_room old new es t =
    let fewer = taken_len old new es t in
    let longer = ap length t.pending ∙ length-append old.pending es in
    omega (arith, fewer, longer)

pub taken_within : (old new : ServiceInner) (es : List Entry) → TakesTurns old new es → (key : ℕ × ℕ) (w : WaitingAccess) → get new.attachments.waiting key ≡ Some w → get old.attachments.waiting key ≡ Some w
taken_within old new es t key w waits = turns_within old.state old.attachments.waiting es t.turns key w (subst (λ m. get m key ≡ Some w) t.waiting waits)

pub taken_lengths : (old new : ServiceInner) (es : List Entry) → TakesTurns old new es → (a : ℕ) → words_in (get new.state.arrays a) ≡ words_in (get old.state.arrays a)
taken_lengths old new es t a = ap (λ s. words_in (get s.arrays a)) t.state ∙ turns_lengths old.state old.attachments.waiting es t.turns a
