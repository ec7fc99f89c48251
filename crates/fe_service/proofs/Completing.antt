-- What an entry of its own and the turns after it leave of a service.
use Rattle.std.proofs.Common.{◌≡◌, ℕ, inl, inr, Option, Some, None, List, [], ◌∷◌, ◌++◌, refl, sym, ap, subst, ◌∙◌}
use Rattle.std.specs.Prelude.{is_some}
use Rattle.std.specs.Option.{option_map}
use Rattle.std.specs.Ordering.{nat_cmp}
use Rattle.std.specs.FinMap.{FinMap, get, insert}
use Rattle.fe_state.proofs.Maps.{get_inserted, get_beside, same_or_other}
use Rattle.fe_state.specs.Sessions.{Session, keeping, put_session}
use Rattle.fe_state.specs.State.{ServerState, after, after_all, directory_of}
use Rattle.fe_state.specs.Effect.{IsOwnWord}
use Rattle.fe_state.specs.declared.kept.Kept.{Kept}
use Rattle.fe_state.specs.declared.answer.Answer.{Answer}
use Rattle.fe_state.specs.declared.request.Request.{Request}
use Rattle.fe_state.specs.declared.entry.Entry.{Entry}
use Rattle.fe_state.specs.declared.entry.Entry.TheVariants.{Finished}
use Rattle.fe_service.specs.Service.{WaitingAccesses, AreUsable, IsQuiet, IsTurn, AreTurns, without_turn, without_turns, ServiceState, IsService, is_open, service_of}
use Rattle.fe_service.specs.Events.{IsFree, Completes}
use Rattle.fe_service.specs.within.ServiceInner.{IsQuietAt, TakesTurns}
use Rattle.fe_service.specs.declared.service_inner.ServiceInner.{ServiceInner}
use Rattle.fe_service.proofs.Quiet.{own_beside}
use Rattle.fe_service.proofs.Turns.{finished_usable}
use Rattle.fe_service.proofs.Serving.{taken_usable}

-- a session that finishes a number stays where it is, and no session comes or goes
put_present : (sessions : FinMap nat_cmp Session) (session number other : ℕ) (k : Kept) (here : Option Session) → get sessions session ≡ here
    → is_some (get (put_session sessions session (option_map (λ x. keeping x number k) here)) other) ≡ is_some (get sessions other)
put_present sessions session number other k None is = refl
put_present sessions session number other k (Some x) is =
    elim (same_or_other other session) as (λ _. is_some (get (insert sessions session (keeping x number k)) other) ≡ is_some (get sessions other)) [
      | inl same ↦
          ap (λ n. is_some (get (insert sessions session (keeping x number k)) n)) same
          ∙ ap is_some (get_inserted sessions session (keeping x number k))
          ∙ sym (ap is_some is)
          ∙ ap (λ n. is_some (get sessions n)) (sym same)
      | inr differs ↦ ap is_some (get_beside sessions session (keeping x number k) other differs)
    ]

pub finished_present : (s : ServerState) (session number : ℕ) (request : Request) (answer : Answer) (other : ℕ) → is_some (get (after s (Finished session number request answer)).sessions other) ≡ is_some (get s.sessions other)
finished_present s session number request answer other =
    put_present s.sessions session number other (record { request = request; answer = answer; place = s.place }) (get s.sessions session) refl

turn_present : (s : ServerState) (waiting : WaitingAccesses) (e : Entry) → IsTurn s waiting e → (other : ℕ) → is_some (get (after s e).sessions other) ≡ is_some (get s.sessions other)
turn_present s waiting e t other = subst (λ (e : Entry). is_some (get (after s e).sessions other) ≡ is_some (get s.sessions other)) (sym t.entry) (finished_present s t.session t.number _ t.answer other)

pub turns_present : (s : ServerState) (waiting : WaitingAccesses) (es : List Entry) → AreTurns s waiting es → (other : ℕ) → is_some (get (after_all s es).sessions other) ≡ is_some (get s.sessions other)
turns_present s waiting [] turns other = refl
turns_present s waiting (e ∷ es) turns other = turns_present (after s e) (without_turn waiting e) es turns.1 other ∙ turn_present s waiting e turns.0 other

-- a number is free in equal services
pub free_in : {s t : ServiceState} {session number : ℕ} → s ≡ t → IsFree t session number → IsFree s session number
free_in {session = session} {number = number} same free = subst (λ (s : ServiceState). IsFree s session number) (sym same) free

-- what is known once it is entered
pub record IsEntered (old mid : ServiceInner) (own : Entry) : Type 0 where
  pub state : mid.state ≡ after old.state own
  pub waiting : mid.attachments.waiting ≡ old.attachments.waiting
  pub attachments : mid.attachments.attachments ≡ old.attachments.attachments
  pub pending : mid.pending ≡ old.pending ++ own ∷ []

pub entered_by : (old mid : ServiceInner) (own : Entry) → mid.state ≡ after old.state own → mid.attachments ≡ old.attachments → mid.pending ≡ old.pending ++ own ∷ [] → IsEntered old mid own
entered_by old mid own state attachments pending = record { state = state; waiting = ap (λ s. s.waiting) attachments; attachments = ap (λ s. s.attachments) attachments; pending = pending }

pub entered_usable : (old mid : ServiceInner) (session number : ℕ) (request : Request) (answer : Answer) → AreUsable old.state old.attachments.waiting → IsFree (service_of old) session number
    → IsEntered old mid (Finished session number request answer) → AreUsable mid.state mid.attachments.waiting
entered_usable old mid session number request answer usable free e =
    subst
    (λ s. AreUsable s mid.attachments.waiting)
    (sym e.state)
    (subst (λ w. AreUsable (after old.state (Finished session number request answer)) w) (sym e.waiting) (finished_usable old.state old.attachments.waiting session number request answer usable free.new))

append_one : (xs : List Entry) (x : Entry) (ys : List Entry) → (xs ++ x ∷ []) ++ ys ≡ xs ++ x ∷ ys
append_one [] x ys = refl
append_one (z ∷ xs) x ys = ap (λ rest. z ∷ rest) (append_one xs x ys)

-- with turns after it, and quiet at the end, it completes
pub entered_completes : (old mid new : ServiceInner) (own : Entry) (es : List Entry) → IsEntered old mid own → TakesTurns mid new es → IsQuiet new.state new.attachments.waiting → Completes (service_of old) (service_of new) own es
entered_completes old mid new own es e t quiet = record {
  serves = record {
    turns = subst (λ w. AreTurns (after old.state own) w es) e.waiting (subst (λ s. AreTurns s mid.attachments.waiting es) e.state t.turns);
    state = t.state ∙ ap (λ s. after_all s es) e.state;
    rest = t.waiting ∙ ap (λ w. without_turns w es) e.waiting;
    quiet = quiet;
  };
  pending = t.pending ∙ ap (λ p. p ++ es) e.pending ∙ append_one old.pending own es;
  attachments = t.attachments ∙ e.attachments;
}

-- an event of a service is one of its equal
pub completes_in : {s t u : ServiceState} {own : Entry} {es : List Entry} → s ≡ t → Completes s u own es → Completes t u own es
completes_in {u = u} {own = own} {es = es} same completes = subst (λ (s : ServiceState). Completes s u own es) same completes

-- and the parts are those of a service
pub entered_service : (old mid new : ServiceInner) (session number : ℕ) (request : Request) (answer : Answer) (es : List Entry) → IsService (service_of old) → IsFree (service_of old) session number
    → IsEntered old mid (Finished session number request answer) → TakesTurns mid new es → IsQuiet new.state new.attachments.waiting → IsService (service_of new)
entered_service old mid new session number request answer es service free e t quiet = record {
  usable = taken_usable mid new es (entered_usable old mid session number request answer service.usable free e) t;
  quiet = quiet;
  has_attachment = λ other.
      ap (λ s. is_some (get s.sessions other)) t.state
      ∙ turns_present mid.state mid.attachments.waiting es t.turns other
      ∙ ap (λ s. is_some (get s.sessions other)) e.state
      ∙ finished_present old.state session number request answer other
      ∙ service.has_attachment other
      ∙ sym (ap (λ attachments. is_open attachments other) (t.attachments ∙ e.attachments));
}

-- the words that it is not about are quiet still
pub entered_quiet_at : (old mid : ServiceInner) (session number : ℕ) (request : Request) (answer : Answer) → IsQuiet old.state old.attachments.waiting → IsEntered old mid (Finished session number request answer)
    → (b j : ℕ) → ¬ IsOwnWord (directory_of old.state) request b j → IsQuietAt mid.state mid.attachments.waiting b j
entered_quiet_at old mid session number request answer quiet e b j other =
    subst
    (λ s. IsQuietAt s mid.attachments.waiting b j)
    (sym e.state)
    (subst (λ w. IsQuietAt (after old.state (Finished session number request answer)) w b j) (sym e.waiting) (own_beside old.state old.attachments.waiting session number request answer quiet b j other))

-- what is quiet on each word is quiet
pub quiet_everywhere : (s : ServerState) (waiting : WaitingAccesses) → ((b j : ℕ) → IsQuietAt s waiting b j) → IsQuiet s waiting
quiet_everywhere s waiting at key w waits = at w.array w.index key w waits (refl, refl)
