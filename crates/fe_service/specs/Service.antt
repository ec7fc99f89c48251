-- The service of waiting requests: which of them may be served, and what serving them leaves. A request may
-- be served once it has a reply: once its word has the tag that its operation needs, or its array is gone
-- (`docs/model.md`, "The service").
use Rattle.std.specs.Prelude.{◌≡◌, ℕ, Some, None, IsSome, IsSomeAnd, false, List, [], ◌∷◌, Bool, not, is_some}
use Rattle.std.specs.Prelude.{refl, ◌+◌, ◌≤◌, length}
use Rattle.std.specs.FinMap.{FinMap, get, remove, code}
use Rattle.fe_waits.specs.Waiting.{pair_cmp, WaitingAccess, waiting_access_code}
use Rattle.fe_state.specs.State.{ServerState, reply, after, after_all, state_code}
use Rattle.fe_state.specs.Sessions.{IsUsable}
use Rattle.fe_state.specs.declared.answer.Answer.{Answer}
use Rattle.fe_state.specs.declared.request.Request.{Request}
use Rattle.fe_state.specs.declared.request.Request.TheVariants.{Access}
use Rattle.fe_state.specs.declared.entry.Entry.{Entry}
use Rattle.fe_state.specs.declared.entry.Entry.TheVariants.{Attached, Closed, Settled, Finished}
use Rattle.std.specs.Option.{option_map_or}
use Rattle.std.specs.Ordering.{nat_cmp}
use Rattle.std.specs.Coded.{Coded, code_by, coded×, coded_ℕ, coded_list}
use Rattle.fe_state.specs.Directory.{words_in}
use Rattle.fe_state.specs.contracts.entry.Entry.{the_row as entry_row}
use Rattle.fe_service.specs.declared.service_inner.ServiceInner.{ServiceInner}
use Rattle.fe_service.specs.declared.attachment.Attachment.{Attachment}
use Rattle.fe_service.specs.contracts.attachment.Attachment.{the_row as attachment_row}
use Rattle.fe_state.specs.History.{AreLegal}
use Rattle.fe_state.specs.Limits.{greatest_place}

-- what waits, by session and number
abbrev pub WaitingAccesses : Type 0
WaitingAccesses = FinMap pair_cmp WaitingAccess

-- the request of a waiting access; one that must not wait never does
abbrev pub request_of : WaitingAccess → Request
request_of w = Access w.array w.index w.op false

-- a waiting request may be served if it has a reply
abbrev pub IsEligible : ServerState → WaitingAccess → Type 0
IsEligible s w = IsSome (reply s (request_of w))

-- no waiting request may be served
abbrev pub IsQuiet : ServerState → WaitingAccesses → Type 0
IsQuiet s waiting =
    (key : ℕ × ℕ) (w : WaitingAccess) → get waiting key ≡ Some w → reply s (request_of w) ≡ None

-- each waiting request has its session in the state, and its number is in the session's window with nothing
-- kept
abbrev pub AreUsable : ServerState → WaitingAccesses → Type 0
AreUsable s waiting = (key : ℕ × ℕ) (w : WaitingAccess) → get waiting key ≡ Some w
    → IsSomeAnd (get s.sessions key.0) (λ x. IsUsable x key.1)

-- the entry serves a waiting request, whichever may be served: it finishes the request with its reply
pub record IsTurn (s : ServerState) (waiting : WaitingAccesses) (e : Entry) : Type 0 where
  pub session : ℕ
  pub number : ℕ
  pub waiter : WaitingAccess
  pub answer : Answer
  pub waits : get waiting (session, number) ≡ Some waiter
  pub answered : reply s (request_of waiter) ≡ Some answer
  pub entry : e ≡ Finished session number (request_of waiter) answer

-- what waits without the request that the entry finishes
abbrev pub without_turn : WaitingAccesses → Entry → WaitingAccesses
without_turn waiting (Attached session floor) = waiting
without_turn waiting (Closed session) = waiting
without_turn waiting (Settled session floor) = waiting
without_turn waiting (Finished session number request answer) = remove waiting (session, number)

-- what waits without the requests that the entries finish, the first of them first
abbrev pub without_turns : WaitingAccesses → List Entry → WaitingAccesses
without_turns waiting [] = waiting
without_turns waiting (e ∷ es) = without_turns (without_turn waiting e) es

-- the entries serve waiting requests, one after the other
abbrev pub AreTurns : ServerState → WaitingAccesses → List Entry → Type 0
AreTurns s waiting [] = Unit {0}
AreTurns s waiting (e ∷ es) = IsTurn s waiting e × AreTurns (after s e) (without_turn waiting e) es

-- The service of what waits: one request after the other is served, in whichever order, until no more may be.
pub record Serves (s : ServerState) (waiting : WaitingAccesses) (es : List Entry) (s' : ServerState)
    (waiting' : WaitingAccesses) : Type 0 where
  pub turns : AreTurns s waiting es
  pub state : s' ≡ after_all s es
  pub rest : waiting' ≡ without_turns waiting es
  pub quiet : IsQuiet s' waiting'

-- ---- the service as its callers see it

-- the state; the attachments, by session; what waits; and the entries made since they were last taken
pub record ServiceState : Type 0 where
  pub state : ServerState
  pub attachments : FinMap nat_cmp Attachment
  pub waiting : WaitingAccesses
  pub pending : List Entry

-- for proofs, a service is coded as the tuple of its fields
abbrev pub service_code : Coded ServiceState
service_code =
    code_by
    (ServerState × (FinMap nat_cmp Attachment × (WaitingAccesses × List Entry)))
    (coded×
    state_code
    (coded× (code coded_ℕ attachment_row.coded)
    (coded× (code (coded× coded_ℕ coded_ℕ) waiting_access_code) (coded_list entry_row.coded))))
    (λ s. (s.state, (s.attachments, (s.waiting, s.pending))))
    (λ t. record { state = t.0; attachments = t.1.0; waiting = t.1.1.0; pending = t.1.1.1 })
    (λ _. refl)

-- the session has an attachment and is not closing
abbrev pub is_open : FinMap nat_cmp Attachment → ℕ → Bool
is_open attachments session =
    option_map_or (λ attachment. not attachment.closing) (get attachments session) false

-- What is always true: each request that waits has its session in the state and a number that is usable
-- there; none of them may be served; and the sessions of the state are those that have an attachment and are
-- not closing.
pub record IsService (s : ServiceState) : Type 0 where
  pub usable : AreUsable s.state s.waiting
  pub quiet : IsQuiet s.state s.waiting
  pub has_attachment : (session : ℕ) → is_some (get s.state.sessions session) ≡ is_open s.attachments session

-- a service as its callers see it, given its parts
abbrev pub service_of : ServiceInner → ServiceState
service_of p = record {
  state = p.state;
  attachments = p.attachments.attachments;
  waiting = p.attachments.waiting;
  pending = p.pending;
}

-- the parts are those of a service, and the waiting lists have exactly the state's arrays, each with its
-- length
pub record AreSoundParts (p : ServiceInner) : Type 0 where
  pub service : IsService (service_of p)
  pub arrays : (id : ℕ) → get p.attachments.arrays id ≡ words_in (get p.state.arrays id)

-- If each waiting request is usable and there is a place for each entry that serves one, these entries are
-- legal one after the other.
abbrev pub ServesLegally : Type 0
ServesLegally = (s s' : ServerState) (waiting waiting' : WaitingAccesses) (es : List Entry)
    → AreUsable s waiting → s.place + length es ≤ greatest_place → Serves s waiting es s' waiting'
    → AreLegal s es
