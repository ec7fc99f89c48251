-- What a message of a connection does to the front: it is an event, or is refused (`docs/model.md`, "Messages
-- and mails").
use Rattle.std.specs.Prelude.{◌≡◌, ◌≢◌, ◌⊎◌, ℕ, List, [], Err, true, ◌++◌, Option, Some, IfSome}
use Rattle.std.specs.FinMap.{get}
use Rattle.fe_memory.specs.Memory.{out_of_memory}
use Rattle.fe_service.specs.Service.{request_of}
use Rattle.fe_state.specs.declared.entry.Entry.{Entry}
use Rattle.fe_state.specs.declared.entry.Entry.TheVariants.{Attached, Closed, Settled, Finished}
use Rattle.fe_state.specs.declared.request.Request.{Request}
use Rattle.fe_mail.specs.declared.mail.Mail.TheVariants as mail
use Rattle.fe_mail.specs.declared.refusal.Refusal.{Refusal}
use Rattle.fe_mail.specs.declared.refusal.Refusal.TheVariants.{NoMemory}
use Rattle.fe_wire.specs.declared.client_message.ClientMessage.{ClientMessage}
use Rattle.fe_wire.specs.declared.client_message.ClientMessage.TheVariants.{Attach, Call, Cancel, Settle, Bye}
use Rattle.fe_wire.specs.declared.client_message.ClientMessage.TheVariants.{Report}
use Rattle.fe_report.specs.Report.{report_text, held_attachments}
use Rattle.fe_front.specs.Front.{FrontState, is_connected}
use Rattle.fe_front.specs.Event as event
use Rattle.fe_front.specs.Step.{FrontStep}
use Rattle.fe_front.specs.Steps.{mailed}
use Rattle.fe_front.specs.Call.{attaching, settling, leaving, cancelling, IsCallRefused, WantsMemory}
use Rattle.fe_front.specs.Call.{call_refused_by}
use Rattle.fe_front.specs.declared.outcome.Outcome.{Outcome}
use Rattle.fe_state.specs.History.{AreLegal}
use Rattle.fe_state.specs.State.{after_all}
use Rattle.fe_service.specs.AttachmentsState.{holder_of}
use Rattle.fe_mail.specs.Connections.{session_on}

-- a message is refused: a mail that says why comes to its connection (`mailed`), and no entry is made
pub record IsRefused (f : FrontState) (conn number : ℕ) (refusal : Refusal) (es : List Entry)
    (g : FrontState) : Type 0 where
  pub entries : es ≡ []
  pub front : g ≡ mailed f conn (mail.Refused number refusal)

-- a call is refused for the reason that `IsCallRefused` gives, or because memory that it needs is short
abbrev pub MayRefuse : FrontState → ℕ → ℕ → Request → Refusal → Type 0
MayRefuse f conn number request refusal =
    IsCallRefused f conn number request refusal
    ⊎ ((refusal ≡ NoMemory out_of_memory) × WantsMemory f conn number request)

-- what a message of a connection does, with the entries that it makes
abbrev pub Takes : FrontState → ℕ → ClientMessage → List Entry → FrontState → Type 0
Takes f conn (Attach session) es g =
    FrontStep f (event.Attach conn session) es g
    ⊎ ((r : Refusal) × (attaching f conn session ≡ Err r) × IsRefused f conn session r es g)
Takes f conn (Call number request) es g =
    ((outcome : Outcome) × FrontStep f (event.Call conn number request outcome) es g)
    ⊎ ((r : Refusal) × MayRefuse f conn number request r × IsRefused (call_refused_by f) conn number r es g)
Takes f conn (Cancel number) es g =
    FrontStep f (event.Cancel conn number) es g
    ⊎ ((r : Refusal) × (cancelling f conn number ≡ Err r) × IsRefused f conn number r es g)
Takes f conn (Settle floor) es g =
    FrontStep f (event.Settle conn floor) es g
    ⊎ ((r : Refusal) × (settling f conn floor ≡ Err r) × IsRefused f conn floor r es g)
Takes f conn Bye es g =
    FrontStep f (event.Bye conn) es g ⊎ ((r : Refusal) × (leaving f conn ≡ Err r) × IsRefused f conn 0 r es g)
Takes f conn Report es g =
    FrontStep f (event.GiveMail conn (mail.Report (report_text f.service.waiting (held_attachments f)))) es g
    ⊎ IsRefused f conn 0 (NoMemory out_of_memory) es g

-- the entries are legal, lead to the new state and are pending after the others; what is out and what is
-- durable stay; and no connection comes
pub record Enters (f : FrontState) (es : List Entry) (g : FrontState) : Type 0 where
  pub legal : AreLegal f.service.state es
  pub state : g.service.state ≡ after_all f.service.state es
  pub pending : g.service.pending ≡ f.service.pending ++ es
  pub out : g.out ≡ f.out
  pub durable : g.durable ≡ f.durable
  pub none_comes : (conn : ℕ) → is_connected g conn ≡ true → is_connected f conn ≡ true

-- ---- which sessions connections ask for

-- a message that was handed to a front, its connection, the session that the connection had then, if it had
-- one, and the place that the front's state had then
pub record Took : Type 0 where
  pub conn : ℕ
  pub had : Option ℕ
  pub place : ℕ
  pub message : ClientMessage

-- if the message asks for a session, that is one of these
abbrev pub AsksOnly : (ℕ → Type 0) → ClientMessage → Type 0
AsksOnly asked (Attach session) = asked session
AsksOnly asked (Call number request) = Unit {0}
AsksOnly asked (Cancel number) = Unit {0}
AsksOnly asked (Settle floor) = Unit {0}
AsksOnly asked Bye = Unit {0}
AsksOnly asked Report = Unit {0}

-- a connection has a session, and a session has a connection, only if the connection asked for the session
pub record HasOnly (asked : ℕ → ℕ → Type 0) (f : FrontState) : Type 0 where
  pub holders : (session conn : ℕ) → holder_of f.service.attachments session ≡ Some conn → asked conn session
  pub sessions : (conn session : ℕ) → session_on f.connections conn ≡ Some session → asked conn session

-- a request waits only if it was called, under its number of its session
abbrev pub WaitsOnly : (ℕ → ℕ → Request → Type 0) → FrontState → Type 0
WaitsOnly called f =
    (key : ℕ × ℕ) → IfSome (get f.service.waiting key) (λ w. called key.0 key.1 (request_of w))

-- if the message calls a request on the session that its connection has, that is one of these
abbrev pub CallsOnly : (ℕ → ℕ → Request → Type 0) → Option ℕ → ClientMessage → Type 0
CallsOnly called had (Attach session) = Unit {0}
CallsOnly called had (Call number request) = IfSome had (λ session. called session number request)
CallsOnly called had (Cancel number) = Unit {0}
CallsOnly called had (Settle floor) = Unit {0}
CallsOnly called had Bye = Unit {0}
CallsOnly called had Report = Unit {0}

-- if the entry finishes a request, that is one of these
abbrev pub FinishesOnly : (ℕ → ℕ → Request → Type 0) → Entry → Type 0
FinishesOnly called (Attached session floor) = Unit {0}
FinishesOnly called (Closed session) = Unit {0}
FinishesOnly called (Settled session floor) = Unit {0}
FinishesOnly called (Finished session number request answer) = called session number request

-- the entry does not close this session
abbrev pub LeavesOpen : ℕ → Entry → Type 0
LeavesOpen session (Attached other floor) = Unit {0}
LeavesOpen session (Closed other) = session ≢ other
LeavesOpen session (Settled other floor) = Unit {0}
LeavesOpen session (Finished other number request answer) = Unit {0}
