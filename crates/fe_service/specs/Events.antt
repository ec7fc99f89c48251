-- What the events of the front require of a service, and what they leave of it: the state, the sessions'
-- attachments, and what waits. See `docs/model.md`, "The service".
use Rattle.std.specs.Prelude.{◌≡◌, ℕ, ◌+◌, ◌<◌, ◌≤◌, List, [], ◌∷◌, ◌++◌, length, false, Option, Some, None}
use Rattle.std.specs.Prelude.{IsSome, IsSomeAnd}
use Rattle.std.specs.Option.{option_map, option_map_or}
use Rattle.std.specs.Ordering.{nat_cmp}
use Rattle.std.specs.FinMap.{FinMap, get, insert, remove, len}
use Rattle.fe_waits.specs.Waiting.{WaitingAccess}
use Rattle.fe_service.specs.AttachmentsState.{without_session, with_holder, with_closing, is_closing}
use Rattle.fe_service.specs.AttachmentsState.{free_attachment}
use Rattle.fe_service.specs.declared.attachment.Attachment.{Attachment}
use Rattle.fe_state.specs.Sessions.{Session, MayRise, IsUsable}
use Rattle.fe_state.specs.Effect.{effect_of}
use Rattle.fe_state.specs.State.{after, directory_of, reply}
use Rattle.fe_state.specs.declared.answer.Answer.{Answer}
use Rattle.fe_state.specs.declared.effect.Effect.{Effect}
use Rattle.fe_state.specs.declared.request.Request.{Request}
use Rattle.fe_state.specs.declared.entry.Entry.{Entry}
use Rattle.fe_state.specs.declared.entry.Entry.TheVariants.{Attached, Closed, Settled}
use Rattle.fe_service.specs.Service.{Serves, ServiceState}
use Rattle.fe_state.specs.Limits.{most_event_entries, greatest_place, most_waiting, most_sessions}

-- a session may finish this number: it is in the window, nothing is kept for it, and no request waits under
-- it
pub record IsFree (s : ServiceState) (session number : ℕ) : Type 0 where
  pub usable : IsSomeAnd (get s.state.sessions session) (λ x. IsUsable x number)
  pub new : get s.waiting (session, number) ≡ None

-- there are places for all entries that one event may add, and room for them among the pending entries
pub record HasRoom (s : ServiceState) : Type 0 where
  pub places : s.state.place + most_event_entries ≤ greatest_place
  pub few : length s.pending ≤ most_waiting

-- a request may complete now with this answer and this effect: its number is free, they are the reply and the
-- effect that it has, and there is room for the entries
pub record MayComplete (s : ServiceState) (session number : ℕ) (request : Request) (answer : Answer)
    (effect : Effect) : Type 0 where
  pub free : IsFree s session number
  pub answered : reply s.state request ≡ Some answer
  pub changes : effect_of (directory_of s.state) request ≡ effect
  pub room : HasRoom s

-- the event makes an entry of its own, and then those of the waiting requests that it lets be served
pub record Completes (old new : ServiceState) (own : Entry) (served : List Entry) : Type 0 where
  pub serves : Serves (after old.state own) old.waiting served new.state new.waiting
  pub pending : new.pending ≡ old.pending ++ own ∷ served
  pub attachments : new.attachments ≡ old.attachments

-- the service after this entry
abbrev pub entered : ServiceState → Entry → ServiceState
entered s e = record s { state = after s.state e; pending = s.pending ++ e ∷ [] }

-- the floor of a session, or 1 if the session begins
abbrev pub floor_of : ServiceState → ℕ → ℕ
floor_of s session = option_map_or (λ x. x.floor) (get s.state.sessions session) 1

-- the service after a connection attached a session
abbrev pub attached : ServiceState → ℕ → ℕ → ServiceState
attached s session conn =
    record (entered s (Attached session (floor_of s session)))
    { attachments = insert s.attachments session (record { holder = Some conn; closing = false }) }

-- the service after a session's floor rose
abbrev pub settled : ServiceState → ℕ → ℕ → ServiceState
settled s session floor = entered s (Settled session floor)

-- the service after a session was closed: nothing of it waits, and it is closing
abbrev pub closed : ServiceState → ℕ → ServiceState
closed s session = record (entered s (Closed session))
    { waiting = without_session s.waiting session; attachments = with_closing s.attachments session }

-- the service after all waiting requests of a session were withdrawn
abbrev pub withdrawn : ServiceState → ℕ → ServiceState
withdrawn s session = record s { waiting = without_session s.waiting session }

-- the service after the request of a session's number was withdrawn, if it waited
abbrev pub cancelled : ServiceState → ℕ → ℕ → ServiceState
cancelled s session number = record s { waiting = remove s.waiting (session, number) }

-- the service after a connection got a session, or lost it
abbrev pub held : ServiceState → ℕ → Option ℕ → ServiceState
held s session holder = record s { attachments = with_holder s.attachments session holder }

-- the service after the attachment of a session was removed
abbrev pub left : ServiceState → ℕ → ServiceState
left s session = record s { attachments = remove s.attachments session }

-- the service after a request began to wait
abbrev pub waited : ServiceState → ℕ → ℕ → WaitingAccess → ServiceState
waited s session number waiter = record s { waiting = insert s.waiting (session, number) waiter }

-- a session may settle at this floor now: the floor may rise to it, all its requests that wait have that
-- number or a greater one, and there is room for the entries of an event
pub record MaySettle (s : ServiceState) (session floor : ℕ) : Type 0 where
  pub rises : IsSomeAnd (get s.state.sessions session) (λ x. MayRise x.floor floor)
  pub above : (number : ℕ) (w : WaitingAccess) → get s.waiting (session, number) ≡ Some w → floor ≤ number
  pub room : HasRoom s

-- a session has an attachment, or there is room for one, and it is not closing
pub record IsAttachable (s : ServiceState) (session : ℕ) : Type 0 where
  pub not_closing : is_closing s.attachments session ≡ false
  pub attachment : get s.attachments session ≡ None → len s.attachments < most_sessions

-- a session may be attached now: it is attachable, and there is room for the entries of an event
pub record MayAttach (s : ServiceState) (session : ℕ) : Type 0 where
  pub attachable : IsAttachable s session
  pub room : HasRoom s

-- a session may be closed now: it is in the state, and there is room for the entries of an event
pub record MayClose (s : ServiceState) (session : ℕ) : Type 0 where
  pub exists : IsSome (get s.state.sessions session)
  pub room : HasRoom s

-- each session of the state has an attachment that no connection has, and no other session has one
abbrev pub AreFreeAttachments : FinMap nat_cmp Session → FinMap nat_cmp Attachment → Type 0
AreFreeAttachments sessions attachments =
    (session : ℕ) → get attachments session ≡ option_map (λ _. free_attachment) (get sessions session)
