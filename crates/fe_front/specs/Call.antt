-- Why an event is refused: the first reason that applies. And the outcomes of a call, a request of a client
-- under a number of its session, with what each leaves of a front (`docs/model.md`, "The front").
use Rattle.std.specs.Prelude.{◌≡◌, ℕ, zero, suc, ◌+◌, ◌||◌, ◌&&◌, Bool, false, not, if◌then◌else◌, nat_lt}
use Rattle.std.specs.Prelude.{is_some, is_none, Result, Ok, Err, IsTrue, ◌≢◌, true, List, [], ◌∷◌, length}
use Rattle.std.specs.Prelude.{Option, Some, None, MatchOption, MatchResult}
use Rattle.std.specs.Option.{option_map_or, option_map}
use Rattle.std.specs.FinMap.{get, len}
use Rattle.fe_service.specs.AttachmentsState.{is_closing}
use Rattle.fe_service.specs.Events.{floor_of, Completes, IsFree, waited}
use Rattle.fe_service.specs.Service.{WaitingAccesses, request_of}
use Rattle.fe_mail.specs.Connections.{session_on}
use Rattle.fe_mail.specs.declared.refusal.Refusal.{Refusal}
use Rattle.fe_mail.specs.declared.refusal.Refusal.TheVariants.{NotAttached, Closing, SessionLimit, BelowFloor}
use Rattle.fe_mail.specs.declared.refusal.Refusal.TheVariants.{BeyondWindow, StillWaiting, NotWaiting, Spent}
use Rattle.fe_mail.specs.declared.refusal.Refusal.TheVariants.{NumberUsed}
use Rattle.fe_front.specs.Front.{FrontState, has_room, is_connected, is_spent}
use Rattle.fe_state.specs.Limits.{greatest_floor, most_sessions, window_length}
use Rattle.fe_waits.specs.Waiting.{WaitingAccess}
use Rattle.fe_state.specs.Sessions.{kept_in}
use Rattle.fe_state.specs.State.{reply, MakesArray}
use Rattle.fe_state.specs.declared.answer.Answer.{Answer}
use Rattle.fe_state.specs.declared.entry.Entry.{Entry}
use Rattle.fe_state.specs.declared.entry.Entry.TheVariants.{Finished}
use Rattle.fe_state.specs.declared.kept.Kept.{Kept}
use Rattle.fe_state.specs.declared.request.Request.{Request}
use Rattle.fe_mail.specs.Books.{Books, call_completed, call_waits, call_repeated, call_refused}
use Rattle.fe_mail.specs.Books.{waiter_completed}
use Rattle.fe_mail.specs.declared.mail.Mail.TheVariants as mail
use Rattle.fe_front.specs.Steps.{mailed}
use Rattle.fe_front.specs.declared.outcome.Outcome.{Outcome}
use Rattle.fe_front.specs.declared.outcome.Outcome.TheVariants as outcome

-- the result of the next check, unless an earlier one refused the event
abbrev pub and_then : Result ℕ Refusal → (ℕ → Result ℕ Refusal) → Result ℕ Refusal
and_then (Err refusal) next = Err refusal
and_then (Ok session) next = next session

-- the session, unless it is closing
abbrev pub unclosing : FrontState → ℕ → Result ℕ Refusal
unclosing f session = if is_closing f.service.attachments session then Err Closing else Ok session

-- the session that the connection has, unless it is closing
abbrev pub own : FrontState → ℕ → Result ℕ Refusal
own f conn = option_map_or (unclosing f) (session_on f.connections conn) (Err NotAttached)

-- the session, if the history has places for what one event may add
abbrev pub unspent : FrontState → ℕ → Result ℕ Refusal
unspent f session = if is_spent f then Err Spent else Ok session

-- whether a session has no attachment, and there is no room for one more
abbrev pub has_no_attachment : FrontState → ℕ → Bool
has_no_attachment f session =
    is_none (get f.service.attachments session) && not (nat_lt (len f.service.attachments) most_sessions)

-- the session, if the connection may attach it
abbrev pub attaching : FrontState → ℕ → ℕ → Result ℕ Refusal
attaching f conn session =
    if not (is_connected f conn) then Err NotAttached
    else if is_closing f.service.attachments session then Err Closing
    else if has_no_attachment f session then Err SessionLimit
    else unspent f session

-- the session, if its window has the number
abbrev pub in_window : FrontState → ℕ → ℕ → Result ℕ Refusal
in_window f number session =
    if nat_lt number (floor_of f.service session) then Err BelowFloor
    else if nat_lt number (floor_of f.service session + window_length) then Ok session
    else Err BeyondWindow

-- the session of a call
abbrev pub addressed : FrontState → ℕ → ℕ → Result ℕ Refusal
addressed f conn number = and_then (own f conn) (in_window f number)

-- a call is admitted to a session: the connection's session has the number in its window, and the front has
-- room
pub record IsAdmitted (f : FrontState) (conn session number : ℕ) : Type 0 where
  pub room : IsTrue (has_room f)
  pub addressed : addressed f conn number ≡ Ok session

-- whether a request of the session waits under a number below this one
abbrev pub waits_below : WaitingAccesses → ℕ → ℕ → Bool
waits_below waiting session zero = false
waits_below waiting session (suc number) =
    waits_below waiting session number || is_some (get waiting (session, number))

-- the session, if its floor may be set to this one
abbrev pub may_settle : FrontState → ℕ → ℕ → Result ℕ Refusal
may_settle f floor session =
    if nat_lt floor (floor_of f.service session) then Err BelowFloor
    else if nat_lt (floor_of f.service session + window_length) floor
    || nat_lt greatest_floor floor then Err BeyondWindow
    else if waits_below f.service.waiting session floor then Err StillWaiting
    else unspent f session

-- the session of the connection, if its floor may be set to this one
abbrev pub settling : FrontState → ℕ → ℕ → Result ℕ Refusal
settling f conn floor = and_then (own f conn) (may_settle f floor)

-- the session of the connection, if it may be closed
abbrev pub leaving : FrontState → ℕ → Result ℕ Refusal
leaving f conn = and_then (own f conn) (unspent f)

-- the session, if a request of it waits under the number
abbrev pub may_cancel : FrontState → ℕ → ℕ → Result ℕ Refusal
may_cancel f number session =
    if is_some (get f.service.waiting (session, number)) then Ok session else Err NotWaiting

-- the session of the connection, if a request of it waits under the number
abbrev pub cancelling : FrontState → ℕ → ℕ → Result ℕ Refusal
cancelling f conn number = and_then (own f conn) (may_cancel f number)

-- ---- calls

-- what is kept for a number of a session
abbrev pub kept_at : FrontState → ℕ → ℕ → Option Kept
kept_at f session number = kept_in (get f.service.state.sessions session) number

-- the request that a session's number belongs to already: it is kept with its answer, or it waits
abbrev pub request_at : FrontState → ℕ → ℕ → Option Request
request_at f session number =
    option_map_or (λ k. Some k.request) (kept_at f session number)
    (option_map request_of (get f.service.waiting (session, number)))

-- A call of a session is refused for this reason, whatever memory there is: its number belongs to another
-- request, or is new and the history has too few places left for one event (`is_spent`).
abbrev pub IsNumberRefused : FrontState → ℕ → Request → ℕ → Refusal → Type 0
IsNumberRefused f number request session refusal =
    MatchOption (request_at f session number) ((is_spent f ≡ true) × (refusal ≡ Spent))
    (λ before. (before ≢ request) × (refusal ≡ NumberUsed))

-- a call is refused for this reason: one of `addressed`, which come first, or one of `IsNumberRefused`
abbrev pub IsCallRefused : FrontState → ℕ → ℕ → Request → Refusal → Type 0
IsCallRefused f conn number request refusal =
    MatchResult (addressed f conn number) (λ session. IsNumberRefused f number request session refusal)
    (λ first. refusal ≡ first)

-- A call needs memory, and may be refused for lack of it: its session has the number in its window, the
-- number is new, the history has places for one event, and the request makes an array.
pub record WantsMemory (f : FrontState) (conn number : ℕ) (request : Request) : Type 0 where
  pub session : ℕ
  pub answer : Answer
  pub addressed : addressed f conn number ≡ Ok session
  pub new : request_at f session number ≡ None
  pub unspent : is_spent f ≡ false
  pub answered : reply f.service.state request ≡ Some answer
  pub array : MakesArray (Finished session number request answer)

-- a number begins a new request: its session may finish it, it belongs to no request, and the history has
-- places for one event
pub record BeginsRequest (f : FrontState) (session number : ℕ) : Type 0 where
  pub free : IsFree f.service session number
  pub new : request_at f session number ≡ None
  pub unspent : is_spent f ≡ false

-- the front after a call was refused: it is booked, and nothing else changes
abbrev pub call_refused_by : FrontState → FrontState
call_refused_by f = record f { books = call_refused f.books }

-- the outcome of a call that repeats the request of its number
abbrev pub repeat_of : FrontState → ℕ → ℕ → Outcome
repeat_of f session number =
    option_map_or (λ k. if nat_lt k.place f.durable then outcome.SentAgain else outcome.NotYetSynced)
    (kept_at f session number) outcome.AlreadyWaiting

-- the front once an answer that is kept is mailed again, if its entry is durable
abbrev pub answered_again : FrontState → ℕ → ℕ → ℕ → FrontState
answered_again f conn session number =
    option_map_or
    (λ k. if nat_lt k.place f.durable then mailed f conn (mail.Answer session number k.answer k.place) else f)
    (kept_at f session number)
    f

-- the front after a call that repeats one
abbrev pub repeated : FrontState → ℕ → ℕ → ℕ → FrontState
repeated f conn session number =
    answered_again (record f { books = call_repeated f.books }) conn session number

-- books after this many calls that waited completed
abbrev pub waiters_completed : ℕ → Books → Books
waiters_completed zero b = b
waiters_completed (suc n) b = waiter_completed (waiters_completed n b)

-- a new request completes with this many entries: its own, and those of the waiting requests that may be
-- served then, in whichever order
pub record Completed (f : FrontState) (session number : ℕ) (request : Request) (n : ℕ) (es : List Entry)
    (f' : FrontState) : Type 0 where
  pub answer : Answer
  pub served : List Entry
  pub new : request_at f session number ≡ None
  pub unspent : is_spent f ≡ false
  pub answered : reply f.service.state request ≡ Some answer
  pub completes : Completes f.service f'.service (Finished session number request answer) served
  pub entries : es ≡ Finished session number request answer ∷ served
  pub count : n ≡ 1 + length served
  pub rest : f' ≡ record f {
    service = f'.service;
    books = waiters_completed (length served) (call_completed f.books);
  }

-- a new request begins to wait
pub record Waits (f : FrontState) (session number : ℕ) (request : Request) (es : List Entry)
    (f' : FrontState) : Type 0 where
  pub waiter : WaitingAccess
  pub new : request_at f session number ≡ None
  pub unspent : is_spent f ≡ false
  pub idle : reply f.service.state request ≡ None
  pub waits : request ≡ request_of waiter
  pub entries : es ≡ []
  pub rest : f' ≡ record f { service = waited f.service session number waiter; books = call_waits f.books }

-- a call with the request that its number belongs to is a repeat, whatever memory and places are left
pub record Repeats (f : FrontState) (conn session number : ℕ) (request : Request) (o : Outcome)
    (es : List Entry) (f' : FrontState) : Type 0 where
  pub known : request_at f session number ≡ Some request
  pub is : o ≡ repeat_of f session number
  pub entries : es ≡ []
  pub rest : f' ≡ repeated f conn session number

-- the outcome of a call of a session, and what the call leaves
abbrev pub Called : FrontState → ℕ → ℕ → ℕ → Request → Outcome → List Entry → FrontState → Type 0
Called f conn session number request (outcome.Completed count) entries f' =
    Completed f session number request count entries f'
Called f conn session number request outcome.Waits entries f' = Waits f session number request entries f'
Called f conn session number request outcome.AlreadyWaiting entries f' =
    Repeats f conn session number request outcome.AlreadyWaiting entries f'
Called f conn session number request outcome.SentAgain entries f' =
    Repeats f conn session number request outcome.SentAgain entries f'
Called f conn session number request outcome.NotYetSynced entries f' =
    Repeats f conn session number request outcome.NotYetSynced entries f'
