-- How the part under a hall's lock follows the history: the front's entries are those of the batches cut, and
-- those pending. See `docs/model.md`, "The hall".
use Rattle.std.specs.Prelude.{ℕ, Bool, List, ◌==◌, ◌≡◌, [], ◌∷◌, ◌++◌, length, Option, None, Some, IfSome}
use Rattle.std.specs.List.{list_any, AllByRecursion}
use Rattle.fe_shared.specs.declared.watchers.Watcher.{Watcher}
use Rattle.std.specs.Option.{option_map}
use mathlib.Core.List.{IsPrefix}
use Rattle.fe_state.specs.State.{ServerState, after_all}
use Rattle.fe_state.specs.declared.batch.Batch.{Batch}
use Rattle.fe_state.specs.declared.entry.Entry.{Entry}
use Rattle.fe_mail.specs.Connections.{mails_on}
use Rattle.fe_front.specs.Front.{FrontState, IsFirst}
use Rattle.fe_front.specs.declared.out.Out.{Out}
use Rattle.fe_mail.specs.declared.mail.Mail.{Mail}
use Rattle.fe_messages.specs.Answers.{AreAnswered}
use Rattle.fe_messages.specs.Taking.{HasOnly, WaitsOnly}
use Rattle.fe_history.specs.declared.act.Act.{Act}
use Rattle.fe_history.specs.declared.act.Act.TheVariants.{Asked, Began, Issued}
use Rattle.fe_shared.specs.declared.taking.Taking.{Taking}
use Rattle.fe_shared.specs.declared.taking.Taking.TheVariants as taking
use Rattle.fe_history.specs.Acts.{AreOfCalls, IsAnswerOfCall, IsLegal, MayBeAppended, StandsIn}
use Rattle.fe_history.specs.Acts.{WasCalledSince, WasIssued, batches_of, cuts_in, entries_in, place_after}
use Rattle.fe_history.specs.Acts.{stores_in}
use Rattle.fe_history.specs.Receipts.{receipt_of}

-- the read side of a connection waits
abbrev pub waits : List Watcher → ℕ → Bool
waits watchers conn = list_any (λ w. w.conn == conn) watchers

-- a front that begins, in a hall whose history has only begun
abbrev pub IsBegun : FrontState → List Act → Type 0
IsBegun f acts = (begun : ServerState) × IsFirst begun f × (acts ≡ Began begun ∷ [])

-- the batch that is out
abbrev pub out_batches : Option Batch → List Batch
out_batches None = []
out_batches (Some batch) = batch ∷ []

-- what the front knows of the batch that is out
abbrev pub out_of : Batch → Out
out_of batch = record { first = batch.first; length = length batch.entries }

-- which sessions each connection asked for in these acts
abbrev pub AskedIn : List Act → ℕ → ℕ → Type 0
AskedIn acts = λ conn session. StandsIn acts (Asked conn session)

-- if the mail is an answer, this connection asked for its session
abbrev pub WasAskedFor : List Act → ℕ → Mail → Type 0
WasAskedFor acts conn mail = IfSome (receipt_of conn mail) (λ r. AskedIn acts conn r.session)

-- each answer in a box is of a session that the connection of the box asked for
abbrev pub BoxesAsked : List Act → FrontState → Type 0
BoxesAsked acts f = (conn : ℕ) → AllByRecursion (WasAskedFor acts conn) (mails_on f.connections conn)

-- each request that waits was called in these acts, under its number of its session, which none of these
-- entries closes since
abbrev pub WaitsAreCalled : ServerState → List Act → List Entry → FrontState → Type 0
WaitsAreCalled begun acts entries f = WaitsOnly (WasCalledSince begun acts entries) f

-- if the mail is an answer, it is that of a posted entry, or was kept when the hall began and its request was
-- called in these acts
abbrev pub TellsOfCall : ServerState → List Act → List Batch → Mail → Type 0
TellsOfCall begun acts posted mail =
    IfSome (receipt_of 0 mail) (λ r. IsAnswerOfCall begun acts (entries_in posted) r)

-- each answer in a box is such an answer
abbrev pub BoxesTellOfCalls : ServerState → List Act → List Batch → FrontState → Type 0
BoxesTellOfCalls begun acts posted f =
    (conn : ℕ) → AllByRecursion (TellsOfCall begun acts posted) (mails_on f.connections conn)

-- all entries that were made: those of the batches that were posted, of the one that is out, and those that
-- are pending
abbrev pub made_entries : List Batch → Option Batch → FrontState → List Entry
made_entries posted out f = entries_in posted ++ (entries_in (out_batches out) ++ f.service.pending)

-- the entries that were cut: those of the batches that were posted, and of the one that is out
abbrev pub cut_entries : List Batch → Option Batch → List Entry
cut_entries posted out = entries_in posted ++ entries_in (out_batches out)

-- A front whose posted batches, this many, were stored in the history, and whose batch that is out was cut
-- next. Its state is the one after all entries made, each *finished* one with the reply to its request, and
-- each answer in its boxes is of a posted entry. A connection has only sessions that it asked for in that
-- history, and each answer in its box is of one of them. Each request that waits, and each that a pending
-- entry finishes, was called in that history, and its session was not closed since.
pub record IsMarked (f : FrontState) (count : ℕ) (acts : List Act) : Type 0 where
  pub begun : ServerState
  pub begins : IsPrefix (Began begun ∷ []) acts
  pub is_legal : IsLegal acts
  pub posted : List Batch
  pub out : Option Batch
  pub counted : count ≡ length posted
  pub stored : IsPrefix posted (batches_of (stores_in acts))
  pub cut : IsPrefix (posted ++ out_batches out) (cuts_in acts)
  pub same_out : f.out ≡ option_map out_of out
  pub durable : f.durable ≡ place_after begun posted
  pub state : f.service.state ≡ after_all begun (made_entries posted out f)
  pub answered : AreAnswered begun (made_entries posted out f)
  pub boxes : BoxesTellOfCalls begun acts posted f
  pub pending_called : AreOfCalls begun acts (cut_entries posted out) f.service.pending
  pub waiting_called : WaitsAreCalled begun acts (made_entries posted out f) f
  pub has : HasOnly (AskedIn acts) f
  pub asked : BoxesAsked acts f

-- what is under the lock of a hall, without its ledgers
pub record SharedState : Type 0 where
  pub front : FrontState
  pub history : List Act
  pub connections_made : ℕ
  pub stopped : Bool
  -- whether the event of this hold was made
  pub used : Bool
  -- the read sides that wait for their boxes
  pub watched : List Watcher

-- what was found in the box of a connection may be issued to it after these acts, if it is an answer
abbrev pub MayBeIssued : ℕ → Taking → List Act → Type 0
MayBeIssued conn (taking.Mail mail more) acts =
    IfSome (receipt_of conn mail) (λ r. MayBeAppended acts (Issued r))
MayBeIssued conn _ acts = Unit {0}

-- what was found in the box of a connection was issued to it, if it is an answer
abbrev pub TakingIssued : ℕ → Taking → List Act → Type 0
TakingIssued conn (taking.Mail mail more) acts = WasIssued conn mail acts
TakingIssued conn _ acts = Unit {0}
