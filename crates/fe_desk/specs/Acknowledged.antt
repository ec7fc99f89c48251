-- The mails that a desk writes rest on groups of entries that are stored, whatever its steps return.
-- See `docs/headline.md`, "Including every acknowledged operation".
use Rattle.std.specs.Prelude.{◌≡◌, ℕ, ◌+◌, Bool, true, false, List, [], ◌∷◌, ◌++◌, length, take, is_some}
use Rattle.std.specs.Prelude.{Option, None, Some, IfSome, Contains, Result, ⊤}
use Rattle.std.specs.List.{flat_map, AllByRecursion}
use Rattle.fe_state.specs.State.{ServerState, IsWithinLimits, after_all}
use Rattle.fe_state.specs.declared.batch.Batch.{Batch}
use Rattle.fe_state.specs.declared.entry.Entry.{Entry}
use Rattle.fe_state.specs.declared.entry.Entry.TheVariants.{Attached, Closed, Settled}
use Rattle.fe_mail.specs.Connections.{mails_on, session_on}
use Rattle.fe_mail.specs.declared.mail.Mail.{Mail}
use Rattle.fe_mail.specs.declared.mail.Mail.TheVariants as mail
use Rattle.fe_service.specs.AttachmentsState.{holder_of}
use Rattle.fe_wire.specs.Stream.{Decoding}
use Rattle.fe_wire.specs.declared.client_message.ClientMessage.{ClientMessage}
use Rattle.fe_front.specs.Front.{FrontState}
use Rattle.fe_messages.specs.Answers.{IsAnswerIn, AreAnswered}
use Rattle.fe_messages.specs.Taking.{AsksOnly}
use Rattle.fe_messages.specs.Mails.{reply_of, spelled}
use Rattle.fe_desk.specs.declared.fault.DeskFault.{DeskFault}
use Rattle.fe_desk.specs.declared.handed.Handed.{Handed}
use Rattle.fe_desk.specs.declared.handed.Handed.TheVariants.{Nothing, Cut, Stored}
use Rattle.fe_desk.specs.declared.step.Step.{Step}
use Rattle.fe_desk.specs.declared.step.Step.TheVariants as step
use Rattle.fe_desk.specs.Crash.{DeskState, IsFrom, desk_anew}
use Rattle.fe_desk.specs.Messages.{read_by}
use Rattle.fe_desk.specs.DeskRunState.{Client, DeskRunState, IsFirstRunState}
use Rattle.fe_desk.specs.Steps.{Reads, HasNoMail}
use Rattle.fe_desk.specs.Runs.{IsStep}
use Rattle.fe_disk.specs.declared.disk.Disk.{Ghosts}

-- the entries of groups, in their order
abbrev pub entries_of : List (List Entry) → List Entry
entries_of groups = flat_map (λ group. group) groups

-- A welcome, a settled floor, a goodbye and an answer are of a session that the connection may ask for
-- (`asked`), and have their entry in the groups, an answer at its place. Only an answer that was kept when
-- the store was opened needs no entry there. A refusal, a withdrawal and a report say nothing of the history.
-- `asked` is any choice of the sessions that the connection may ask for, by an attach: it is a premise, and
-- the server checks no such thing.
abbrev pub StandsOn : ServerState → List (List Entry) → (ℕ → Bool) → Mail → Type 0
StandsOn begun groups asked (mail.Welcome session floor) =
    (asked session ≡ true) × Contains (entries_of groups) (Attached session floor)
StandsOn begun groups asked (mail.Answer session number answer place) =
    (asked session ≡ true) × IsAnswerIn begun (entries_of groups) session number answer place
StandsOn begun groups asked (mail.Refused number refusal) = Unit {0}
StandsOn begun groups asked (mail.Withdrawn number) = Unit {0}
StandsOn begun groups asked (mail.Settled floor) =
    (session : ℕ) × (asked session ≡ true) × Contains (entries_of groups) (Settled session floor)
StandsOn begun groups asked (mail.Goodbye session) =
    (asked session ≡ true) × Contains (entries_of groups) (Closed session)
StandsOn begun groups asked (mail.Report text) = Unit {0}

-- What was written to a client is the spelling of mails, and a reply that waits is that of a mail; each of
-- these mails stands on the groups.
pub record IsWritten (begun : ServerState) (groups : List (List Entry)) (asked : ℕ → ℕ → Bool)
    (c : Client) : Type 0 where
  pub mails : List Mail
  pub stand : AllByRecursion (StandsOn begun groups (asked c.conn)) mails
  pub written : c.written ≡ spelled mails
  pub waits : IfSome c.reply (λ reply. (m : Mail) × (reply ≡ reply_of m)
      × StandsOn begun groups (asked c.conn) m)

-- the groups that are known to be stored
abbrev pub stored_groups : {D : Type 0} → DeskState D → List (List Entry)
stored_groups d = take d.synced d.run_state.groups

-- All that was written in a run stands on these groups.
abbrev pub AnswersStand : ServerState → List (List Entry) → (ℕ → ℕ → Bool) → DeskRunState → Type 0
AnswersStand begun groups asked s = AllByRecursion (IsWritten begun groups asked) s.clients

-- ---- what is asked for

-- the message asks for a session only if its connection may ask for it
abbrev pub AsksFor : (ℕ → Bool) → ClientMessage → Type 0
AsksFor asked m = AsksOnly (λ session. asked session ≡ true) m

-- each message that a step's bytes complete asks for a session only if its connection may ask for it
abbrev pub StepAsksFor : {D : Type 0} → (ℕ → ℕ → Bool) → DeskState D → Step → Type 0
StepAsksFor asked d (step.Bytes conn piece) =
    (before after : Decoding) (more : List ClientMessage) → read_by d.run_state conn ≡ Some before
    → Reads before after piece.items more → AllByRecursion (AsksFor (asked conn)) more
StepAsksFor asked d other = Unit {0}

-- every connection may ask for every session
abbrev pub may_ask_any : ℕ → ℕ → Bool
may_ask_any conn session = true

-- If every connection may ask for every session, each step asks only for sessions that may be asked for.
abbrev pub AnySessionMayBeAsked : Type 0 → Type 0
AnySessionMayBeAsked D = (d : DeskState D) (x : Step) → StepAsksFor may_ask_any d x

-- ---- what each step keeps

-- the entries of the batch that is cut and not stored
abbrev pub cut_entries : Handed → List Entry
cut_entries Nothing = []
cut_entries (Cut batch) = batch.entries
cut_entries (Stored batch) = []

-- all entries that were made: those of the groups, and those that are not stored
abbrev pub made_entries : List (List Entry) → Handed → FrontState → List Entry
made_entries groups handed f = entries_of groups ++ (cut_entries handed ++ f.service.pending)

-- the batch is the last of the groups, and begins at the mark: all entries before the mark are posted, or
-- were there at opening
pub record IsLast (begun : ServerState) (groups : List (List Entry)) (durable : ℕ)
    (batch : Batch) : Type 0 where
  pub before : List (List Entry)
  pub groups_are : groups ≡ before ++ batch.entries ∷ []
  pub first : batch.first ≡ durable
  pub mark : durable ≡ begun.place + length (entries_of before)

-- The mark comes after the groups that were posted. A batch is out if it is on its way: cut and not posted.
abbrev pub IsOnItsWay : ServerState → List (List Entry) → FrontState → Handed → Type 0
IsOnItsWay begun groups f Nothing = f.durable ≡ begun.place + length (entries_of groups)
IsOnItsWay begun groups f (Cut batch) = (f.durable ≡ begun.place + length (entries_of groups))
    × (is_some f.out ≡ true) × (batch.first ≡ f.durable)
IsOnItsWay begun groups f (Stored batch) = IsLast begun groups f.durable batch × (is_some f.out ≡ true)

-- A desk over a state that was opened, whatever its steps returned: each mail that was written stands on the
-- groups that are stored. The other fields are what a step needs to keep it so. Each mail in a box stands on
-- these groups; messages that are left ask only for sessions that their connection may ask for, and a
-- connection has only such sessions; the front's state is that after all entries that were made, stored or
-- not, and each entry that finishes a request has the reply to it; only what is stored is posted; and unless
-- the device failed, all groups are stored.
pub record IsAcknowledged {D : Type 0} (begun : ServerState) (asked : ℕ → ℕ → Bool)
    (d : DeskState D) : Type 0 where
  pub answers : AnswersStand begun (stored_groups d) asked d.run_state
  pub boxed : (conn : ℕ) → AllByRecursion (StandsOn begun (stored_groups d) (asked conn))
      (mails_on d.run_state.front.connections conn)
  pub left : AllByRecursion (λ c. AllByRecursion (AsksFor (asked c.conn)) c.left) d.run_state.clients
  pub holders : (session conn : ℕ) → holder_of d.run_state.front.service.attachments session ≡ Some conn
      → asked conn session ≡ true
  pub sessions : (conn session : ℕ) → session_on d.run_state.front.connections conn ≡ Some session
      → asked conn session ≡ true
  pub state : d.run_state.front.service.state
      ≡ after_all begun (made_entries (stored_groups d) d.run_state.handed d.run_state.front)
  pub answered : AreAnswered begun (made_entries (stored_groups d) d.run_state.handed d.run_state.front)
  pub way : IsOnItsWay begun (stored_groups d) d.run_state.front d.run_state.handed
  pub all : d.keeper.store.has_failed ≡ false → d.synced ≡ length d.run_state.groups

-- ---- a trace that begins anew

-- no batch is stored and not posted
abbrev pub HasNoneToPost : Handed → Type 0
HasNoneToPost Nothing = ⊤
HasNoneToPost (Cut batch) = ⊤
HasNoneToPost (Stored batch) = ⊥

-- The clients were told all that is stored: no batch is still to be posted, and no mail to be written.
pub record HasToldAll (s : DeskRunState) : Type 0 where
  pub posted : HasNoneToPost s.handed
  pub mails : HasNoMail s

-- ---- steps and clearings

-- From a desk over a state to another: steps, each with its answer, that ask only for sessions that their
-- connections may ask for; and clearings of the trace (`None`), each where the clients were told all that is
-- stored. From a clearing on the state is the one that the keeper has then.
abbrev pub AreStepsFor : {D : Type 0} → Ghosts D → (ℕ → ℕ → Bool) → ServerState → DeskState D
    → List (Option (Step × Result (Unit {0}) DeskFault)) → ServerState → DeskState D
    → Type 0
AreStepsFor model asked begun old [] now new = (now ≡ begun) × (new ≡ old)
AreStepsFor {D} model asked begun old (Some given ∷ more) now new =
    (mid : DeskState D) × StepAsksFor asked old given.0 × IsStep model old given.0 given.1 mid
    × AreStepsFor model asked begun mid more now new
AreStepsFor model asked begun old (None ∷ more) now new =
    HasToldAll old.run_state × IsFrom begun old
    × AreStepsFor model asked old.keeper.state (desk_anew old) more now new

-- After any steps of a desk that was opened, and any number of clearings of its trace, its answers stand on
-- stored groups, as `IsAcknowledged` says, over the state of the last clearing.
abbrev pub AcknowledgedStand : {D : Type 0} → Ghosts D → Type 0
AcknowledgedStand {D} model = (begun now : ServerState) (asked : ℕ → ℕ → Bool) (first last : DeskState D)
    (steps : List (Option (Step × Result (Unit {0}) DeskFault)))
    → IsWithinLimits begun → IsFirstRunState begun first.run_state → first.synced ≡ 0
    → AreStepsFor model asked begun first steps now last → IsAcknowledged now asked last
