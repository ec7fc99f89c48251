-- What a schedule does, line by line, and what it prints (`docs/schedules.md`).
use Rattle.std.specs.Prelude.{◌≡◌, ◌⊎◌, ◌<◌, Option, None, Some, ℕ, List, [], ◌∷◌, ◌++◌, map, ◌≢◌, ◌+◌, ◌-◌}
use Rattle.std.specs.Prelude.{◌^◌, Bool, true, false, length, IfSome}
use Rattle.fe_disk.specs.Memory.{MemoryState}
use Rattle.fe_keeper.specs.declared.fault.Fault.TheVariants as store
use Rattle.fe_desk.specs.declared.fault.DeskFault.{DeskFault}
use Rattle.fe_desk.specs.declared.fault.DeskFault.TheVariants as desk
use Rattle.fe_text.specs.declared.fault.StreamFault.{StreamFault}
use Rattle.fe_text.specs.declared.fault.StreamFault.TheVariants as stream
use Rattle.fe_schedules.specs.declared.fault.MachineFault.{MachineFault}
use Rattle.fe_schedules.specs.declared.fault.MachineFault.TheVariants as machine
use Rattle.fe_schedules.specs.declared.fault.ScheduleFault.{ScheduleFault}
use Rattle.fe_schedules.specs.declared.fault.ScheduleFault.TheVariants as fault
use Rattle.std.specs.List.{flat_map, AllByRecursion}
use Rattle.std.specs.List.Sorted.{IsPermutation, IsSortedByKey, IsStableByKey}
use Rattle.std.specs.Ordering.{nat_cmp, ordering_then}
use Rattle.std.specs.declared.cmp.Ordering.{Ordering}
use Rattle.fe_wire.specs.Spelling.{reply_spelling, ReplyFits, spelling}
use Rattle.fe_wire.specs.declared.server_message.ServerMessage.{ServerMessage}
use Rattle.fe_wire.specs.declared.server_message.ServerMessage.TheVariants as server
use Rattle.fe_text.specs.Printed.{printed}
use Rattle.fe_schedules.specs.declared.printed_reply.PrintedReply.{PrintedReply}
use Rattle.std.specs.Io.KnownBytes.{Appends}
use Rattle.fe_memory.specs.Memory.{out_of_memory}
use Rattle.fe_schedules.specs.Ready.{memory_model}
use Rattle.fe_state.specs.State.{ServerState, first_state}
use Rattle.fe_state.specs.History.{after_groups}
use Rattle.fe_wire.specs.declared.client_message.ClientMessage.{ClientMessage}
use Rattle.fe_keeper.specs.Stands.{EachStandsFor}
use Rattle.fe_desk.specs.Acknowledged.{AnswersStand, may_ask_any}
use Rattle.fe_desk.specs.Crash.{anew}
use Rattle.fe_desk.specs.Messages.{outputs}
use Rattle.fe_desk.specs.DeskRunState.{DeskRunState, IsFirstRunState}
use Rattle.fe_desk.specs.Steps.{DeskRun}
use Rattle.fe_desk.specs.declared.step.Step.{Step}
use Rattle.fe_desk.specs.declared.step.Step.TheVariants as step
use Rattle.fe_text.specs.Line.{parsed, lines_of}
use Rattle.fe_text.specs.declared.line.Line.{Line}
use Rattle.fe_text.specs.declared.line.Line.TheVariants as line

-- the machine's fault for a fault of its desk; None for those that a desk over a store that was formatted
-- here does not have
abbrev pub of_desk : DeskFault → Option MachineFault
of_desk (desk.NoMemory error fed) = Some (machine.Memory error)
of_desk (desk.Unwritten error) = Some (machine.Memory error)
of_desk (desk.Store store.Device) = Some machine.Device
of_desk (desk.Store store.Failed) = Some machine.Device
of_desk (desk.Store other) = None

abbrev pub of_machine : MachineFault → ScheduleFault
of_machine (machine.Memory error) = fault.Memory error
of_machine machine.Device = fault.Device

abbrev pub of_stream : StreamFault → ScheduleFault
of_stream stream.Input = fault.Input
of_stream (stream.Memory error) = fault.Memory error

-- the fault is the device's exactly if a call of the disk failed
abbrev pub TellsDisk : MemoryState → MachineFault → Type 0
TellsDisk disk (machine.Memory error) = disk.failures ≡ 0
TellsDisk disk machine.Device = 0 < disk.failures

-- the fault of the schedule is the device's exactly if a call of the disk failed
abbrev pub TellsOfDisk : MemoryState → ScheduleFault → Type 0
TellsOfDisk disk (fault.Line number) = disk.failures ≡ 0
TellsOfDisk disk fault.Input = disk.failures ≡ 0
TellsOfDisk disk (fault.Memory error) = disk.failures ≡ 0
TellsOfDisk disk fault.Device = 0 < disk.failures

-- a stream failed, and the fault is that of the stream
abbrev pub IsOfStream : (StreamFault → Type 0) → ScheduleFault → Type 0
IsOfStream fails end = (f : StreamFault) × fails f × (end ≡ of_stream f)

-- the fault is the device's exactly if a call of the disk failed, or it is that of the writer, which failed
abbrev pub TellsDiskOrWriter : MemoryState → (StreamFault → Type 0) → ScheduleFault → Type 0
TellsDiskOrWriter disk writer end = TellsOfDisk disk end ⊎ IsOfStream writer end

-- ---- in which order

-- the number of an answer, a withdrawal or a refusal, and 0 of any other reply
abbrev pub number_of : ServerMessage → ℕ
number_of (server.Answer number answer) = number
number_of (server.Withdrawn number) = number
number_of (server.Refused number code) = number
number_of (server.Welcome session floor) = 0
number_of (server.Settled floor) = 0
number_of (server.Goodbye session) = 0
number_of (server.Report text) = 0

abbrev pub key_of : PrintedReply → ℕ × ℕ
key_of t = (t.conn, number_of t.reply)

-- by the first number, and then by the second
abbrev in_turn : ℕ × ℕ → ℕ × ℕ → Ordering
in_turn x y = ordering_then (nat_cmp x.0 y.0) (nat_cmp x.1 y.1)

-- The replies in the order in which they are printed: by connection, then by number, and those of one number
-- in the order in which they came.
pub record IsSorting (printed_replies order : List PrintedReply) : Type 0 where
  pub same : IsPermutation printed_replies order
  pub ascends : IsSortedByKey key_of in_turn order
  pub stable : IsStableByKey key_of in_turn printed_replies order

-- ---- replies

-- The frames of these replies were written.
pub record AreRepliesIn (written : List ℕ) (replies : List ServerMessage) : Type 0 where
  pub fits : AllByRecursion ReplyFits replies
  pub spelled : written ≡ flat_map reply_spelling replies

abbrev pub printed_to : ℕ → ServerMessage → PrintedReply
printed_to conn reply = record { conn = conn; reply = reply }

-- What was written to connection numbers are these replies, one number after the other.
abbrev pub ArePrintedReplies : List (ℕ × List ℕ) → List PrintedReply → Type 0
ArePrintedReplies [] printed_replies = printed_replies ≡ []
ArePrintedReplies (o ∷ os) printed_replies =
    (replies : List ServerMessage) × (others : List PrintedReply) × AreRepliesIn o.1 replies
    × ArePrintedReplies os others × (printed_replies ≡ map (printed_to o.0) replies ++ others)

-- ---- what is printed

abbrev pub printed_text : PrintedReply → List ℕ
printed_text t = printed (Some t.conn) t.reply

-- The text is what the replies in the outputs print, sorted.
pub record IsPrinted (outputs : List (ℕ × List ℕ)) (text : List ℕ) : Type 0 where
  pub printed_replies : List PrintedReply
  pub order : List PrintedReply
  pub are : ArePrintedReplies outputs printed_replies
  pub sorts : IsSorting printed_replies order
  pub is : text ≡ flat_map printed_text order

-- ---- schedules

-- The stage of a schedule between two lines: all that is stored, the desk with an empty trace, and whether it
-- is on hold.
pub record Stage : Type 0 where
  pub stored : ServerState
  pub run_state : DeskRunState
  pub is_holding : Bool

-- each image that a stop may leave of the disk stands for the stored state
abbrev pub LeavesStored : MemoryState → Stage → Type 0
LeavesStored disk s = EachStandsFor memory_model disk s.stored

-- the first stage: a desk over a new store, and no hold
pub record IsStart (s : Stage) : Type 0 where
  pub stored : s.stored ≡ first_state
  pub run_state : IsFirstRunState first_state s.run_state
  pub is_holding : s.is_holding ≡ false

-- ---- what a line does

-- the step brings the frame of this message from this connection
abbrev pub IsFrame : ℕ → ClientMessage → Step → Type 0
IsFrame conn message (step.Bytes c piece) = (c ≡ conn) × (piece.items ≡ spelling message)
IsFrame conn message other = ⊥

-- The steps of a line. A message makes its connection, unless that is connected, and brings its frame. `Gone`
-- removes the connection. `Check` begins a checkpoint and finishes it. The other lines take no step.
abbrev pub AreStepsOf : Line → List Step → Type 0
AreStepsOf (line.Message conn message) steps =
    (frame : Step) × IsFrame conn message frame × (steps ≡ step.Connect conn ∷ frame ∷ [])
AreStepsOf (line.Gone conn) steps = steps ≡ step.Gone conn ∷ []
AreStepsOf line.Hold steps = steps ≡ []
AreStepsOf line.Flush steps = steps ≡ []
AreStepsOf line.Stop steps = steps ≡ []
AreStepsOf line.Check steps = steps ≡ step.CheckBegin ∷ step.CheckFinish ∷ []

-- The steps of the line begin at `t`: after `Stop` with a fresh desk over all that was stored, else at `s`.
abbrev pub Begins : Line → Stage → Stage → Type 0
Begins line.Stop s t = (t.stored ≡ s.stored) × IsFirstRunState t.stored t.run_state
Begins other s t = (t.stored ≡ s.stored) × (t.run_state ≡ s.run_state)

-- whether the schedule is on hold after a line
abbrev pub holds_after : Line → Bool → Bool
holds_after line.Hold was = true
holds_after line.Flush was = false
holds_after line.Stop was = false
holds_after other was = was

-- the steps after those of each line: what is pending is cut, stored and posted, unless on hold
abbrev pub endings : Bool → List Step
endings true = []
endings false = step.Cut ∷ step.Append ∷ step.Post ∷ []

-- The steps of the line run, and then, unless on hold, what is pending is cut, stored and posted. The text is
-- what the replies print. All groups are stored, all that was written stands on them, and the trace begins
-- anew.
pub record RunsLine (s : Stage) (l : Line) (t : Stage) (text : List ℕ) : Type 0 where
  pub mid : Stage
  pub begins : Begins l s mid
  pub steps : List Step
  pub are : AreStepsOf l steps
  pub last : DeskRunState
  pub runs : DeskRun mid.run_state (steps ++ endings t.is_holding) last
  pub holding : t.is_holding ≡ holds_after l s.is_holding
  pub prints : IsPrinted (outputs last) text
  pub answers : AnswersStand mid.stored last.groups may_ask_any last
  pub stored : t.stored ≡ after_groups mid.stored last.groups
  pub run_state : t.run_state ≡ anew last

-- ---- lines of bytes

-- an empty line does nothing; any other does what it says
abbrev pub RunsBytes : Stage → List ℕ → Stage → List ℕ → Type 0
RunsBytes s [] t text = (t ≡ s) × (text ≡ [])
RunsBytes s (byte ∷ bytes) t text = (l : Line) × (parsed (byte ∷ bytes) ≡ Some l) × RunsLine s l t text

-- lines run one after the other, and the text is what all of them print
abbrev pub RunsLines : Stage → List (List ℕ) → Stage → List ℕ → Type 0
RunsLines s [] t text = (t ≡ s) × (text ≡ [])
RunsLines s (bytes ∷ others) t text =
    (mid : Stage) × (first more : List ℕ) × RunsBytes s bytes mid first × RunsLines mid others t more
    × (text ≡ first ++ more)

-- The lines run from the start, and print this text.
pub record Prints (lines : List (List ℕ)) (text : List ℕ) : Type 0 where
  pub start : Stage
  pub starts : IsStart start
  pub end : Stage
  pub runs : RunsLines start lines end text

-- ---- where a run ends before the end of its input

-- the first of these lines does not parse
abbrev pub FirstIsInvalid : List (List ℕ) → Type 0
FirstIsInvalid [] = ⊥
FirstIsInvalid (bytes ∷ others) = (bytes ≢ []) × (parsed bytes ≡ None)

-- the first of these lines parses
abbrev pub FirstIsValid : List (List ℕ) → Type 0
FirstIsValid [] = ⊥
FirstIsValid (bytes ∷ others) = (bytes ≢ []) × (l : Line) × (parsed bytes ≡ Some l)

-- What a fault says of the line that comes next. For `Line` it does not parse, and this is its number,
-- counted from 1; for `Memory` and `Device` it parses, but memory ran out or the disk failed; for `Input` no
-- more lines can be counted.
abbrev pub EndsAtLine : ScheduleFault → List (List ℕ) → List (List ℕ) → Type 0
EndsAtLine (fault.Line number) lines left = (number ≡ length lines + 1) × FirstIsInvalid left
EndsAtLine (fault.Memory error) lines left = FirstIsValid left
EndsAtLine fault.Device lines left = FirstIsValid left
EndsAtLine fault.Input lines left = length lines ≡ 2 ^ 64 - 2

-- the fault is one of memory or of the disk
abbrev pub IsOfStore : ScheduleFault → Type 0
IsOfStore end = (end ≡ fault.Memory out_of_memory) ⊎ (end ≡ fault.Device)

-- A run ended within what was read: the next line is at fault, and all that was printed is written; or the
-- writer failed.
abbrev pub EndsWithin : (StreamFault → Type 0) → ScheduleFault → List (List ℕ) → List (List ℕ) → List ℕ
    → Type 0
EndsWithin writer end lines left more = ((more ≡ []) × EndsAtLine end lines left) ⊎ IsOfStream writer end

-- A run ended within what was read, or the reader failed, or nothing was read, since memory or the disk
-- failed as it began.
abbrev pub EndsAt : (StreamFault → Type 0) → (StreamFault → Type 0) → Type 0 → ScheduleFault → List (List ℕ)
    → List (List ℕ) → List ℕ → Type 0
EndsAt reader writer unread end lines left more =
    EndsWithin writer end lines left more ⊎ ((more ≡ [])
    × (IsOfStream reader end ⊎ ((lines ≡ []) × IsOfStore end × unread)))

-- this many more reads were made
abbrev pub IsReadMore : {R : Type 0} → (R → ℕ → Type 0) → R → R → ℕ → Type 0
IsReadMore was_read old new more = (count : ℕ) → was_read old count → was_read new (count + more)

-- a read failed with this fault, or 2^40 reads were made
abbrev pub ReaderFails : {R : Type 0} → (R → StreamFault → Type 0) → (R → ℕ → Type 0) → R → R → StreamFault
    → Type 0
ReaderFails has_failed was_read old new f =
    has_failed new f ⊎ ((f ≡ stream.Input) × IsReadMore was_read old new (2 ^ 40))

-- ---- a whole run

-- All lines of the input ran, if that is known, and what they print was written. A stop leaves all that they
-- stored on the disk.
pub record RunsAll (input before after : Option (List ℕ)) (disk : MemoryState) : Type 0 where
  pub lines : List (List ℕ)
  pub all : IfSome input (λ bytes. lines_of bytes ≡ lines)
  pub text : List ℕ
  pub prints : Prints lines text
  pub written : Appends before after text
  pub leaves : LeavesStored disk prints.end

-- The first lines of the input ran. What they print was written, except what a failed writer did not take.
pub record RunsUntil (reader writer : StreamFault → Type 0) (unread : Type 0) (end : ScheduleFault)
    (input before after : Option (List ℕ)) : Type 0 where
  pub lines : List (List ℕ)
  pub left : List (List ℕ)
  pub all : IfSome input (λ bytes. lines_of bytes ≡ lines ++ left)
  pub text : List ℕ
  pub more : List ℕ
  pub prints : Prints lines (text ++ more)
  pub written : Appends before after text
  pub ends : EndsAt reader writer unread end lines left more
