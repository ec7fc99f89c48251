-- What is always true of a run, and what its parts do (`docs/model.md`, "Schedules").
use Rattle.std.specs.Prelude.{◌≡◌, ◌≢◌, ℕ, ◌+◌, ◌-◌, ◌^◌, ◌<◌, ◌≤◌, List, [], ◌++◌, length, Option, None}
use Rattle.std.specs.Prelude.{Some, string_bytes, vec_capacity}
use Rattle.std.specs.Io.KnownBytes.{Appends}
use Rattle.fe_disk.specs.Memory.{MemoryState, synced_image}
use Rattle.fe_state.specs.State.{ServerState}
use Rattle.fe_desk.specs.Acknowledged.{AnswersStand, IsAcknowledged, may_ask_any}
use Rattle.fe_desk.specs.Crash.{DeskState, IsFrom, disk_of, desk_anew}
use Rattle.fe_desk.specs.Messages.{outputs}
use Rattle.fe_desk.specs.DeskRunState.{DeskRunState, IsFirstRunState}
use Rattle.fe_desk.specs.declared.step.Step.{Step}
use Rattle.fe_schedules.specs.Ready.{IsReady, IsBetweenLines, Moves}
use Rattle.fe_text.specs.Line.{parsed, lines_of, HasNoFeed, longest_line}
use Rattle.fe_schedules.specs.Schedule.{Stage, AreStepsOf, holds_after, endings, RunsBytes, Prints, RunsLines}
use Rattle.fe_schedules.specs.Schedule.{IsStart, EndsWithin, LeavesStored, IsPrinted}
use Rattle.fe_text.specs.declared.fault.StreamFault.{StreamFault}
use Rattle.fe_schedules.specs.declared.fault.ScheduleFault.{ScheduleFault}
use Rattle.fe_schedules.specs.declared.fault.ScheduleFault.TheVariants as fault
use Rattle.fe_text.specs.declared.line.Line.{Line}
use Rattle.fe_text.specs.declared.line.Line.TheVariants as line
use Rattle.fe_schedules.specs.declared.machine.Machine.{Machine}
use Rattle.fe_schedules.specs.declared.run.Run.{Run}

-- ---- how replies are printed

-- `after` is `before` and the desk's replies, printed
pub record PrintsMore (s : DeskRunState) (before after : List ℕ) : Type 0 where
  pub more : List ℕ
  pub prints : IsPrinted (outputs s) more
  pub is : after ≡ before ++ more

-- ---- a machine

-- the disk at which a `stop` failed, or else the desk's
abbrev pub last_of : Option MemoryState → MemoryState → MemoryState
last_of None disk = disk
last_of (Some lost) disk = lost

abbrev pub last_disk : Machine → MemoryState
last_disk m = last_of m.lost (disk_of m.desk)

-- the desk is between two steps, and there is no disk at which a `stop` failed
pub record IsMachine (m : Machine) : Type 0 where
  pub ready : IsReady m.desk
  pub lost : m.lost ≡ None

-- the machine took these steps, and is ready for the next
pub record TakesSteps (m : Machine) (steps : List Step) (n : Machine) : Type 0 where
  pub machine : IsMachine n
  pub moves : Moves m.desk steps n.desk

-- the desk's replies are printed, and its trace begins anew
pub record PrintsTrace (m n : Machine) (before after : List ℕ) : Type 0 where
  pub machine : IsMachine n
  pub desk : n.desk ≡ desk_anew m.desk
  pub acknowledged : (begun : ServerState) → IsFrom begun m.desk → IsAcknowledged begun may_ask_any m.desk
      → IsAcknowledged m.desk.keeper.state may_ask_any n.desk
  pub text : PrintsMore m.desk.run_state before after

-- A stop, after which the image of the last sync is opened: a fresh desk over what was stored.
pub record Reopens (d e : DeskState MemoryState) : Type 0 where
  pub first : IsFirstRunState d.keeper.state e.run_state
  pub keeper : e.keeper.state ≡ d.keeper.state
  pub synced : e.synced ≡ 0
  pub image : (disk_of e).image ≡ synced_image (disk_of d).image (disk_of d).events

-- The steps of a line begin at the desk `e`: at `d`, or after `Stop` at a fresh desk over what was stored.
abbrev pub BeginsAt : Line → DeskState MemoryState → DeskState MemoryState → Type 0
BeginsAt line.Stop d e = Reopens d e
BeginsAt other d e = e ≡ d

-- the machine took the steps of a line, and is ready for the next
pub record ActsOn (m : Machine) (l : Line) (n : Machine) : Type 0 where
  pub machine : IsMachine n
  pub mid : DeskState MemoryState
  pub begins : BeginsAt l m.desk mid
  pub steps : List Step
  pub are : AreStepsOf l steps
  pub moves : Moves mid steps n.desk

-- ---- a run

-- The machine is between two lines, and its trace has no groups. The unfinished line is no longer than the
-- longest one, for which its buffer has room. At most 2^64 - 2 lines were taken.
pub record IsRun (r : Run) : Type 0 where
  pub machine : IsMachine r.machine
  pub none : r.machine.desk.run_state.groups ≡ []
  pub between : IsBetweenLines r.machine.desk
  pub few : length r.begun.items ≤ longest_line
  pub room : longest_line ≤ vec_capacity r.begun
  pub count : r.lines < 2 ^ 64 - 1

-- The steps of the line were taken, and then, unless on hold, what is pending was stored and posted. The
-- replies are printed, all that was written stands on the groups that are stored, and the trace begins anew.
pub record RanLine (r : Run) (l : Line) (s : Run) : Type 0 where
  pub run : IsRun s
  pub lines : s.lines ≡ r.lines
  pub begun : s.begun ≡ r.begun
  pub mid : DeskState MemoryState
  pub begins : BeginsAt l r.machine.desk mid
  pub steps : List Step
  pub are : AreStepsOf l steps
  pub last : DeskState MemoryState
  pub moves : Moves mid (steps ++ endings s.is_holding) last
  pub ready : IsReady last
  pub answers : AnswersStand r.machine.desk.keeper.state last.run_state.groups may_ask_any last.run_state
  pub anew : s.machine.desk ≡ desk_anew last
  pub holding : s.is_holding ≡ holds_after l r.is_holding
  pub prints : PrintsMore last.run_state (string_bytes r.text) (string_bytes s.text)

-- the run is at the stage `s`
pub record IsAt (r : Run) (s : Stage) : Type 0 where
  pub stored : s.stored ≡ r.machine.desk.keeper.state
  pub run_state : s.run_state ≡ r.machine.desk.run_state
  pub holding : s.is_holding ≡ r.is_holding

-- ---- lines

-- The line of these bytes ran, at whatever stage the run was.
pub record RanBytes (r : Run) (bytes : List ℕ) (s : Run) : Type 0 where
  pub run : IsRun s
  pub more : List ℕ
  pub runs : (at : Stage) → IsAt r at → (next : Stage) × IsAt s next × RunsBytes at bytes next more
  pub text : string_bytes s.text ≡ string_bytes r.text ++ more
  pub begun : s.begun.items ≡ []
  pub lines : s.lines ≡ r.lines + 1

-- the bytes parse as this line, or there are none
abbrev pub SaysLine : List ℕ → Option Line → Type 0
SaysLine bytes None = bytes ≡ []
SaysLine bytes (Some said) = (bytes ≢ []) × (parsed bytes ≡ Some said)

-- the line of these bytes does not parse, and the fault has its number
abbrev pub IsStray : ℕ → List ℕ → ScheduleFault → Type 0
IsStray number bytes end = (end ≡ fault.Line number) × (bytes ≢ []) × (parsed bytes ≡ None)

-- the line is longer than the longest one of the syntax, and the fault has its number
abbrev pub IsTooLong : ℕ → List ℕ → ScheduleFault → Type 0
IsTooLong number bytes end = (end ≡ fault.Line number) × (longest_line < length bytes)

-- What a fault says of the line of these bytes with this number. For `Line` it does not parse; for `Memory`
-- and `Device` it parses, but memory ran out or the disk failed; for `Input` it is line 2^64 - 1, which is
-- not counted.
abbrev pub IsFaultOf : ℕ → List ℕ → ScheduleFault → Type 0
IsFaultOf number bytes (fault.Line found) = (found ≡ number) × (bytes ≢ []) × (parsed bytes ≡ None)
IsFaultOf number bytes (fault.Memory error) = (bytes ≢ []) × (l : Line) × (parsed bytes ≡ Some l)
IsFaultOf number bytes fault.Device = (bytes ≢ []) × (l : Line) × (parsed bytes ≡ Some l)
IsFaultOf number bytes fault.Input = number ≡ 2 ^ 64 - 1

-- ---- pieces

-- The complete lines among these bytes ran, and the run has the unfinished one. What they print was written,
-- except the run's text.
pub record SoFar (read : List ℕ) (before now : Option (List ℕ)) (r : Run) : Type 0 where
  pub run : IsRun r
  pub lines : List (List ℕ)
  pub splits : (others : List ℕ) → lines_of (read ++ others) ≡ lines ++ lines_of (r.begun.items ++ others)
  pub no_feed : HasNoFeed r.begun.items
  pub counts : r.lines ≡ length lines
  pub start : Stage
  pub starts : IsStart start
  pub here : Stage
  pub is : IsAt r here
  pub text : List ℕ
  pub runs : RunsLines start lines here (text ++ string_bytes r.text)
  pub written : Appends before now text

-- All of these bytes ran as lines. What they print was written, except the text `kept`. A stop leaves on the
-- disk all that they stored.
pub record Whole (input : List ℕ) (before now : Option (List ℕ)) (kept : List ℕ)
    (disk : MemoryState) : Type 0 where
  pub lines : List (List ℕ)
  pub all : lines_of input ≡ lines
  pub text : List ℕ
  pub prints : Prints lines (text ++ kept)
  pub written : Appends before now text
  pub leaves : LeavesStored disk prints.end

-- A run over these bytes ended at a fault. What its lines print was written, without the text `kept`, and
-- without `more` if the writer failed.
pub record Ended (writer : StreamFault → Type 0) (end : ScheduleFault) (input : List ℕ)
    (before now : Option (List ℕ)) (kept : List ℕ) : Type 0 where
  pub lines : List (List ℕ)
  pub left : List (List ℕ)
  pub more : List ℕ
  pub all : lines_of input ≡ lines ++ left
  pub ends : EndsWithin writer end lines left more
  pub text : List ℕ
  pub prints : Prints lines ((text ++ kept) ++ more)
  pub written : Appends before now text

-- A run ended at a fault within these bytes, whatever comes after them.
abbrev pub EndedIn : (StreamFault → Type 0) → ScheduleFault → List ℕ → Option (List ℕ) → Option (List ℕ)
    → List ℕ → Type 0
EndedIn writer end read before now kept =
    (others : List ℕ) → Ended writer end (read ++ others) before now kept
