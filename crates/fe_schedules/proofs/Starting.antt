-- A schedule before its first line, and how it ends where a stream or memory fails.
use Rattle.std.proofs.Common.{◌≡◌, ℕ, List, [], ◌++◌, Option, Some, None, false, inl, inr, refl, sym, ap, subst, ◌∙◌, string_bytes}
use Rattle.std.specs.FinMap.{empty, get-empty}
use Rattle.std.specs.Prelude.{IfSome}
use Rattle.std.specs.Option.{option_map}
use Rattle.std.specs.Ordering.{nat_cmp}
use Rattle.std.proofs.KnownBytes.{Appends-nil}
use Rattle.std.specs.Io.KnownBytes.{Consumes, IsAtEnd}
use Rattle.fe_disk.specs.Memory.{MemoryState}
use Rattle.fe_state.specs.State.{first_state}
use Rattle.fe_mail.specs.Books.{first_books}
use Rattle.fe_front.specs.Front.{FrontState}
use Rattle.fe_desk.specs.DeskRunState.{DeskRunState, IsFirstRunState}
use Rattle.fe_desk.specs.declared.handed.Handed.TheVariants.{Nothing}
use Rattle.fe_text.specs.declared.fault.StreamFault.{StreamFault}
use Rattle.fe_schedules.specs.Schedule.{of_machine, of_stream, Stage, IsStart, Prints, RunsAll, RunsUntil, IsOfStore}
use Rattle.fe_schedules.specs.declared.fault.MachineFault.{MachineFault}
use Rattle.fe_schedules.specs.declared.fault.MachineFault.TheVariants as machine
use Rattle.fe_text.specs.Line.{lines_of, HasNoFeed}
use Rattle.fe_schedules.specs.Runs.{IsRun, IsAt, SoFar, Whole, Ended}
use Rattle.fe_schedules.specs.declared.fault.ScheduleFault.{ScheduleFault}
use Rattle.fe_schedules.specs.declared.run.Run.{Run}
use Rattle.fe_schedules.proofs.Taking.{until, unread_left, all_ran, known, known_all}

abbrev first_front : FrontState
first_front = record { service = record { state = first_state; attachments = empty; waiting = empty; pending = [] }; connections = empty; durable = 0; out = None; books = first_books }

abbrev first_run_state : DeskRunState
first_run_state = record { front = first_front; clients = []; handed = Nothing; making = None; groups = []; owes = false }

abbrev first_stage : Stage
first_stage = record { stored = first_state; run_state = first_run_state; is_holding = false }

none_mapped : {A B : Type 0} (f : A → B) {o : Option A} → o ≡ None → option_map f o ≡ None
none_mapped f e = ap (option_map f) e

is_first : IsFirstRunState first_state first_run_state
is_first = record {
  front = record { state = refl; attachments = λ session. get-empty nat_cmp session ∙ sym (none_mapped _ (get-empty nat_cmp session)); waiting = refl; pending = refl; connections = refl; durable = refl; out = refl; books = refl };
  clients = refl;
  handed = refl;
  making = refl;
  groups = refl;
  owes = refl;
}

starts : IsStart first_stage
starts = record { stored = refl; run_state = is_first; is_holding = refl }

-- no line ran, and nothing is printed
none_ran : Prints [] []
none_ran = record { start = first_stage; starts = starts; end = first_stage; runs = (refl, refl) }

-- the lines of the input, where it is known
abbrev input_lines : Option (List ℕ) → List (List ℕ)
input_lines None = []
input_lines (Some bytes) = lines_of bytes

are_lines : (o : Option (List ℕ)) → IfSome o (λ bytes. lines_of bytes ≡ input_lines o)
are_lines None = tt
are_lines (Some bytes) = refl

-- nothing was read
pub nothing_read : (reader writer : StreamFault → Type 0) (unread : Type 0) (end : ScheduleFault) (o now : Option (List ℕ)) → IsOfStore end → unread → RunsUntil reader writer unread end o now now
nothing_read reader writer unread end o now of none =
    record { lines = []; left = input_lines o; all = are_lines o; text = []; more = []; prints = none_ran; written = Appends-nil now; ends = inr (refl, inr (refl, of, none)) }

pub of_store : (f : MachineFault) → IsOfStore (of_machine f)
of_store (machine.Memory error) = inl refl
of_store machine.Device = inr refl

-- ---- ends

pub broke : (reader writer : StreamFault → Type 0) (unread : Type 0) (end : ScheduleFault) (o i : Option (List ℕ)) (read : List ℕ) (before after : Option (List ℕ)) → Consumes o i read → ((others : List ℕ) → Ended writer end (read ++ others) before after []) → RunsUntil reader writer unread end o before after
broke reader writer unread end o i read before after c ended = let k = known o i read c in until reader writer unread end o (read ++ k.0) before after k.1 (ended k.0)

pub halted : (reader writer : StreamFault → Type 0) (unread : Type 0) (f : StreamFault) → reader f → (o i : Option (List ℕ)) (read : List ℕ) (before now : Option (List ℕ)) (r : Run) → Consumes o i read → SoFar read before now r → string_bytes r.text ≡ [] → RunsUntil reader writer unread (of_stream f) o before now
halted reader writer unread f fails o i read before now r c so none = let k = known o i read c in unread_left reader writer unread f fails o read k.0 before now r k.1 so none

pub ended : (reader writer : StreamFault → Type 0) (unread : Type 0) (end : ScheduleFault) (o i : Option (List ℕ)) (read : List ℕ) (before after : Option (List ℕ)) → Consumes o i read → IsAtEnd i → Ended writer end read before after [] → RunsUntil reader writer unread end o before after
ended reader writer unread end o i read before after c e at = until reader writer unread end o read before after (known_all o i read c e) at

pub finished : (o i : Option (List ℕ)) (read : List ℕ) (before after : Option (List ℕ)) (disk : MemoryState) → Consumes o i read → IsAtEnd i → Whole read before after [] disk → RunsAll o before after disk
finished o i read before after disk c e w = all_ran o read before after disk (known_all o i read c e) w

-- a run at its start has read nothing
pub begins : (now : Option (List ℕ)) (r : Run) (at : Stage) → IsRun r → IsStart at → IsAt r at → r.lines ≡ 0 → r.begun.items ≡ [] → string_bytes r.text ≡ [] → SoFar [] now now r
begins now r at run start is lines begun text = record {
  run = run;
  lines = [];
  splits = λ others. ap (λ (b : List ℕ). lines_of (b ++ others)) (sym begun);
  no_feed = subst HasNoFeed (sym begun) tt;
  counts = lines;
  start = at;
  starts = start;
  here = at;
  is = is;
  text = [];
  runs = (refl, text);
  written = Appends-nil now;
}
