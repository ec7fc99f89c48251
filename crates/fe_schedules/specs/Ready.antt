-- A desk (the front, its connections' streams and a store's keeper, in one thread) over a store in memory,
-- between two steps. See `docs/model.md`, "Schedules".
use Rattle.fe_disk.specs.Memory.{MemoryState, IsBlank, size_of, failures_of, calls_of, seen_of, moment_of}
use Rattle.fe_disk.specs.Memory.{IsHonest, LeavesNow, LeavesSince}
use Rattle.fe_disk.specs.declared.disk.Disk.{Ghosts}
use Rattle.std.specs.Prelude.{◌≡◌, false, List, [], ◌∷◌, length}
use Rattle.fe_journal.specs.Layout.{device_bytes}
use Rattle.fe_state.specs.State.{ServerState, IsWithinLimits}
use Rattle.fe_keeper.specs.Stands.{EachStandsFor}
use Rattle.fe_desk.specs.Acknowledged.{IsAcknowledged, HasNoneToPost, may_ask_any}
use Rattle.fe_desk.specs.Crash.{DeskState, IsFrom, disk_of}
use Rattle.fe_desk.specs.Ends.{Checks}
use Rattle.fe_desk.specs.Steps.{HasNoMail, DeskRun}
use Rattle.fe_desk.specs.declared.step.Step.{Step}

-- the members of the trait `Disk`, in which contracts speak of a disk, for a disk in memory

abbrev pub memory_model : Ghosts MemoryState
memory_model = record {
  size = size_of;
  failures = failures_of;
  calls = calls_of;
  honest = IsHonest;
  seen = seen_of;
  may_leave = LeavesNow;
  moment = moment_of;
  left_since = LeavesSince;
}

-- the disk has a store's size, does what its model says, and no call of it failed
pub record HoldsStore (disk : MemoryState) : Type 0 where
  pub size : length disk.image ≡ device_bytes
  pub honest : IsHonest disk
  pub calm : disk.failures ≡ 0

-- a new disk of a store's size, all of it zeros, that does what its model says
pub record IsNewDisk (disk : MemoryState) : Type 0 where
  pub zeros : IsBlank device_bytes disk
  pub honest : IsHonest disk

-- The store works, its disk does what its model says, and no call of it failed. The desk's groups are a
-- history from some state, and all are stored. Each image that a stop may leave stands for the state that the
-- keeper has. No mail is left to be written.
pub record IsReady (d : DeskState MemoryState) : Type 0 where
  pub works : d.keeper.store.has_failed ≡ false
  pub calm : (disk_of d).failures ≡ 0
  pub honest : IsHonest (disk_of d)
  pub begun : ServerState
  pub from : IsFrom begun d
  pub stands : EachStandsFor memory_model (disk_of d) d.keeper.state
  pub synced : d.synced ≡ length d.run_state.groups
  pub quiet : HasNoMail d.run_state

-- A desk between two lines: what it wrote since the last line stands on what is stored, and no batch is
-- stored and not posted.
pub record IsBetweenLines (d : DeskState MemoryState) : Type 0 where
  pub limits : IsWithinLimits d.keeper.state
  pub acknowledged : IsAcknowledged d.keeper.state may_ask_any d
  pub posted : HasNoneToPost d.run_state.handed

-- each of the steps, one after the other, did to the store what `Checks` says
abbrev pub ChecksEach : DeskState MemoryState → List Step → DeskState MemoryState → Type 0
ChecksEach d [] e = e ≡ d
ChecksEach d (step ∷ steps) e = (mid : DeskState MemoryState) × Checks step d mid × ChecksEach mid steps e

-- The desk took these steps, over the store that it had.
pub record Moves (d : DeskState MemoryState) (steps : List Step) (e : DeskState MemoryState) : Type 0 where
  pub runs : DeskRun d.run_state steps e.run_state
  pub from : (begun : ServerState) → IsFrom begun d → IsFrom begun e
  pub acknowledged : (begun : ServerState) → IsWithinLimits begun → IsAcknowledged begun may_ask_any d
      → IsAcknowledged begun may_ask_any e
  pub checks : ChecksEach d steps e
