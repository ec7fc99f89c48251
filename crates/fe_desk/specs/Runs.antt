-- What a whole run of a desk returns: the desk is opened over a store, and takes steps (`docs/model.md`, "The
-- desk").
use Rattle.std.specs.Prelude.{◌≡◌, ◌⊎◌, ℕ, false, List, Result, Ok, Err, map, Bool, [], ◌∷◌, length}
use Rattle.std.specs.Prelude.{MatchBool, ◌≢◌, ◌↔◌, ⊤, zero, suc, ◌++◌, ◌<◌, ◌≤◌, ◌-◌, take, drop, slice_get}
use Rattle.std.specs.Prelude.{Option, Some, None}
use Rattle.fe_memory.specs.Memory.{out_of_memory}
use Rattle.fe_disk.specs.declared.calls.Calls.{Calls}
use Rattle.fe_keeper.specs.declared.fault.Fault.TheVariants as keeper
use Rattle.fe_desk.specs.declared.fault.DeskFault.{DeskFault}
use Rattle.fe_keeper.specs.Damage as store
use Rattle.fe_desk.specs.declared.fault.DeskFault.TheVariants.{Store, NoMemory, Unwritten}
use Rattle.fe_desk.specs.Crash.{DeskState, disk_of}
use Rattle.fe_state.specs.declared.entry.Entry.{Entry}
use Rattle.fe_desk.specs.Messages.{outputs, TellsFed}
use Rattle.fe_desk.specs.DeskRunState.{DeskRunState, discharged, IsFirstRunState}
use Rattle.fe_desk.specs.declared.trace.Trace.{Trace}
use Rattle.fe_mail.specs.Connections.{mails_on}
use Rattle.fe_desk.specs.declared.step.Step.{Step}
use Rattle.fe_desk.specs.Ends.{Checks, FindsNoMemory, TearsStep, discharged_desk, WritesSome}
use Rattle.fe_desk.specs.Steps.{Acts, DeskStep}
use Rattle.fe_disk.specs.declared.disk.Disk.{Ghosts}
use Rattle.fe_keeper.specs.Ends.{Works, Breaks}
use Rattle.fe_disk.specs.Disk.{Rises, MakesAtMost}
use Rattle.fe_state.specs.State.{ServerState}
use Rattle.fe_state.specs.History.{IsHistory}
use Rattle.fe_journal.specs.Damage.{IsUnformatted}
use Rattle.fe_journal.specs.Journal.{OnlyReads}
use Rattle.fe_keeper.specs.Stands.{StandsFor}
use Rattle.fe_desk.specs.declared.running.Ran.{Ran}

-- the disk that is left, opened or not
abbrev pub disk_after : {D : Type 0} → Result (DeskState D) (DeskFault × D) → D
disk_after (Ok desk) = disk_of desk
disk_after (Err refused) = refused.1

-- the faults of opening
abbrev pub IsOpenFault : DeskFault → Type 0
IsOpenFault fault =
    (fault ≡ Store keeper.Device) ⊎ ((fault ≡ NoMemory out_of_memory false)
    ⊎ ((fault ≡ Store keeper.Unformatted) ⊎ ((offset : ℕ) × (fault ≡ Store (keeper.Damaged offset)))))

-- what a fault of opening says of the image that the disk reads, between these counts of calls
abbrev pub TellsOpening : DeskFault → List ℕ → Calls → Calls → Type 0
TellsOpening (Store fault) image before now = store.TellsStore fault image before now
TellsOpening (NoMemory error fed) image before now = store.TellsStore (keeper.NoMemory error) image before now
TellsOpening (Unwritten error) image before now = ⊥

-- ---- traces

-- the groups of entries that were handed to the store
abbrev pub groups_of : Trace → List (List Entry)
groups_of t = map (λ g. g.items) t.groups.items

-- the bytes written to each connection number
abbrev pub written_of : Trace → List (ℕ × List ℕ)
written_of t = map (λ p. (p.conn, p.written)) t.ports.items

-- nothing was written to these connection numbers
abbrev pub AreSilent : List (ℕ × List ℕ) → Type 0
AreSilent [] = Unit {0}
AreSilent (o ∷ os) = (o.1 ≡ []) × AreSilent os

-- from an index on, nothing was written to the connection numbers before another index, which is that of one
pub record IsNextWritten (outs : List (ℕ × List ℕ)) (from at : ℕ) : Type 0 where
  pub reached : from ≤ at
  pub within : at < length outs
  pub silent : AreSilent (take (at - from) (drop from outs))

-- the trace is that of a run with this state and this many groups stored
pub record IsTraceOf (t : Trace) (s : DeskRunState) (synced : ℕ) : Type 0 where
  pub groups : groups_of t ≡ s.groups
  pub written : written_of t ≡ outputs s
  pub synced_is : t.synced ≡ synced

-- ---- a step, by its answer

-- the disk works, no call of it failed, and all groups are stored
pub record IsSound {D : Type 0} (model : Ghosts D) (old new : DeskState D) : Type 0 where
  pub fine : Works model old.keeper new.keeper
  pub stored : new.synced ≡ length new.run_state.groups

-- The step was taken, and every box is empty.
pub record EndsWhole {D : Type 0} (model : Ghosts D) (old : DeskState D) (step : Step)
    (new : DeskState D) : Type 0 where
  pub took : DeskStep old.run_state step new.run_state
  pub boxes : (conn : ℕ) → mails_on new.run_state.front.connections conn ≡ []
  pub checked : Checks step old new
  pub sound : IsSound model old new

-- The step took effect. Memory was short for some of its mails, which are owed now.
pub record EndsOwing {D : Type 0} (model : Ghosts D) (old : DeskState D) (step : Step)
    (new : DeskState D) : Type 0 where
  pub last : DeskRunState
  pub acts : Acts (discharged old.run_state) step last
  pub writes : WritesSome last new.run_state
  pub took : DeskStep old.run_state step (discharged new.run_state)
  pub checked : Checks step old new
  pub sound : IsSound model old new

-- Memory was short for the step. The answer says what the step did and read, and nothing of it is written.
-- Given again it comes to the same as one step: law `steps_are_given_again`, of `finds`.
pub record EndsByMemory {D : Type 0} (model : Ghosts D) (fed : Bool) (old : DeskState D) (step : Step)
    (new : DeskState D) : Type 0 where
  pub finds : FindsNoMemory fed step old new
  pub read : TellsFed fed old.run_state step new.run_state
  pub silent : old.run_state.owes ≡ false → outputs new.run_state ≡ outputs old.run_state
  pub sound : IsSound model old new

-- The device failed in the step: mails that were owed are written, and nothing of the step is.
pub record EndsByDevice {D : Type 0} (model : Ghosts D) (old : DeskState D) (step : Step)
    (new : DeskState D) : Type 0 where
  pub breaks : TearsStep step (discharged_desk old) new
  pub silent : outputs new.run_state ≡ outputs (discharged old.run_state)
  pub failed : Breaks model old.keeper new.keeper

-- how a step ends, by its answer, if the device had not failed before
abbrev pub Ends : {D : Type 0} → Ghosts D → DeskState D → Step → Result (Unit {0}) DeskFault → DeskState D
    → Type 0
Ends model old step (Ok done) new = EndsWhole model old step new
Ends model old step (Err (Store cause)) new = (cause ≡ keeper.Device) × EndsByDevice model old step new
Ends model old step (Err (NoMemory error fed)) new = EndsByMemory model fed old step new
Ends model old step (Err (Unwritten error)) new = EndsOwing model old step new

-- A step. After a failure of the device each step is refused, and does nothing.
abbrev pub IsStep : {D : Type 0} → Ghosts D → DeskState D → Step → Result (Unit {0}) DeskFault → DeskState D
    → Type 0
IsStep model old step result new =
    MatchBool old.keeper.store.has_failed ((result ≡ Err (Store keeper.Failed)) × (new ≡ old))
    (Ends model old step result new)

-- ---- steps

-- steps one after another, each with its answer
abbrev pub AreSteps : {D : Type 0} → Ghosts D → DeskState D → List (Step × Result (Unit {0}) DeskFault)
    → DeskState D → Type 0
AreSteps model old [] new = new ≡ old
AreSteps {D} model old (given ∷ more) new =
    (mid : DeskState D) × IsStep model old given.0 given.1 mid × AreSteps model mid more new

-- ---- whole runs

-- these steps, each with the answer that it was taken
abbrev pub whole : List Step → List (Step × Result (Unit {0}) DeskFault)
whole steps = map (λ step. (step, Ok tt)) steps

-- All steps were taken; or those before the one with this number, counted from 1, and then that one was at
-- fault and ended the run.
abbrev pub GoesTo : {D : Type 0} → Ghosts D → DeskState D → List Step → Option (ℕ × DeskFault) → DeskState D
    → Type 0
GoesTo model first steps None last = AreSteps model first (whole steps) last
GoesTo model first steps (Some (zero, fault)) last = ⊥
GoesTo model first steps (Some (suc n, fault)) last =
    (step : Step) × (slice_get steps n ≡ Some step)
    × AreSteps model first (whole (take n steps) ++ (step, Err fault) ∷ []) last

-- the fault is not that of the opening
abbrev pub IsPastOpening : Option (ℕ × DeskFault) → Type 0
IsPastOpening None = ⊤
IsPastOpening (Some (zero, fault)) = ⊥
IsPastOpening (Some (suc n, fault)) = ⊤

-- The opening was at fault, and what its fault says of the disk is true. Nothing else was done: the disk was
-- synced at most once, read at most four times, and never written.
pub record IsNotOpened {D : Type 0} (model : Ghosts D) (disk : D) (ran : Ran D)
    (fault : DeskFault) : Type 0 where
  pub is_fault : IsOpenFault fault
  pub says : model.honest disk → TellsOpening fault (model.seen disk) (model.calls disk)
      (model.calls ran.disk)
  pub refused : model.honest disk → (s : ServerState) → StandsFor (model.seen disk) s
      → (fault ≡ Store keeper.Device) ⊎ (fault ≡ NoMemory out_of_memory false)
  pub unformatted : model.honest disk → IsUnformatted (model.seen disk)
      → (fault ≡ Store keeper.Unformatted) ⊎ (fault ≡ Store keeper.Device)
  pub device : (fault ≡ Store keeper.Device) ↔ Rises (model.failures disk) (model.failures ran.disk)
  pub still : fault ≢ Store keeper.Device → model.failures ran.disk ≡ model.failures disk
  pub writes_none : MakesAtMost 4 0 1 (model.calls disk) (model.calls ran.disk)
  pub reads : model.honest disk → OnlyReads model disk ran.disk
  pub groups : groups_of ran.trace ≡ []
  pub written : written_of ran.trace ≡ []
  pub synced : ran.trace.synced ≡ 0

-- A desk was opened over the state that the disk stands for, and the steps led from there to what the trace
-- and the disk are. Its groups are a history from that state.
pub record IsOpened {D : Type 0} (model : Ghosts D) (disk : D) (steps : List Step)
    (ran : Ran D) : Type 0 where
  pub first : DeskState D
  pub last : DeskState D
  pub opened : model.honest disk → StandsFor (model.seen disk) first.keeper.state
  pub begins : IsFirstRunState first.keeper.state first.run_state
  pub none_stored : first.synced ≡ 0
  pub works : first.keeper.store.has_failed ≡ false
  pub still : model.failures (disk_of first) ≡ model.failures disk
  pub goes : GoesTo model first steps ran.fault last
  pub history : IsHistory first.keeper.state last.run_state.groups
  pub trace : IsTraceOf ran.trace last.run_state last.synced
  pub disk_is : ran.disk ≡ disk_of last

-- a run, by the fault that ended it
abbrev pub IsRunTo : {D : Type 0} → Ghosts D → D → List Step → Ran D → Option (ℕ × DeskFault) → Type 0
IsRunTo model disk steps ran None = IsOpened model disk steps ran
IsRunTo model disk steps ran (Some (zero, fault)) = IsNotOpened model disk ran fault
IsRunTo model disk steps ran (Some (suc n, fault)) = IsOpened model disk steps ran

-- what a run did, and what it reports
abbrev pub IsRunOf : {D : Type 0} → Ghosts D → D → List Step → Ran D → Type 0
IsRunOf model disk steps ran = IsRunTo model disk steps ran ran.fault
