-- How a call goes: one relation for each kind of call, by cases of what it answers. `model` is `D.Disk`, the
-- members of the disk model. Calls go one after the other by `then` (`proofs/Goes`) (`docs/model.md`, "The
-- desk").
use Rattle.std.specs.Prelude.{◌≡◌, ◌⊎◌, ℕ, Bool, true, List, [], Result, Ok, Err, MatchResult}
use Rattle.fe_memory.specs.declared.OutOfMemory.{OutOfMemory}
use Rattle.fe_disk.specs.declared.disk.Disk.{Ghosts}
use Rattle.fe_keeper.specs.declared.fault.Fault.{Fault}
use Rattle.fe_keeper.specs.declared.fault.Fault.TheVariants.{Device, Failed, NoMemory, Mismatch, Damaged}
use Rattle.fe_keeper.specs.declared.fault.Fault.TheVariants.{Unformatted}
use Rattle.fe_desk.specs.declared.fault.DeskFault.{DeskFault}
use Rattle.fe_desk.specs.declared.fault.DeskFault.TheVariants as desk
use Rattle.fe_desk.specs.declared.step.Step.{Step}
use Rattle.fe_desk.specs.DeskRunState.{DeskRunState, emptied, discharged}
use Rattle.fe_desk.specs.Room.{is_making}
use Rattle.fe_desk.specs.Steps.{HasNoMail, TakesAll, Acts, TakesBytes, find, with_left}
use Rattle.fe_desk.specs.Ends.{WritesSome, StoresMore, Checks, Lacks, Tears, TearsStep, HasCut, StopsBefore}
use Rattle.fe_desk.specs.Ends.{StopsBehind}
use Rattle.fe_desk.specs.Crash.{DeskState, Advances}
use Rattle.fe_desk.specs.Messages.{left_of}
use Rattle.fe_desk.specs.within.Desk.{IsDesk}
use Rattle.fe_keeper.specs.Ends.{Works, Breaks}

-- ---- calls that may store batches

-- the device works: the groups that came are stored, and nothing else was done to the store
pub record Stores {D : Type 0} (model : Ghosts D) (old new : DeskState D) : Type 0 where
  pub fine : Works model old.keeper new.keeper
  pub grows : StoresMore old new

-- the device failed to store the batch at hand, where `Until` was true of the run
pub record Loses {D : Type 0} (model : Ghosts D) (Until : DeskRunState → Type 0)
    (old new : DeskState D) : Type 0 where
  pub last : DeskRunState
  pub until : Until last
  pub tears : Tears last new
  pub failed : Breaks model old.keeper new.keeper

-- the faults of such a call: memory is short where it stops (`Short`), or the device fails to store a batch
-- where it stops (`Until`)
abbrev pub Faults : {D : Type 0} → Ghosts D → (DeskState D → Type 0) → (DeskRunState → Type 0) → DeskState D
    → DeskState D → Fault → Type 0
Faults model Short Until old new Device = Loses model Until old new
Faults model Short Until old new Failed = ⊥
Faults model Short Until old new (NoMemory error) = Stores model old new × Short new
Faults model Short Until old new (Mismatch place) = ⊥
Faults model Short Until old new (Damaged offset) = ⊥
Faults model Short Until old new Unformatted = ⊥

-- A call goes on with the store, and leaves a desk with the mails that are owed as they were. It is done
-- (`Done`), or it has a fault.
pub record Goes {D : Type 0} (model : Ghosts D) (Done : DeskRunState → Type 0) (Short : DeskState D → Type 0)
    (Until : DeskRunState → Type 0)
    (result : Result (Unit {0}) Fault) (old new : DeskState D) : Type 0 where
  pub desk : IsDesk model new
  pub owes : new.run_state.owes ≡ old.run_state.owes
  pub advances : Advances model old new
  pub ends : MatchResult result (λ _. Stores model old new × Done new.run_state)
      (Faults model Short Until old new)

-- the faults of such a call that reads a piece: memory is short before the piece is read, or after it (`fed`)
abbrev pub PieceFaults : {D : Type 0} → Ghosts D → (Bool → DeskRunState → Type 0) → (DeskRunState → Type 0)
    → DeskState D → DeskState D → DeskFault → Type 0
PieceFaults model Short Until old new (desk.Store cause) = (cause ≡ Device) × Loses model Until old new
PieceFaults model Short Until old new (desk.NoMemory error fed) =
    Stores model old new × Short fed new.run_state
PieceFaults model Short Until old new (desk.Unwritten error) = ⊥

-- such a call that reads a piece: it is done, or has one of these faults
pub record GoesPiece {D : Type 0} (model : Ghosts D) (Done : DeskRunState → Type 0)
    (Short : Bool → DeskRunState → Type 0) (Until : DeskRunState → Type 0)
    (result : Result (Unit {0}) DeskFault) (old new : DeskState D) : Type 0 where
  pub desk : IsDesk model new
  pub owes : new.run_state.owes ≡ old.run_state.owes
  pub advances : Advances model old new
  pub ends : MatchResult result (λ _. Stores model old new × Done new.run_state)
      (PieceFaults model Short Until old new)

-- ---- where such calls come to, and where they stop

-- the run stands there
abbrev pub Is : DeskRunState → DeskRunState → Type 0
Is there s = s ≡ there

-- memory was short for the batch at hand, and nothing was done
pub record IsUnstored {D : Type 0} (old new : DeskState D) : Type 0 where
  pub at_hand : HasCut old.run_state
  pub same : new ≡ old

-- memory was short for the batch at hand, where `Until` is true of the run
pub record IsShort {D : Type 0} (Until : DeskRunState → Type 0) (new : DeskState D) : Type 0 where
  pub until : Until new.run_state
  pub at_hand : HasCut new.run_state

-- A call leads to this state of the run, or stops where `Until` is true of it, for either fault.
abbrev pub GoesTo : {D : Type 0} → Ghosts D → DeskRunState → (DeskRunState → Type 0) → Result (Unit {0}) Fault
    → DeskState D → DeskState D → Type 0
GoesTo model there Until result old new = Goes model (Is there) (IsShort Until) Until result old new

-- room was begun for a message of this connection
abbrev pub WasBegun : DeskRunState → ℕ → DeskRunState → Type 0
WasBegun s conn t = (is_making s conn ≡ true) × (t ≡ s)

-- the messages of a connection that are left are taken
abbrev pub TakesLeft : DeskRunState → ℕ → DeskRunState → Type 0
TakesLeft s conn t = TakesAll (with_left s conn []) conn (left_of s conn) t

-- the bytes of a connection are taken
abbrev pub TakesStream : DeskRunState → ℕ → List ℕ → DeskRunState → Type 0
TakesStream s conn piece t = TakesBytes s (find conn s.clients) piece t

-- the device failed to store a batch while they were taken
abbrev pub StopsStream : DeskRunState → ℕ → List ℕ → DeskRunState → Type 0
StopsStream s conn piece last = StopsBefore s conn last ⊎ StopsBehind s conn piece last

-- ---- what a step does before the boxes are emptied

-- it is done
pub record HasActed {D : Type 0} (model : Ghosts D) (old : DeskState D) (step : Step)
    (new : DeskState D) : Type 0 where
  pub acts : Acts old.run_state step new.run_state
  pub checked : Checks step old new
  pub fine : Works model old.keeper new.keeper

-- how a step that acts ends, by its answer
abbrev pub ActEnds : {D : Type 0} → Ghosts D → DeskState D → Step → DeskState D → Result (Unit {0}) DeskFault
    → Type 0
ActEnds model old step new (Ok done) = HasActed model old step new
ActEnds model old step new (Err (desk.Store cause)) =
    (cause ≡ Device) × TearsStep step old new × Breaks model old.keeper new.keeper
ActEnds model old step new (Err (desk.NoMemory error fed)) =
    Lacks fed step old new × Works model old.keeper new.keeper
ActEnds model old step new (Err (desk.Unwritten error)) = ⊥

-- A step acts, and leaves a desk with the mails that are owed as they were.
pub record GoesAct {D : Type 0} (model : Ghosts D) (old : DeskState D) (step : Step)
    (result : Result (Unit {0}) DeskFault) (new : DeskState D) : Type 0 where
  pub desk : IsDesk model new
  pub owes : new.run_state.owes ≡ old.run_state.owes
  pub advances : Advances model old new
  pub ends : ActEnds model old step new result

-- ---- the boxes are emptied

-- all of them
pub record HasEmptied (s t : DeskRunState) : Type 0 where
  pub after : t ≡ emptied s
  pub quiet : HasNoMail t

-- the boxes are emptied, or memory is short for some of the mails
abbrev pub Empties : Result (Unit {0}) OutOfMemory → DeskRunState → DeskRunState → Type 0
Empties result s t = MatchResult result (λ _. HasEmptied s t) (λ _. WritesSome s t)

-- the mails that an earlier step left are written, or some of them
abbrev pub Settles : Result (Unit {0}) OutOfMemory → DeskRunState → DeskRunState → Type 0
Settles result s t = MatchResult result (λ _. t ≡ discharged s) (λ _. (s.owes ≡ true) × WritesSome s t)
