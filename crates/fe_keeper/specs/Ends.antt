-- How a call of a keeper ends, and what it leaves. A keeper has a replica of the server's state, and the
-- store in which that is kept. See `docs/model.md`, "The keeper".
use Rattle.std.specs.Prelude.{◌≡◌, ◌⊎◌, ◌↔◌, ℕ, ◌+◌, true, false, IsTrue, List, MatchBool, Result, Ok, Err}
use Rattle.std.specs.Prelude.{MatchResult}
use Rattle.fe_disk.specs.Disk.{Rises, MakesAtMost}
use Rattle.fe_disk.specs.Runs.{LeavesOnly}
use Rattle.fe_disk.specs.declared.calls.Calls.{Calls}
use Rattle.fe_state.specs.State.{after_all}
use Rattle.fe_state.specs.declared.batch.Batch.{Batch}
use Rattle.fe_state.specs.declared.entry.Entry.{Entry}
use Rattle.fe_replica.specs.Replaying.{Continues, IsMismatch, MakesSomeArray}
use Rattle.fe_keeper.specs.Keeper.{KeeperState, StoreState, appended, begun, can_begin, fits, made_room}
use Rattle.fe_keeper.specs.Keeper.{must_begin, slices_left}
use Rattle.fe_keeper.specs.Stands.{StandsFor, EachStandsFor}
use Rattle.fe_keeper.specs.declared.fault.Fault.{Fault}
use Rattle.fe_keeper.specs.declared.fault.Fault.TheVariants.{Device, Failed, NoMemory, Mismatch, Damaged}
use Rattle.fe_keeper.specs.declared.fault.Fault.TheVariants.{Unformatted}
use Rattle.fe_disk.specs.declared.disk.Disk.{Ghosts}

-- ---- what stops leave

-- Over an honest disk that had not failed, each image that a stop at any moment of the call leaves has P.
abbrev pub StopsLeave : {D : Type 0} → Ghosts D → KeeperState D → KeeperState D
    → (List ℕ → Type 0) → Type 0
StopsLeave model old new P =
    model.honest old.store.disk → old.store.has_failed ≡ false
    → LeavesOnly model old.store.disk new.store.disk P

-- Over an honest disk that has not failed, each image that a stop may leave now stands for the keeper's
-- state.
abbrev pub IsDurable : {D : Type 0} → Ghosts D → KeeperState D → Type 0
IsDurable model keeper =
    model.honest keeper.store.disk → keeper.store.has_failed ≡ false
    → EachStandsFor model keeper.store.disk keeper.state

-- The keeper's state stays. Over an honest disk that had not failed, each image that a stop at any moment
-- leaves stands for it.
pub record Rests {D : Type 0} (model : Ghosts D) (old new : KeeperState D) : Type 0 where
  pub state : new.state ≡ old.state
  pub any_moment : StopsLeave model old new (λ image. StandsFor image old.state)
  pub honesty : model.honest new.store.disk ↔ model.honest old.store.disk

-- ---- how a call ends

-- The device works: no call of it failed in this call of the keeper, or before.
pub record Works {D : Type 0} (model : Ghosts D) (old new : KeeperState D) : Type 0 where
  pub before : old.store.has_failed ≡ false
  pub after : new.store.has_failed ≡ false
  pub still : model.failures new.store.disk ≡ model.failures old.store.disk

-- No call of the device failed in this call of the keeper.
pub record IsStill {D : Type 0} (model : Ghosts D) (old new : KeeperState D) : Type 0 where
  pub works : new.store.has_failed ≡ old.store.has_failed
  pub still : model.failures new.store.disk ≡ model.failures old.store.disk

-- A call of the device failed in this call of the keeper, and none before.
pub record Breaks {D : Type 0} (model : Ghosts D) (old new : KeeperState D) : Type 0 where
  pub before : old.store.has_failed ≡ false
  pub failed : new.store.has_failed ≡ true
  pub rises : Rises (model.failures old.store.disk) (model.failures new.store.disk)

-- The call did nothing, and the device had not failed.
pub record Refuses {D : Type 0} (old new : KeeperState D) : Type 0 where
  pub before : old.store.has_failed ≡ false
  pub same : new ≡ old

-- Why a call failed, and what it left then. `Cause` is what `Device`, `NoMemory` and `Mismatch` require
-- besides. The other two never come.
abbrev pub Fails : {D : Type 0} → Ghosts D → (Fault → Type 0) → KeeperState D → KeeperState D → Fault → Type 0
Fails model Cause old new Device = Cause Device × Breaks model old new
Fails model Cause old new Failed = (old.store.has_failed ≡ true) × (new ≡ old)
Fails model Cause old new (NoMemory error) = Cause (NoMemory error) × Refuses old new
Fails model Cause old new (Mismatch place) = Cause (Mismatch place) × Refuses old new
Fails model Cause old new (Damaged offset) = ⊥
Fails model Cause old new Unformatted = ⊥

-- How a call other than an append ended: the device works, or as `Fails` says.
abbrev pub Ends : {T D : Type 0} → Ghosts D → (Fault → Type 0) → Result T Fault → KeeperState D
    → KeeperState D → Type 0
Ends model Cause result old new = MatchResult result (λ _. Works model old new) (Fails model Cause old new)

-- The device fails only if P holds. Memory does not run out, and there is no mismatch.
abbrev pub ForDevice : Type 0 → Fault → Type 0
ForDevice P Device = P
ForDevice P Failed = ⊥
ForDevice P (NoMemory error) = ⊥
ForDevice P (Mismatch place) = ⊥
ForDevice P (Damaged offset) = ⊥
ForDevice P Unformatted = ⊥

-- The device fails, or memory runs out, only if P holds. There is no mismatch.
abbrev pub ForDeviceAndMemory : Type 0 → Fault → Type 0
ForDeviceAndMemory P Device = P
ForDeviceAndMemory P Failed = ⊥
ForDeviceAndMemory P (NoMemory error) = P
ForDeviceAndMemory P (Mismatch place) = ⊥
ForDeviceAndMemory P (Damaged offset) = ⊥
ForDeviceAndMemory P Unformatted = ⊥

-- ---- appends

-- The device fails only for a batch that continues the history. Memory runs out only for a batch that makes
-- an array or needs a whole checkpoint. A mismatch is the first place at which the batch does not continue
-- the history.
abbrev pub ForBatch : {D : Type 0} → KeeperState D → ℕ → List Entry → Fault → Type 0
ForBatch old first entries Device = Continues old.state first entries
ForBatch old first entries Failed = ⊥
ForBatch old first entries (NoMemory error) = MakesSomeArray entries ⊎ IsTrue (must_begin old.store entries)
ForBatch old first entries (Mismatch place) = IsMismatch old.state first entries place
ForBatch old first entries (Damaged offset) = ⊥
ForBatch old first entries Unformatted = ⊥

-- The batch continues the history, and is stored.
pub record IsAppended {D : Type 0} (old new : KeeperState D) (first : ℕ) (entries : List Entry) : Type 0 where
  pub continues : Continues old.state first entries
  pub state : new.state ≡ after_all old.state entries
  pub store : new.store ≡ record (appended (made_room old.store entries) entries) { disk = new.store.disk }

-- the batch that an append returns
abbrev pub batch_of : Result Batch (Fault × Batch) → Batch
batch_of (Ok batch) = batch
batch_of (Err refused) = refused.1

-- How an append ended.
abbrev pub AppendEnds : {D : Type 0} → Ghosts D → Result Batch (Fault × Batch) → KeeperState D → KeeperState D
    → Batch → Type 0
AppendEnds model result old new batch =
    MatchResult result (λ _. Works model old new)
    (λ e. Fails model (ForBatch old batch.first batch.entries) old new e.0)

-- How many device calls an append makes at most. A whole checkpoint, if the batch needs one, has this many
-- slices.
pub record MakesToAppend {D : Type 0} (store : StoreState D) (entries : List Entry) (whole : ℕ)
    (before after : Calls) : Type 0 where
  -- the batch fits
  pub to_append : IsTrue (fits store entries) → MakesAtMost 0 2 2 before after
  -- it fits once the checkpoint under way is finished
  pub to_finish : must_begin store entries ≡ false
      → MakesAtMost 0 (slices_left store.checkpoint + 4) 4 before after
  -- it fits after a whole checkpoint
  pub most : MakesAtMost 1 (slices_left store.checkpoint + (whole + 8)) 7 before after

-- ---- checkpoints

-- A checkpoint of this many bytes was begun if one could be. If not, nothing was done.
abbrev pub HasBegun : {D : Type 0} → KeeperState D → KeeperState D → ℕ → Type 0
HasBegun old new size = MatchBool (can_begin old.store)
    (new.store ≡ record (begun old.store size) { disk = new.store.disk }) (new ≡ old)
