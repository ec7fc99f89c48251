-- What opening a store returns. An image is the list of all bytes of a disk (`docs/store.md`, "The file").
use Rattle.std.specs.Prelude.{◌≡◌, ◌≢◌, ◌⊎◌, ◌↔◌, ℕ, Bool, true, List, Result, Ok, Err, IfOk, IfErr, IsErrOf}
use Rattle.fe_memory.specs.Memory.{out_of_memory}
use Rattle.fe_state.specs.State.{ServerState, first_state}
use Rattle.fe_journal.specs.Damage.{IsUnformatted}
use Rattle.fe_journal.specs.Layout.{device_bytes}
use Rattle.fe_keeper.specs.Damage.{IsDamagedAt}
use Rattle.fe_keeper.specs.Keeper.{KeeperState}
use Rattle.fe_keeper.specs.Opened.{IsReady}
use Rattle.fe_keeper.specs.Stands.{StandsFor, EachStandsFor}
use Rattle.fe_store.specs.declared.fault.OpenFault.{OpenFault}
use Rattle.fe_store.specs.declared.fault.OpenFault.TheVariants as fault
use Rattle.fe_disk.specs.FileDisk.{file_of}
use Rattle.fe_disk.specs.declared.disk.Disk.{Ghosts}
use Rattle.fe_disk.specs.declared.file_disk.FileDisk.{FileDisk}

-- the image holds no store, and a new one is asked for
abbrev pub IsToFormat : List ℕ → Bool → Type 0
IsToFormat image format = IsUnformatted image × (format ≡ true)

-- The image stands for the state; or a new store is made on it, with the first state.
abbrev pub Opens : List ℕ → Bool → ServerState → Type 0
Opens image format s = StandsFor image s ⊎ (IsToFormat image format × (s ≡ first_state))

-- The keeper has the state that the image stands for, or the first state if a new store was made. Each image
-- that a stop may leave now stands for the keeper's state.
pub record IsOpenedAs {D : Type 0} (model : Ghosts D) (image : List ℕ) (format : Bool)
    (keeper : KeeperState D) : Type 0 where
  pub state : Opens image format keeper.state
  pub durable : EachStandsFor model keeper.store.disk keeper.state

-- the disk of the keeper, or the one that is returned with the fault
abbrev pub disk_after : {D : Type 0} → Result (KeeperState D) (OpenFault × D) → D
disk_after (Ok keeper) = keeper.store.disk
disk_after (Err refused) = refused.1

-- What a fault says of the image that reads of a disk give: that it is unformatted, or that the first damage
-- in it is at this offset. The other faults say nothing of it.
abbrev pub TellsImage : OpenFault → List ℕ → Type 0
TellsImage fault.Unformatted image = IsUnformatted image
TellsImage (fault.Damaged offset) image = IsDamagedAt image offset
TellsImage other image = Unit {0}

-- Why the store of an image is not opened: what the fault says of the image holds, and an image that stands
-- for a state is refused only if the device fails or memory runs out.
pub record IsReason (image : List ℕ) (why : OpenFault) : Type 0 where
  pub tells : TellsImage why image
  pub valid : (s : ServerState) → StandsFor image s
      → (why ≡ fault.Device) ⊎ (why ≡ fault.Memory out_of_memory)

-- How opening the store on a disk ends: the keeper is ready; or there is a fault, which is not `Size` and, if
-- the disk is honest, is true of the bytes that the disk gives. The disk is honest afterwards exactly if it
-- was before, and keeps its size.
pub record EndsOpening {D : Type 0} (model : Ghosts D) (disk : D)
    (result : Result (KeeperState D) (OpenFault × D)) : Type 0 where
  pub ready : IfOk result IsReady
  pub reason : model.honest disk → IfErr result (λ e. IsReason (model.seen disk) e.0)
  pub sized : IfErr result (λ e. (found : ℕ) → e.0 ≢ fault.Size found)
  pub honesty : model.honest (disk_after result) ↔ model.honest disk
  pub size : model.size (disk_after result) ≡ model.size disk

-- ---- a store in a file; `is_at` says of a file that it was found at the path, and is as it was found

-- A file was found at the path. If it is honest, this holds of the bytes that it had then.
pub record FoundThere {F : Type 0} (model : Ghosts (FileDisk F)) (is_at : F → Type 0)
    (P : List ℕ → Type 0) : Type 0 where
  pub disk : FileDisk F
  pub found : is_at (file_of disk)
  pub holds : model.honest disk → P (model.seen disk)

-- The keeper was opened in a file that was found at the path, from the bytes that it had then: it has the
-- state that they stand for, or that of a new store if they were unformatted and one was asked for.
abbrev pub OpensFile : {F : Type 0} → Ghosts (FileDisk F) → (F → Type 0) → Bool → KeeperState (FileDisk F)
    → Type 0
OpensFile model is_at format keeper = FoundThere model is_at (λ image. IsOpenedAs model image format keeper)

-- A store is reported as unformatted or damaged only if a file was found at the path, and was so. The other
-- faults say nothing of its bytes.
abbrev pub TellsFile : {F : Type 0} → Ghosts (FileDisk F) → (F → Type 0) → OpenFault → Type 0
TellsFile model is_at fault.Unformatted = FoundThere model is_at IsUnformatted
TellsFile model is_at (fault.Damaged offset) = FoundThere model is_at (λ image. IsDamagedAt image offset)
TellsFile model is_at other = Unit {0}

-- The fault says nothing of the bytes of a store.
abbrev pub IsNoStore : OpenFault → Type 0
IsNoStore fault.Unformatted = ⊥
IsNoStore (fault.Damaged offset) = ⊥
IsNoStore other = Unit {0}

-- A disk over the file of a store was found at the path, and has the size of a store. The fault `Size` is
-- reported only with a size that is not a store's.
pub record FindsStoreFile {F : Type 0} (size : FileDisk F → ℕ) (is_at : F → Type 0)
    (result : Result (FileDisk F) OpenFault) : Type 0 where
  pub found : IfOk result (λ disk. is_at (file_of disk))
  pub size_is : IfOk result (λ disk. size disk ≡ device_bytes)
  pub wrong : (found : ℕ) → IsErrOf result (fault.Size found) → found ≢ device_bytes
  pub no_store : IfErr result IsNoStore
