-- Where the bytes are kept that a store had before it was formatted (`docs/store.md`, "The file").
use Rattle.std.specs.Prelude.{◌≡◌, ◌⊎◌, ℕ, List, []}
use Rattle.fe_disk.specs.Disk.{LeavesJust}
use Rattle.fe_disk.specs.declared.disk.Disk.{Ghosts}
use Rattle.fe_disk.specs.declared.file_disk.FileDisk.{FileDisk}
use Rattle.fe_state.specs.State.{ServerState}
use Rattle.fe_keeper.specs.Stands.{StandsFor}
use Rattle.fe_store.specs.Names.{kept_name}
use Rattle.fe_store.specs.Opening.{FoundThere}
use Rattle.fe_store.specs.Spare.{AreSpare}

-- There is a disk in a file that has these bytes, if it is honest, and a stop leaves just them.
pub record IsCopied {F : Type 0} (model : Ghosts (FileDisk F)) (bytes : List ℕ) : Type 0 where
  pub disk : FileDisk F
  pub has : model.honest disk → model.seen disk ≡ bytes
  pub leaves : model.honest disk → LeavesJust bytes (model.may_leave disk)

-- The bytes of a store at this path need not be kept; or a file was found that keeps them, or was made and
-- has them.
pub data IsKept {F : Type 0} (model : Ghosts (FileDisk F)) (is_at : List ℕ → F → Type 0)
    (path bytes : List ℕ) : Type 0 where
  Needless : AreSpare bytes [] → IsKept model is_at path bytes
  There : FoundThere model (is_at (kept_name path)) (AreSpare bytes) → IsKept model is_at path bytes
  Copied : IsCopied model bytes → IsKept model is_at path bytes

-- The store that had these bytes was opened with this state; or it was formatted, and what it had is kept.
abbrev pub LosesNone : {F : Type 0} → Ghosts (FileDisk F) → (List ℕ → F → Type 0) → List ℕ → List ℕ
    → ServerState → Type 0
LosesNone model is_at path bytes s = StandsFor bytes s ⊎ IsKept model is_at path bytes
