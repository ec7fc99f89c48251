-- What came of serving the store in a file; `is_at` says of a file that it was found at the path, and is as
-- it was found (`docs/store.md`, "The file").
use Rattle.std.specs.Prelude.{◌≡◌, ◌≢◌, ℕ, Bool, false, Result}
use Rattle.fe_disk.specs.declared.disk.Disk.{Ghosts}
use Rattle.fe_disk.specs.declared.file_disk.FileDisk.{FileDisk}
use Rattle.fe_journal.specs.Layout.{device_bytes}
use Rattle.fe_keeper.specs.Keeper.{KeeperState}
use Rattle.fe_store.specs.Opening.{OpensFile, TellsFile}
use Rattle.fe_store.specs.declared.fault.OpenFault.{OpenFault}
use Rattle.fe_store.specs.declared.fault.OpenFault.TheVariants as store
use Rattle.fe_server.specs.Acknowledged.{WasServed}
use Rattle.fe_server.specs.declared.failed.Failed.{Failed}
use Rattle.fe_server.specs.declared.serve_fault.ServeFault.{ServeFault}
use Rattle.fe_server.specs.declared.serve_fault.ServeFault.TheVariants as serve
use Rattle.fe_server.specs.declared.served.Served.{Served}

-- The keeper that was opened in a file at the path is the one that was served.
pub record ServesFile {F : Type 0} (model : Ghosts (FileDisk F)) (is_at : F → Type 0) (format : Bool)
    (answer : Result (Served (FileDisk F)) (Failed (FileDisk F))) : Type 0 where
  pub opened : KeeperState (FileDisk F)
  pub opens : OpensFile model is_at format opened
  pub served : WasServed model opened answer

-- The store at the path was not opened for this reason. What is said of the file's bytes is true of those
-- that it had (`TellsFile`), the size is not that of a store, and an unformatted file is a reason only if
-- none was to be formatted.
pub record IsUnopened {F : Type 0} (model : Ghosts (FileDisk F)) (is_at : F → Type 0) (format : Bool)
    (why : OpenFault) : Type 0 where
  pub tells : TellsFile model is_at why
  pub wrong_size : (found : ℕ) → why ≡ store.Size found → found ≢ device_bytes
  pub unformatted : why ≡ store.Unformatted → format ≡ false

-- Nothing was served for this reason: the store was not opened; or the socket could not be made, and the
-- keeper is as it was opened.
abbrev pub IsUnserved : {F : Type 0} → Ghosts (FileDisk F) → (F → Type 0) → Bool → ServeFault (FileDisk F)
    → Type 0
IsUnserved model is_at format (serve.Store why) = IsUnopened model is_at format why
IsUnserved model is_at format (serve.Socket keeper) = OpensFile model is_at format keeper
