use Rattle.std.proofs.Common.{ℕ, Bool, List, Result, Ok, Err, IfOk, IfErr}
use Rattle.fe_disk.specs.FileDisk.{file_of}
use Rattle.fe_disk.specs.declared.disk.Disk.{Ghosts}
use Rattle.fe_disk.specs.declared.file_disk.FileDisk.{FileDisk}
use Rattle.fe_keeper.specs.Keeper.{KeeperState}
use Rattle.fe_store.specs.declared.fault.OpenFault.{OpenFault}
use Rattle.fe_store.specs.declared.fault.OpenFault.TheVariants as fault
use Rattle.fe_store.specs.Kept.{LosesNone}
use Rattle.fe_store.specs.Opening.{FoundThere, IsOpenedAs, OpensFile, TellsFile, TellsImage}
use Rattle.fe_store.proofs.file.open_at.Goals as goal

-- a keeper that was opened over the disk that was found
opens : {F : Type 0} (model : Ghosts (FileDisk F)) (is_at : F → Type 0) (format : Bool) (disk : FileDisk F) (result : Result (KeeperState (FileDisk F)) OpenFault)
    → is_at (file_of disk) → (model.honest disk → IfOk result (IsOpenedAs model (model.seen disk) format)) → IfOk result (OpensFile model is_at format)
opens model is_at format disk (Ok keeper) found holds = record { disk = disk; found = found; holds = holds }
opens model is_at format disk (Err why) found holds = tt

-- a fault that speaks of the bytes of the disk that was found
tells : {F : Type 0} (model : Ghosts (FileDisk F)) (is_at : F → Type 0) (disk : FileDisk F) (result : Result (KeeperState (FileDisk F)) OpenFault)
    → is_at (file_of disk) → (model.honest disk → IfErr result (λ why. TellsImage why (model.seen disk))) → IfErr result (TellsFile model is_at)
tells model is_at disk (Ok keeper) found holds = tt
tells model is_at disk (Err fault.Unformatted) found holds = record { disk = disk; found = found; holds = holds }
tells model is_at disk (Err (fault.Damaged offset)) found holds = record { disk = disk; found = found; holds = holds }
tells model is_at disk (Err (fault.Size size)) found holds = tt
tells model is_at disk (Err fault.Device) found holds = tt
tells model is_at disk (Err (fault.Memory error)) found holds = tt

-- what the disk that was found had is kept
keeps : {F : Type 0} (model : Ghosts (FileDisk F)) (is_at : List ℕ → F → Type 0) (path : List ℕ) (disk : FileDisk F) (result : Result (KeeperState (FileDisk F)) OpenFault)
    → is_at path (file_of disk) → (model.honest disk → IfOk result (λ keeper. LosesNone model is_at path (model.seen disk) keeper.state))
    → IfOk result (λ keeper. FoundThere model (is_at path) (λ image. LosesNone model is_at path image keeper.state))
keeps model is_at path disk (Ok keeper) found holds = record { disk = disk; found = found; holds = holds }
keeps model is_at path disk (Err why) found holds = tt

pub returns-clause-kept : goal.returns-clause-kept
returns-clause-kept g c = keeps _ g.F.StoreFile.is_at c.args.place.now.path.now c.in_ok-disk.disk c.open_found.result c.in_ok-disk.ensures.found c.open_found.ensures.kept

pub returns-clause-opened : goal.returns-clause-opened
returns-clause-opened g c = opens _ _ _ c.in_ok-disk.disk c.open_found.result c.in_ok-disk.ensures.found c.open_found.ensures.opened

pub returns-clause-tells : goal.returns-clause-tells
returns-clause-tells g c = tells _ _ c.in_ok-disk.disk c.open_found.result c.in_ok-disk.ensures.found c.open_found.ensures.tells
