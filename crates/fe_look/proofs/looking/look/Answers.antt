use Rattle.std.proofs.Common.{ℕ, List, Option, Result, Ok, Err}
use Rattle.std.specs.Prelude.{OnOk}
use Rattle.fe_disk.specs.FileDisk.{file_of}
use Rattle.fe_disk.specs.declared.disk.Disk.{Ghosts}
use Rattle.fe_disk.specs.declared.file_disk.FileDisk.{FileDisk}
use Rattle.fe_store.specs.declared.fault.OpenFault.{OpenFault}
use Rattle.fe_store.specs.declared.fault.OpenFault.TheVariants as store
use Rattle.fe_store.specs.Opening.{FoundThere, TellsFile, TellsImage}
use Rattle.fe_look.specs.Look.{Shows}
use Rattle.fe_look.specs.declared.fault.LookFault.{LookFault}
use Rattle.fe_look.proofs.LookLemmas.{shows_nothing}
use Rattle.fe_look.proofs.looking.look.Goals as goal

-- the text of what was found
shows_found : {F : Type 0} (model : Ghosts (FileDisk F)) (is_at : F → Type 0) (disk : FileDisk F) (before after : Option (List ℕ)) (result : Result (Unit {0}) LookFault)
    → is_at (file_of disk) → (model.honest disk → OnOk result (Shows (model.seen disk) before after))
    → OnOk result (FoundThere model is_at (λ image. Shows image before after))
shows_found model is_at disk before after (Ok done) found holds = record { disk = disk; found = found; holds = holds }
shows_found model is_at disk before after (Err why) found holds = tt

-- a fault that speaks of the bytes of the disk that was found
tells_found : {F : Type 0} (model : Ghosts (FileDisk F)) (is_at : F → Type 0) (disk : FileDisk F) (why : OpenFault)
    → is_at (file_of disk) → (model.honest disk → TellsImage why (model.seen disk)) → TellsFile model is_at why
tells_found model is_at disk store.Unformatted found holds = record { disk = disk; found = found; holds = holds }
tells_found model is_at disk (store.Damaged offset) found holds = record { disk = disk; found = found; holds = holds }
tells_found model is_at disk (store.Size size) found holds = tt
tells_found model is_at disk store.Device found holds = tt
tells_found model is_at disk (store.Memory error) found holds = tt

pub returns-in_err-disk-clause-front : goal.returns-in_err-disk-clause-front
returns-in_err-disk-clause-front g c = shows_nothing (g.W.Sink.contents c.args.writer.now)

pub returns-clause-shows : goal.returns-clause-shows
returns-clause-shows g c = shows_found _ _ c.in_ok-disk.disk _ _ c.look_copy.result c.in_ok-disk.ensures.found c.look_copy.ensures.shows

pub returns-clause-tells : goal.returns-clause-tells
returns-clause-tells g c = λ why is. tells_found _ _ c.in_ok-disk.disk why c.in_ok-disk.ensures.found (λ honest. (c.look_copy.ensures.refused honest why is).tells)
