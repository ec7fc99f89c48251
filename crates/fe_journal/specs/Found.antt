-- What opening a store returns, and why it fails (`docs/store.md`, "Opening a store").
use Rattle.std.specs.Prelude.{◌≡◌, ◌≢◌, ◌⊎◌, ◌↔◌, ◌+◌, ◌≤◌, ℕ, List, None, Result, Ok, Err, IfOk, IfErr}
use Rattle.std.specs.Prelude.{IsErrAnd, IsErrOf}
use Rattle.fe_memory.specs.Memory.{out_of_memory}
use Rattle.fe_disk.specs.Disk.{Rises, MakesAtMost}
use Rattle.fe_disk.specs.declared.calls.Calls.{Calls}
use Rattle.fe_journal.specs.Layout.{area_of}
use Rattle.fe_journal.specs.Contents.{Contents, Holds, Lists, end_of_groups}
use Rattle.fe_journal.specs.Journal.{KeepsContents, OnlyReads}
use Rattle.fe_journal.specs.Damage.{IsUnformatted, TellsFound}
use Rattle.fe_journal.specs.declared.opening.Found.{Found}
use Rattle.fe_journal.specs.declared.opening.Unopened.{Unopened}
use Rattle.fe_journal.specs.declared.opening.Unopened.TheVariants.{Blank, Refused}
use Rattle.fe_journal.specs.declared.fault.StoreFault.{StoreFault}
use Rattle.fe_journal.specs.declared.fault.StoreFault.TheVariants.{Unformatted, Device, NoMemory}
use Rattle.fe_disk.specs.declared.disk.Disk.{Ghosts}

-- What was found are the contents of the image that reads of the disk give: a journal that keeps them, the
-- bytes of the state's image, and a cursor before the first group.
pub record IsFound {D : Type 0} (model : Ghosts D) (image : List ℕ) (found : Found D) : Type 0 where
  pub contents : Contents
  pub holds : Holds contents image
  pub keeps : KeepsContents model found.journal contents None
  pub image_is : found.image.items ≡ contents.image
  pub groups_are : Lists found.groups contents.groups
  pub start_is : found.groups.start ≡ area_of contents.slot
  pub from_the_first : found.groups.at ≡ 0

-- Over any disk: the groups in the journal area that was read, up to the gate where the journal goes on.
pub record AreListed {D : Type 0} (found : Found D) : Type 0 where
  pub groups : List (List ℕ)
  pub lists : Lists found.groups groups
  pub used_is : found.journal.used ≡ end_of_groups groups

-- Opening reads two headers, then the journal area, and then the state's image. It ended before the last of
-- these four reads.
abbrev pub ReadsInPart : Calls → Calls → Type 0
ReadsInPart before now = now.reads ≤ before.reads + 3

-- Why the store of an image is not opened: what the fault says of the image is true; an image that holds
-- contents is refused only if the device fails or memory runs out; and memory runs out only before all of it
-- was read.
pub record IsReason (image : List ℕ) (before now : Calls) (fault : StoreFault) : Type 0 where
  pub tells : TellsFound fault image
  pub valid : (c : Contents) → Holds c image → (fault ≡ Device) ⊎ (fault ≡ NoMemory out_of_memory)
  pub memory : fault ≡ NoMemory out_of_memory → ReadsInPart before now

-- What opening does to any disk: a sync and four reads at most. The fault is `device` exactly if a call of
-- the disk failed. No other result changes the count of faults.
pub record AsksToOpen {D T E : Type 0} (model : Ghosts D) (device : E) (result : Result T E)
    (old new : D) : Type 0 where
  pub fault : IsErrOf result device ↔ Rises (model.failures old) (model.failures new)
  pub still : (IsErrOf result device → ⊥) → model.failures new ≡ model.failures old
  pub most : MakesAtMost 4 0 1 (model.calls old) (model.calls new)
  pub honesty : model.honest new ↔ model.honest old
  pub same_size : model.size new ≡ model.size old

-- the disk that is left, opened or not
abbrev pub disk_after : {D : Type 0} → Result (Found D) (StoreFault × D) → D
disk_after (Ok found) = found.journal.disk
disk_after (Err refused) = refused.1

-- What opening says of an honest disk, which is only synced and read. What was found is what reads of it
-- give, and a refusal is true of that: a store that holds contents is refused only if the device fails or
-- memory runs out, and memory runs out only after a sound header, before all was read. An unformatted store
-- is reported as such unless the device fails, however little memory there is.
pub record FindsStore {D : Type 0} (model : Ghosts D) (disk : D)
    (result : Result (Found D) (StoreFault × D)) : Type 0 where
  pub found : IfOk result (IsFound model (model.seen disk))
  pub refused : IfErr result (λ e. IsReason (model.seen disk) (model.calls disk) (model.calls e.1) e.0)
  pub unformatted : IsUnformatted (model.seen disk)
      → IsErrAnd result (λ e. (e.0 ≡ Unformatted) ⊎ (e.0 ≡ Device))
  pub reads : OnlyReads model disk (disk_after result)

-- ---- what an opening says of an unformatted disk, whose fault each layer has in its own type

-- the fault, and the disk
abbrev pub refusal : {F D : Type 0} → F → Unopened F D → F × D
refusal unformatted (Blank disk) = (unformatted, disk)
refusal unformatted (Refused fault disk) = (fault, disk)

-- the result with the fault and the disk in place of what was not opened
abbrev pub told : {T F D : Type 0} → F → Result T (Unopened F D) → Result T (F × D)
told unformatted (Ok opened) = Ok opened
told unformatted (Err unopened) = Err (refusal unformatted unopened)

-- An unformatted disk is given as a blank one.
abbrev pub BlankIsTold : {F D : Type 0} → F → Unopened F D → Type 0
BlankIsTold unformatted (Blank disk) = Unit {0}
BlankIsTold unformatted (Refused fault disk) = fault ≢ unformatted
