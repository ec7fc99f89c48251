-- What was found of a store, and recovered of it.
use Rattle.std.proofs.Common.{◌≡◌, ◌∙◌, ℕ, List, Result, Ok, Err, sym, subst}
use Rattle.std.specs.Prelude.{IfOk, IfErr}
use Rattle.fe_memory.specs.Memory.{out_of_memory}
use Rattle.fe_disk.specs.Runs.{without_disk}
use Rattle.fe_state.specs.State.{ServerState}
use Rattle.fe_format.specs.declared.format.Format.{Format}
use Rattle.fe_journal.specs.Contents.{Contents, Holds, Cursor, Lists}
use Rattle.fe_journal.specs.Found.{IsFound, AsksToOpen}
use Rattle.fe_journal.specs.declared.fault.StoreFault.TheVariants as store
use Rattle.fe_journal.proofs.Founds.{opens_as}
use Rattle.fe_journal.specs.Journal.{JournalState}
use Rattle.fe_journal.specs.declared.opening.Found.{Found}
use Rattle.fe_journal.proofs.Contents.{one_contents}
use Rattle.fe_keeper.specs.Stands.{Stands, StandsFor, EachStandsFor}
use Rattle.fe_keeper.specs.Keeper.{KeeperState}
use Rattle.fe_keeper.specs.Opened.{IsRecovered, ArePartsOf, KeepsState, disk_after, keeper_over}
use Rattle.fe_keeper.specs.declared.fault.Fault.{Fault}
use Rattle.fe_keeper.specs.declared.fault.Fault.TheVariants.{Device, NoMemory}
use Rattle.fe_keeper.proofs.Going.{recovered_stands}
use Rattle.fe_disk.specs.declared.disk.Disk.{Ghosts}

recovered_as : (c : Contents) (format : Format) (generation : ℕ) (image : List ℕ) (payloads : List (List ℕ)) (s : ServerState) → format ≡ c.format → generation ≡ c.generation → image ≡ c.image → IsRecovered format generation image payloads s → IsRecovered c.format c.generation c.image payloads s
recovered_as c format generation image payloads s f g i h =
    subst (λ (x : List ℕ). IsRecovered c.format c.generation x payloads s) i
    (subst (λ (x : ℕ). IsRecovered c.format x image payloads s) g (subst (λ (x : Format). IsRecovered x generation image payloads s) f h))

-- the same parts of a journal's slot
pub recovered_in : {D : Type 0} (j : JournalState D) (format : Format) (generation : ℕ) (image : List ℕ) (payloads : List (List ℕ)) (s : ServerState) → format ≡ j.format → generation ≡ j.generation → IsRecovered format generation image payloads s → IsRecovered j.format j.generation image payloads s
recovered_in j format generation image payloads s f g h =
    subst (λ (x : ℕ). IsRecovered j.format x image payloads s) g (subst (λ (x : Format). IsRecovered x generation image payloads s) f h)

-- contents of an image, of which these are parts, stand for what is recovered of the parts
pub stands_there : (c : Contents) (seen : List ℕ) (format : Format) (generation : ℕ) (image : List ℕ) (groups : Cursor) (s : ServerState) → Holds c seen → ArePartsOf c format generation image groups → IsRecovered format generation image c.groups s → Stands c s
stands_there c seen format generation image groups s holds parts h =
    recovered_stands c seen s holds (recovered_as c format generation image c.groups s parts.format_is parts.generation_is parts.image_is h)

-- an image that stands for a state does so by the contents that it holds
pub stands_by : (c : Contents) (seen : List ℕ) (s : ServerState) → Holds c seen → StandsFor seen s → Stands c s
stands_by c seen s holds stands = subst (λ (d : Contents). Stands d s) (sym (one_contents c stands.contents seen holds stands.holds)) stands.stands

-- what is read of a store that was found are parts of its contents, which stand for what is recovered of them
module _ {D : Type 0} (model : Ghosts D) (image : List ℕ) (found : Found D) (is : IsFound model image found) (format : Format) (generation : ℕ) (bytes : List ℕ)
    (format_is : format ≡ found.journal.format) (generation_is : generation ≡ found.journal.generation) (bytes_are : bytes ≡ found.image.items) where
  pub parts_found : ArePartsOf is.contents format generation bytes found.groups
  parts_found = record { format_is = format_is ∙ is.keeps.format_is; generation_is = generation_is ∙ is.keeps.generation_is; image_is = bytes_are ∙ is.image_is; groups_are = is.groups_are }

  pub stands_found : (s : ServerState) → ((payloads : List (List ℕ)) → Lists found.groups payloads → IsRecovered format generation bytes payloads s) → Stands is.contents s
  stands_found s recovered = stands_there is.contents image format generation bytes found.groups s is.holds parts_found (recovered is.contents.groups is.groups_are)

-- each image that is left stands for the state that is kept
pub each_stands : {D : Type 0} (model : Ghosts D) (j : JournalState D) (s : ServerState) → KeepsState model j s → EachStandsFor model j.disk s
each_stands model j s keeps = λ image left. record { contents = keeps.contents; holds = (keeps.keeps.left image left).holds; stands = keeps.stands }

-- what opening did to the disk, where the keeper of what was found is made or memory runs out
pub opens_keeper : {D T : Type 0} (model : Ghosts D) (found : T) (disk : D) (j : JournalState D) (s : ServerState) (result : Result (KeeperState D) (Fault × D))
    → AsksToOpen model store.Device (Ok found) disk j.disk → IfOk result (λ keeper. keeper ≡ keeper_over j s) → IfErr result (λ e. (e.0 ≡ NoMemory out_of_memory) × (e.1 ≡ j.disk))
    → AsksToOpen model Device (without_disk result) disk (disk_after result)
opens_keeper {D} {T} model found disk j s (Ok keeper) asks made refused =
    let result : Result (KeeperState D) Fault = Ok keeper in
    subst (λ (k : KeeperState D). AsksToOpen model Device result disk k.store.disk) (sym made)
    (opens_as model store.Device Device (Ok found) result disk j.disk asks (λ is. cc) (λ is. cc))
opens_keeper {D} {T} model found disk j s (Err e) asks made refused =
    let result : Result (KeeperState D) Fault = Err e.0 in
    let none = refused.0 in
    subst (λ (d : D). AsksToOpen model Device result disk d) (sym refused.1)
    (opens_as model store.Device Device (Ok found) result disk j.disk asks (λ is. cc) (λ is. cc))
