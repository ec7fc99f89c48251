-- What opening a store returns: a keeper, whose replica is the state that the store stands for
-- (`docs/model.md`, "The keeper").
use Rattle.std.specs.Prelude.{◌≡◌, ◌⊎◌, ℕ, ◌≤◌, List, [], ◌∷◌, None, false, Result, Ok, Err}
use Rattle.fe_memory.specs.Memory.{out_of_memory}
use Rattle.fe_state.specs.State.{ServerState}
use Rattle.fe_codec.specs.Image.{image_spelling, FitsImage}
use Rattle.fe_format.specs.declared.format.Format.{Format}
use Rattle.fe_journal.specs.Contents.{Contents, Holds, end_of_groups, Cursor, Lists}
use Rattle.fe_journal.specs.Journal.{JournalState, KeepsContents}
use Rattle.fe_replica.specs.Replaying.{Replays}
use Rattle.fe_keeper.specs.Stands.{Stands, StandsFor, EachStandsFor, greatest_generation}
use Rattle.fe_keeper.specs.Keeper.{KeeperState, StoreState}
use Rattle.fe_keeper.specs.declared.fault.Fault.{Fault}
use Rattle.fe_keeper.specs.declared.fault.Fault.TheVariants.{Device, NoMemory, Damaged, Unformatted}
use Rattle.fe_disk.specs.declared.disk.Disk.{Ghosts}

-- the disk that is left, opened or not
abbrev pub disk_after : {D : Type 0} → Result (KeeperState D) (Fault × D) → D
disk_after (Ok keeper) = keeper.store.disk
disk_after (Err refused) = refused.1

-- the faults of reading the state of a slot
abbrev pub IsSlotFault : Fault → Type 0
IsSlotFault fault = (fault ≡ NoMemory out_of_memory) ⊎ ((offset : ℕ) × (fault ≡ Damaged offset))

-- the faults of opening
abbrev pub IsOpenFault : Fault → Type 0
IsOpenFault fault = (fault ≡ Device) ⊎ ((fault ≡ NoMemory out_of_memory)
    ⊎ ((fault ≡ Unformatted) ⊎ ((offset : ℕ) × (fault ≡ Damaged offset))))

-- the keeper of a state over a journal that has no slot begun
abbrev pub keeper_over : {D : Type 0} → JournalState D → ServerState → KeeperState D
keeper_over journal state =
    record {
      state = state;
      store = record {
        disk = journal.disk;
        place = state.place;
        format = journal.format;
        used = journal.used;
        checkpoint = None;
        has_failed = false;
      };
    }

-- Each image that a stop may leave holds contents that the journal knows, and these stand for the state.
pub record KeepsState {D : Type 0} (model : Ghosts D) (journal : JournalState D)
    (state : ServerState) : Type 0 where
  pub contents : Contents
  pub keeps : KeepsContents model journal contents None
  pub stands : Stands contents state

-- The store of the slot that counts in the image: its format, and how many bytes its open groups take.
pub record IsStoreIn {D : Type 0} (image : List ℕ) (store : StoreState D) : Type 0 where
  pub contents : Contents
  pub holds : Holds contents image
  pub format_is : store.format ≡ contents.format
  pub used_is : store.used ≡ end_of_groups contents.groups

-- The image stands for the keeper's state, and so does each image that a stop may leave. The store is that of
-- the slot that counts in the image.
pub record IsOpenedFrom {D : Type 0} (model : Ghosts D) (image : List ℕ)
    (keeper : KeeperState D) : Type 0 where
  pub state : StandsFor image keeper.state
  pub durable : EachStandsFor model keeper.store.disk keeper.state
  pub store : IsStoreIn image keeper.store

-- The device works, and no checkpoint is under way.
pub record IsReady {D : Type 0} (keeper : KeeperState D) : Type 0 where
  pub works : keeper.store.has_failed ≡ false
  pub none_under_way : keeper.store.checkpoint ≡ None

-- ---- what a slot holds, whatever disk it was read from

-- the cursor is before a group, or after the last one
abbrev pub IsListing : Cursor → Type 0
IsListing cursor = (payloads : List (List ℕ)) × Lists cursor payloads

-- the image is that of the state, and its slot may have this generation
pub record IsBase (format : Format) (generation : ℕ) (image : List ℕ) (base : ServerState) : Type 0 where
  pub fits : FitsImage format base
  pub image_is : image ≡ image_spelling format base
  pub numbered : generation ≤ greatest_generation format base.place

-- the payloads lead from the old state to the new, one after the other
abbrev pub ReplaysAll : Format → List (List ℕ) → ServerState → ServerState → Type 0
ReplaysAll format [] old new = new ≡ old
ReplaysAll format (payload ∷ payloads) old new =
    (mid : ServerState) × Replays format payload old mid × ReplaysAll format payloads mid new

-- the image is that of a state from which the payloads lead to `state`
pub record IsRecovered (format : Format) (generation : ℕ) (image : List ℕ) (payloads : List (List ℕ))
    (state : ServerState) : Type 0 where
  pub base : ServerState
  pub is_base : IsBase format generation image base
  pub replays : ReplaysAll format payloads base state

-- what was read of a slot is the format, the generation, the image and the groups of these contents
pub record ArePartsOf (c : Contents) (format : Format) (generation : ℕ) (image : List ℕ)
    (groups : Cursor) : Type 0 where
  pub format_is : format ≡ c.format
  pub generation_is : generation ≡ c.generation
  pub image_is : image ≡ c.image
  pub groups_are : Lists groups c.groups
