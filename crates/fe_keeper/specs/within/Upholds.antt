-- How a keeper's store, its bytes side, stands to a state and to the images that its disk may leave. It
-- upholds a state if these images stand for it (`docs/model.md`, "The keeper").
use Rattle.std.specs.Prelude.{◌≡◌, ℕ, ◌+◌, ◌*◌, ◌≤◌, List, ◌++◌, length, Option, Some, None, vec_len}
use Rattle.std.specs.Prelude.{vec_capacity, ◌⊎◌, ◌-◌, take, false}
use Rattle.fe_state.specs.declared.entry.Entry.{Entry}
use Rattle.std.specs.List.{AllByRecursion}
use Rattle.fe_state.specs.Limits.{most_batch_entries, greatest_place}
use Rattle.fe_codec.specs.Record.{CanPut, group_spelling, FitsGroup}
use Rattle.fe_format.specs.Layout.{record_bytes, group_records, longest_payload, IsImageLength}
use Rattle.fe_format.specs.declared.format.Format.{Format}
use Rattle.fe_format.specs.declared.format.Format.TheVariants.{Two}
use Rattle.fe_keeper.specs.declared.checkpoint.Checkpoint.{Checkpoint}
use Rattle.fe_state.specs.State.{ServerState, after_all}
use Rattle.fe_state.specs.History.{AreLegal}
use Rattle.fe_codec.specs.Image.{image_spelling, FitsImage}
use Rattle.fe_journal.specs.Contents.{Contents}
use Rattle.fe_journal.specs.Journal.{JournalState, Draft, KeepsContents}
use Rattle.std.specs.Option.{option_map}
use Rattle.fe_keeper.specs.Keeper.{Progress, StoreState, KeeperState, slice_size}
use Rattle.fe_keeper.specs.Stands.{Stands}
use Rattle.fe_keeper.specs.declared.keeper_store.KeeperStore.{KeeperStore}
use Rattle.fe_disk.specs.declared.disk.Disk.{Ghosts}
use Rattle.fe_state.specs.UndoLog.{empty_log}
use Rattle.fe_keeper.specs.declared.assembling.Rooms.{Rooms}
use Rattle.fe_keeper.specs.declared.keeper.Keeper.TheInside.{Inside}

-- how many bytes the longest batch has as the payload of a group of format 2
abbrev pub batch_bytes : ℕ
batch_bytes = most_batch_entries * record_bytes Two

-- The bytes spell the entries of a batch, which have records in format 2 too.
pub record IsSpelledBatch (format : Format) (group : List ℕ) (entries : List Entry) : Type 0 where
  pub spelled : group ≡ group_spelling format entries
  pub fits : FitsGroup format entries
  pub each : AllByRecursion (CanPut Two) entries
  pub few : length entries ≤ most_batch_entries

-- the checkpoint under way, if there is one, has room for the records of n more entries
abbrev pub HasRoomFor : Option Checkpoint → ℕ → Type 0
HasRoomFor None n = Unit {0}
HasRoomFor (Some c) n = vec_len c.catch_up + n * record_bytes Two ≤ vec_capacity c.catch_up

-- the same checkpoint, with the records of more entries after those that it catches up with
pub record HasMoreToCatchUp (entries : List Entry) (old new : Checkpoint) : Type 0 where
  pub image : new.image ≡ old.image
  pub written : new.written ≡ old.written
  pub place : new.place ≡ old.place
  pub records : new.catch_up.items ≡ old.catch_up.items ++ group_spelling Two entries
  pub count : vec_len new.catch_up ≡ vec_len old.catch_up + length entries * record_bytes Two
  pub room : vec_capacity old.catch_up ≤ vec_capacity new.catch_up
  pub fits : FitsGroup Two entries

-- a checkpoint under way, if there is one, catches up with more entries
abbrev pub CatchesUp : List Entry → Option Checkpoint → Option Checkpoint → Type 0
CatchesUp entries None None = Unit {0}
CatchesUp entries None (Some c) = ⊥
CatchesUp entries (Some c) None = ⊥
CatchesUp entries (Some old) (Some new) = HasMoreToCatchUp entries old new

-- ---- over any disk

-- An image of the state now may have the next generation, unless the slot that counts is of format 2 and
-- nothing came since its image.
abbrev pub IsNumbered : {D : Type 0} → ℕ → JournalState D → Type 0
IsNumbered place j =
    (j.generation ≤ place + 1) ⊎ ((j.generation ≤ place + 2) × (j.used ≡ 0) × (j.format ≡ Two))

-- a checkpoint is under way: the journal's slot begun is its image's, and its catch-up has what came since
pub record IsUnderWay {D : Type 0} (place : ℕ) (j : JournalState D) (c : Checkpoint) : Type 0 where
  pub begun : j.begun ≡ Some (record {
    format = Two;
    generation = j.generation + 1;
    image_length = vec_len c.image;
    written = c.written;
  })
  pub allowed : IsImageLength Two (vec_len c.image)
  pub written : c.written ≤ vec_len c.image
  pub numbered : j.generation + 1 ≤ c.place + 2
  pub earlier : c.place ≤ place
  pub caught_up : vec_len c.catch_up ≡ (place - c.place) * record_bytes Two
  pub few : place - c.place ≤ group_records Two
  pub room : longest_payload Two ≤ vec_capacity c.catch_up

-- a checkpoint is under way exactly if the journal has a slot begun
abbrev pub IsCheckpoint : {D : Type 0} → ℕ → JournalState D → Option Checkpoint → Type 0
IsCheckpoint place j None = j.begun ≡ None
IsCheckpoint place j (Some c) = IsUnderWay place j c

-- the invariant of the store
pub record IsStore {D : Type 0} (store : KeeperStore D) : Type 0 where
  pub place : store.place ≤ greatest_place
  pub numbered : IsNumbered store.place store.journal
  pub group : batch_bytes ≤ vec_capacity store.group
  pub checkpoint : IsCheckpoint store.place store.journal store.checkpoint

-- how the fields of the store give what a keeper's callers see
abbrev pub progress_of : Checkpoint → Progress
progress_of c = record { size = vec_len c.image; written = c.written; place = c.place }

abbrev pub store_of : {D : Type 0} → KeeperStore D → StoreState D
store_of store =
    record {
      disk = store.journal.disk;
      place = store.place;
      format = store.journal.format;
      used = store.journal.used;
      checkpoint = option_map progress_of store.checkpoint;
      has_failed = store.journal.has_failed;
    }

-- ---- over an honest disk

-- A checkpoint's image is that of an earlier state, written so far as the draft says, and the catch-up spells
-- what came since.
pub record IsDraftOf (c : Checkpoint) (d : Draft) (s : ServerState) : Type 0 where
  pub base : ServerState
  pub entries : List Entry
  pub fits : FitsImage Two base
  pub image_is : c.image.items ≡ image_spelling Two base
  pub written_is : d.bytes ≡ take c.written c.image.items
  pub place_is : c.place ≡ base.place
  pub caught_up : c.catch_up.items ≡ group_spelling Two entries
  pub group : FitsGroup Two entries
  pub legal : AreLegal base entries
  pub state_is : s ≡ after_all base entries

abbrev pub IsDrafted : Option Checkpoint → Option Draft → ServerState → Type 0
IsDrafted None None s = Unit {0}
IsDrafted None (Some d) s = ⊥
IsDrafted (Some c) None s = ⊥
IsDrafted (Some c) (Some d) s = IsDraftOf c d s

-- The journal keeps contents that stand for the state, and a checkpoint under way leads to it too.
pub record Upholds {D : Type 0} (model : Ghosts D) (store : KeeperStore D) (s : ServerState) : Type 0 where
  pub contents : Contents
  pub draft : Option Draft
  pub keeps : KeepsContents model store.journal contents draft
  pub stands : Stands contents s
  pub drafted : IsDrafted store.checkpoint draft s

-- There is room for the payload of the longest batch's group, and for its entries in an empty log.
pub record AreRooms (rooms : Rooms) : Type 0 where
  pub group : batch_bytes ≤ vec_capacity rooms.group
  pub log : rooms.log ≡ empty_log most_batch_entries

abbrev pub kept_of : {D : Type 0} → Inside D → KeeperState D
kept_of k = record { state = k.state; store = store_of k.store }

-- The store and the state agree on the place, and the log is empty and has room for a batch. Over an honest
-- disk that has not failed, the store upholds the state.
pub record IsKept {D : Type 0} (model : Ghosts D) (k : Inside D) : Type 0 where
  pub store : IsStore k.store
  pub place : k.store.place ≡ k.state.place
  pub log : k.log ≡ empty_log k.log.room
  pub room : most_batch_entries ≤ k.log.room
  pub upheld : model.honest k.store.journal.disk → k.store.journal.has_failed ≡ false
      → Upholds model k.store k.state

-- ---- slices of an image

-- the slot that the journal began is the checkpoint's, and is written as far
abbrev pub IsBegunFor : {D : Type 0} → JournalState D → Checkpoint → Type 0
IsBegunFor j c = j.begun ≡ Some (record {
  format = Two;
  generation = j.generation + 1;
  image_length = vec_len c.image;
  written = c.written;
})

-- the checkpoint once one slice more is written
abbrev pub sliced : Checkpoint → Checkpoint
sliced c = record c { written = c.written + slice_size (progress_of c) }

-- the journal, with this disk, once that slice is written; `c` is the checkpoint after it
abbrev pub journal_sliced : {D : Type 0} → JournalState D → D → Checkpoint → JournalState D
journal_sliced j disk c =
    record j {
      disk = disk;
      begun = Some (record {
        format = Two;
        generation = j.generation + 1;
        image_length = vec_len c.image;
        written = c.written;
      });
    }

-- The journal keeps these contents and a draft. The draft is that of the checkpoint, whose image and catch-up
-- lead to the state.
pub record KeepsDraft {D : Type 0} (model : Ghosts D) (j : JournalState D) (contents : Contents)
    (c : Checkpoint) (s : ServerState) : Type 0 where
  pub draft : Draft
  pub keeps : KeepsContents model j contents (Some draft)
  pub is_draft : IsDraftOf c draft s
