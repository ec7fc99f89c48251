-- How a call of a store, the bytes side of a keeper, ends, and what it keeps (`docs/model.md`, "The keeper").
use Rattle.std.specs.Prelude.{◌≡◌, ℕ, ◌≤◌, [], Option, IfSome, vec_len, vec_capacity, ◌+◌, false, IsTrue}
use Rattle.std.specs.Prelude.{IsSome, is_some, List, length, ◌↔◌, Bool, true, Result, MatchResult, OnOk}
use Rattle.std.specs.Option.{option_map_or}
use Rattle.fe_state.specs.State.{ServerState, after_all}
use Rattle.fe_codec.specs.Image.{image_spelling, FitsImage}
use Rattle.fe_format.specs.Layout.{longest_payload, IsImageLength}
use Rattle.fe_format.specs.declared.format.Format.TheVariants.{Two}
use Rattle.fe_keeper.specs.Keeper.{slices_of, can_begin, must_begin, StoreState, fits, has_slices}
use Rattle.fe_keeper.specs.Keeper.{slices_left, stepped}
use Rattle.fe_keeper.specs.declared.checkpoint.Checkpoint.{Checkpoint}
use Rattle.std.specs.List.{AllByRecursion}
use Rattle.fe_state.specs.Limits.{most_batch_entries, greatest_place}
use Rattle.fe_state.specs.declared.entry.Entry.{Entry}
use Rattle.fe_codec.specs.Record.{CanPut}
use Rattle.fe_journal.specs.Journal.{JournalState}
use Rattle.fe_keeper.specs.within.Upholds.{IsBegunFor, KeepsDraft, IsStore, store_of, Upholds}
use Rattle.fe_keeper.specs.declared.keeper_store.KeeperStore.{KeeperStore}
use Rattle.fe_state.specs.History.{AreLegal}
use Rattle.fe_state.specs.UndoLog.{UndoLog, rewound, IsLogOf}
use Rattle.fe_disk.specs.Disk.{Rises, MakesAtMost}
use Rattle.fe_disk.specs.Runs.{LeavesOnly}
use Rattle.fe_disk.specs.declared.calls.Calls.{Calls}
use Rattle.fe_journal.specs.Contents.{Contents, Holds}
use Rattle.fe_journal.specs.declared.fault.JournalFault.{JournalFault}
use Rattle.fe_journal.specs.declared.fault.JournalFault.TheVariants.{Device}
use Rattle.fe_keeper.specs.Stands.{StandsFor, StandsForEither}
use Rattle.fe_disk.specs.declared.disk.Disk.{Ghosts}

-- Nothing of its image is written, nothing came since this place, and it has room for the longest group.
pub record IsFresh (c : Checkpoint) (place : ℕ) : Type 0 where
  pub allowed : IsImageLength Two (vec_len c.image)
  pub written : c.written ≡ 0
  pub place_is : c.place ≡ place
  pub empty : c.catch_up.items ≡ []
  pub room : longest_payload Two ≤ vec_capacity c.catch_up

-- its image is that of the state
pub record IsImageOf (c : Checkpoint) (s : ServerState) : Type 0 where
  pub fits : FitsImage Two s
  pub image_is : c.image.items ≡ image_spelling Two s
  pub place_is : c.place ≡ s.place

-- the checkpoint's image, if there is one, is that of the state
abbrev pub IsImageIfSome : Option Checkpoint → ServerState → Type 0
IsImageIfSome whole s = IfSome whole (λ made. IsImageOf made s)

-- how many slices the image of a checkpoint takes, if there is one
abbrev pub whole_slices : Option Checkpoint → ℕ
whole_slices whole = option_map_or (λ made. slices_of (vec_len made.image)) whole 0

-- ---- what calls require

-- The slot begun in the journal is the checkpoint's, and the device works.
pub record CanWrite {D : Type 0} (journal : JournalState D) (c : Checkpoint) : Type 0 where
  pub begun : IsBegunFor journal c
  pub within : c.written ≤ vec_len c.image
  pub works : journal.has_failed ≡ false

-- A checkpoint is under way, and the device works.
pub record HasCheckpoint {D : Type 0} (store : KeeperStore D) : Type 0 where
  pub sound : IsStore store
  pub works : store.journal.has_failed ≡ false
  pub under_way : IsSome store.checkpoint

-- A checkpoint can be begun, this one has the memory for it, and the device works.
pub record CanTake {D : Type 0} (store : KeeperStore D) (c : Checkpoint) : Type 0 where
  pub sound : IsStore store
  pub works : store.journal.has_failed ≡ false
  pub can : IsTrue (can_begin (store_of store))
  pub fresh : IsFresh c store.place

-- The entries are a batch for the store, and the device works.
pub record CanStore {D : Type 0} (store : KeeperStore D) (entries : List Entry) : Type 0 where
  pub sound : IsStore store
  pub works : store.journal.has_failed ≡ false
  pub some : 1 ≤ length entries
  pub few : length entries ≤ most_batch_entries
  pub each : AllByRecursion (CanPut Two) entries
  pub place : store.place + length entries ≤ greatest_place

-- There is a whole checkpoint for the batch exactly if the batch needs one.
pub record IsWholeFor {D : Type 0} (store : KeeperStore D) (entries : List Entry)
    (whole : Option Checkpoint) : Type 0 where
  pub must : is_some whole ≡ must_begin (store_of store) entries
  pub fresh : IfSome whole (λ made. IsFresh made store.place)

-- The entries are a batch for the store, with a whole checkpoint exactly if the batch needs one.
pub record CanStoreWith {D : Type 0} (store : KeeperStore D) (entries : List Entry)
    (whole : Option Checkpoint) : Type 0 where
  pub batch : CanStore store entries
  pub made : IsWholeFor store entries whole

-- ---- a batch that is not stored yet

-- Entries were taken from a state: they lead to the state now, and the log leads back.
pub record HasTaken (before : ServerState) (entries : List Entry) (now : ServerState)
    (log : UndoLog) : Type 0 where
  pub some : 1 ≤ length entries
  pub legal : AreLegal before entries
  pub state_is : now ≡ after_all before entries
  pub is_log : IsLogOf log now
  pub beginning : rewound log now ≡ before
  pub room : length entries ≤ log.room

-- A batch was taken from the state at whose place the store is.
pub record HasBatch {D : Type 0} (store : KeeperStore D) (now : ServerState) (log : UndoLog)
    (entries : List Entry) : Type 0 where
  pub sound : IsStore store
  pub few : length entries ≤ most_batch_entries
  pub taken : HasTaken (rewound log now) entries now log
  pub place : store.place ≡ (rewound log now).place

-- There is a whole checkpoint of the state before the batch exactly if the batch needs one.
pub record IsMadeFor {D : Type 0} (store : KeeperStore D) (before : ServerState) (entries : List Entry)
    (whole : Option Checkpoint) : Type 0 where
  pub made : IsWholeFor store entries whole
  pub image : IfSome whole (λ made. IsImageOf made before)

-- ---- how a call ends, if the device worked before it

-- no call of the device failed
pub record WorksOn {D : Type 0} (model : Ghosts D) (old new : JournalState D) : Type 0 where
  pub works : new.has_failed ≡ false
  pub still : model.failures new.disk ≡ model.failures old.disk

-- a call of the device failed
pub record BreaksOff {D : Type 0} (model : Ghosts D) (old new : JournalState D) : Type 0 where
  pub failed : new.has_failed ≡ true
  pub rises : Rises (model.failures old.disk) (model.failures new.disk)

-- Only the device fails, and the disk's honesty stays as it was.
pub record StoreEnds {T D : Type 0} (model : Ghosts D) (result : Result T JournalFault)
    (old new : JournalState D) : Type 0 where
  pub outcome : MatchResult result (λ _. WorksOn model old new)
      (λ fault. (fault ≡ Device) × BreaksOff model old new)
  pub honesty : model.honest new.disk ↔ model.honest old.disk

-- ---- what it keeps

-- The store is sound, and no entry came.
pub record StaysSound {D : Type 0} (old new : KeeperStore D) : Type 0 where
  pub sound : IsStore new
  pub place : new.place ≡ old.place

-- The store is sound, and counts the entries of a batch exactly if the batch is stored.
pub record CountsBatch {T D : Type 0} (result : Result T JournalFault) (old new : KeeperStore D)
    (n : ℕ) : Type 0 where
  pub sound : IsStore new
  pub place : MatchResult result (λ _. new.place ≡ old.place + n) (λ _. new.place ≡ old.place)

-- The next slice is written, if one was left, and the result says whether slices are left then.
pub record IsStepped {D : Type 0} (old new : KeeperStore D) (more : Bool) : Type 0 where
  pub value : store_of new ≡ record (stepped (store_of old)) { disk = new.journal.disk }
  pub more_is : more ≡ has_slices (store_of new).checkpoint
  pub ready : HasCheckpoint new

-- Each image that a stop leaves stands for the state, and if the call succeeds, the store still upholds the
-- state.
pub record Carries {T D : Type 0} (model : Ghosts D) (result : Result T JournalFault)
    (old new : KeeperStore D) (s : ServerState) : Type 0 where
  pub any_moment : LeavesOnly model old.journal.disk new.journal.disk (λ image. StandsFor image s)
  pub upheld : OnOk result (Upholds model new s)

-- Each image that a stop leaves stands for one of two states, and if the call succeeds, the store upholds the
-- second.
pub record Leads {T D : Type 0} (model : Ghosts D) (result : Result T JournalFault) (old new : KeeperStore D)
    (s t : ServerState) : Type 0 where
  pub any_moment : LeavesOnly model old.journal.disk new.journal.disk (StandsForEither s t)
  pub upheld : OnOk result (Upholds model new t)

-- nothing more is needed of a state
abbrev pub Always : ServerState → Type 0
Always s = Unit {0}

-- How a step of a checkpoint ends: only the device fails, no entry comes, and a state that the store upheld
-- is carried on, if it is as the step needs it.
pub record StepEnds {T D : Type 0} (model : Ghosts D) (Needs : ServerState → Type 0)
    (result : Result T JournalFault) (old new : KeeperStore D) : Type 0 where
  pub stays : StaysSound old new
  pub ends : StoreEnds model result old.journal new.journal
  pub carries : model.honest old.journal.disk → (s : ServerState) → Upholds model old s → Needs s
      → Carries model result old new s

-- How storing a batch ends: only the device fails, the store counts the entries exactly if they are stored,
-- and a state that the store upheld leads to the state after them, if it is as the call needs it and the
-- entries are legal there.
pub record BatchEnds {T D : Type 0} (model : Ghosts D) (Needs : ServerState → Type 0)
    (result : Result T JournalFault) (old new : KeeperStore D) (entries : List Entry) : Type 0 where
  pub counts : CountsBatch result old new (length entries)
  pub ends : StoreEnds model result old.journal new.journal
  pub leads : model.honest old.journal.disk → (s : ServerState) → Upholds model old s → Needs s
      → AreLegal s entries → Leads model result old new s (after_all s entries)

-- Each image that a stop leaves holds the contents, and if the call succeeds, the journal keeps them and the
-- checkpoint's draft.
pub record CarriesDraft {T D : Type 0} (model : Ghosts D) (result : Result T JournalFault)
    (old new : JournalState D) (contents : Contents) (c : Checkpoint) (s : ServerState) : Type 0 where
  pub any_moment : LeavesOnly model old.disk new.disk (Holds contents)
  pub drafted : OnOk result (KeepsDraft model new contents c s)

-- ---- calls of the device

-- How many device calls make room for a batch at most. A whole checkpoint, if the batch needs one, has this
-- many slices.
pub record MakesRoom {D : Type 0} (store : StoreState D) (entries : List Entry) (whole : ℕ)
    (before after : Calls) : Type 0 where
  pub none : IsTrue (fits store entries) → MakesAtMost 0 0 0 before after
  pub to_finish : must_begin store entries ≡ false
      → MakesAtMost 0 (slices_left store.checkpoint + 2) 2 before after
  pub most : MakesAtMost 1 (slices_left store.checkpoint + (whole + 6)) 5 before after
