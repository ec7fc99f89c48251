-- When an image of a device stands for no state, and what opening reports then. The slot that counts has an
-- image of a state, and groups of records (`docs/store.md`).
use Rattle.std.specs.Prelude.{◌≡◌, ◌⊎◌, ℕ, ◌+◌, ◌<◌, ◌≤◌, List, [], ◌∷◌, length, Ok, Err, IsOk, ◌++◌, take}
use Rattle.fe_memory.specs.Memory.{out_of_memory}
use Rattle.fe_disk.specs.declared.calls.Calls.{Calls}
use Rattle.fe_state.specs.State.{ServerState}
use Rattle.fe_codec.specs.FirstFault.{header_at, image_at}
use Rattle.fe_format.specs.declared.format.Format.{Format}
use Rattle.fe_journal.specs.Layout.{device_bytes, header_of, image_of, area_of}
use Rattle.fe_journal.specs.Contents.{Contents, Holds}
use Rattle.fe_journal.specs.Damage as journal
use Rattle.fe_journal.specs.Found.{ReadsInPart}
use Rattle.fe_replica.specs.Replaying.{Replays, IsFirstBad}
use Rattle.fe_keeper.specs.Stands.{StandsFor, greatest_generation, IsCrashPrefix}
use Rattle.fe_keeper.specs.declared.fault.Fault.{Fault}
use Rattle.fe_keeper.specs.declared.fault.Fault.TheVariants.{Device, Failed, NoMemory, Mismatch, Damaged}
use Rattle.fe_keeper.specs.declared.fault.Fault.TheVariants.{Unformatted}
use Rattle.fe_state.specs.History.{IsHistory, after_groups}
use Rattle.fe_state.specs.declared.entry.Entry.{Entry}
use Rattle.fe_journal.specs.Damage.{IsUnformatted}

-- Groups are replayed from a state on. The first record that is no entry's, or whose entry may not come next,
-- begins at this offset, if the gate of the first group is at `at`.
abbrev pub IsBadFrom : Format → List (List ℕ) → ServerState → ℕ → ℕ → Type 0
IsBadFrom format [] s at offset = ⊥
IsBadFrom format (payload ∷ payloads) s at offset =
    ((within : ℕ) × IsFirstBad format payload s within × (offset ≡ at + 5 + within))
    ⊎ ((mid : ServerState) × Replays format payload s mid
    × IsBadFrom format payloads mid (at + (5 + length payload)) offset)

-- The first thing wrong in what a slot holds, in this order, and its offset on the device. The gate of the
-- slot's first group is at `at`.
pub data IsWrongIn (slot : ℕ) (format : Format) (generation : ℕ) (image : List ℕ) (payloads : List (List ℕ))
    (at offset : ℕ) : Type 0 where
  -- a field of the image; the offset is the field's
  OddField : (within : ℕ) → image_at format image ≡ Err within → offset ≡ image_of slot + within
      → IsWrongIn slot format generation image payloads at offset
  -- a generation that is too great for the image's place; the offset is that of its field
  OddGeneration : (base : ServerState) → image_at format image ≡ Ok base
      → greatest_generation format base.place < generation → offset ≡ header_of slot + 8
      → IsWrongIn slot format generation image payloads at offset
  -- a record that is no entry's, or whose entry may not come after what is before it; the offset is the
  -- record's
  OddRecord : (base : ServerState) → image_at format image ≡ Ok base
      → generation ≤ greatest_generation format base.place
      → IsBadFrom format payloads base at offset → IsWrongIn slot format generation image payloads at offset

abbrev pub IsWrongAt : Contents → ℕ → Type 0
IsWrongAt c offset = IsWrongIn c.slot c.format c.generation c.image c.groups (area_of c.slot) offset

-- An image of a store's size is damaged first at this offset: in the header of the slot that counts or the
-- lengths of its groups, and if these are right, in what the slot holds.
pub data IsDamagedAt (image : List ℕ) (offset : ℕ) : Type 0 where
  InSlot : length image ≡ device_bytes → journal.IsDamagedAt image offset → IsDamagedAt image offset
  InContents : (c : Contents) → Holds c image → IsWrongAt c offset → IsDamagedAt image offset

-- When memory may run out while the store of an image is opened, between these counts of calls.
pub data MayLackMemory (image : List ℕ) (before now : Calls) : Type 0 where
  -- Not all of the store was read yet; the header of the slot that counts is right.
  InPart : journal.HasSoundHeader image → ReadsInPart before now → MayLackMemory image before now
  -- All of it was read; the lengths of the groups and the image's fields before its arrays are right.
  AfterFields : (c : Contents) → Holds c image → IsOk (header_at c.image) → MayLackMemory image before now

-- What a fault of opening says of the image that reads of the disk give: it is unformatted; it is damaged
-- first at this offset; or memory ran out as `MayLackMemory` allows. The other faults say nothing of it.
abbrev pub TellsStore : Fault → List ℕ → Calls → Calls → Type 0
TellsStore Unformatted image before now = journal.IsUnformatted image
TellsStore (Damaged offset) image before now = IsDamagedAt image offset
TellsStore Device image before now = Unit {0}
TellsStore (NoMemory error) image before now = MayLackMemory image before now
TellsStore Failed image before now = Unit {0}
TellsStore (Mismatch place) image before now = Unit {0}

-- Why the store of an image is not opened: what the fault says of the image holds, and one that stands for a
-- state is refused only if the device fails or memory runs out.
pub record IsReason (image : List ℕ) (before now : Calls) (fault : Fault) : Type 0 where
  pub tells : TellsStore fault image before now
  pub valid : (s : ServerState) → StandsFor image s → (fault ≡ Device) ⊎ (fault ≡ NoMemory out_of_memory)

-- ---- laws, cited by public functions (`docs/model.md`, "The keeper")

-- An image stands for at most one state.
abbrev pub StandsForOne : Type 0
StandsForOne = (image : List ℕ) (s t : ServerState) → StandsFor image s → StandsFor image t → s ≡ t

-- An image that stands for a state is neither unformatted nor damaged, and no image is both unformatted and
-- damaged.
pub record IsToldApart (image : List ℕ) : Type 0 where
  pub formatted : (s : ServerState) → StandsFor image s → IsUnformatted image → ⊥
  pub undamaged : (s : ServerState) (offset : ℕ) → StandsFor image s → IsDamagedAt image offset → ⊥
  pub either : (offset : ℕ) → IsUnformatted image → IsDamagedAt image offset → ⊥

abbrev pub AreToldApart : Type 0
AreToldApart = (image : List ℕ) → IsToldApart image

-- The groups that were kept of a history, and then those of the history that went on from there, are one
-- history.
pub record IsContinued (beginning : ServerState) (history next : List (List Entry)) (k : ℕ)
    (s : ServerState) : Type 0 where
  pub kept : ℕ
  pub least : k ≤ kept
  pub most : kept ≤ length history
  pub is_history : IsHistory beginning (take kept history ++ next)
  pub leads : after_groups beginning (take kept history ++ next) ≡ after_groups s next

-- A history that begins where another was stopped goes on with the groups that were kept of it: both are one
-- history, in which a session's number finishes at most once until the session is closed
-- (`fe_state::numbers_finish_once`).
abbrev pub StopsJoin : Type 0
StopsJoin =
    (beginning s : ServerState) (history next : List (List Entry)) (k : ℕ) → IsHistory beginning history
    → IsCrashPrefix beginning history k s → IsHistory s next → IsContinued beginning history next k s
