-- What a `MemoryDisk` is, and which images its record of writes and syncs says that a stop may leave. An
-- image is the list of all bytes of a disk (`docs/model.md`, "The disk").
use Rattle.fe_disk.specs.declared.calls.Calls.{Calls}
use Rattle.std.specs.Prelude.{◌≡◌, ◌⊎◌, ℕ, ◌+◌, ◌-◌, ◌^◌, ◌<◌, ◌≤◌, min, List, [], ◌∷◌, length, slice_index}
use Rattle.std.specs.Prelude.{replicate}
use Rattle.fe_disk.specs.Disk.{IsImage, bytes_at, after_write}
use Rattle.fe_disk.specs.declared.memory_disk.Torn.{Torn}
use Rattle.fe_disk.specs.declared.memory_disk.Torn.TheVariants.{Kept, Lost, Byte}

-- no calls
abbrev pub none : Calls
none = record { reads = 0; writes = 0; syncs = 0 }

-- an event of the record: a write that succeeded, by its offset and the bytes that it replaced, or a sync
-- that succeeded
pub data DiskEvent : Type 0 where
  Write : (at : ℕ) → (before : List ℕ) → DiskEvent
  Sync : DiskEvent

-- what a disk in memory is: its bytes, the events since it was made with the latest first, how many calls of
-- each kind (read, write, sync) succeeded, and its count of faults
pub record MemoryState : Type 0 where
  pub image : List ℕ
  pub events : List DiskEvent
  pub calls : Calls
  pub failures : ℕ

-- the members of the trait `Disk`, with `IsHonest`, `LeavesNow` and `LeavesSince` below
abbrev pub size_of : MemoryState → ℕ
size_of disk = length disk.image

abbrev pub failures_of : MemoryState → ℕ
failures_of disk = disk.failures

abbrev pub calls_of : MemoryState → Calls
calls_of disk = disk.calls

abbrev pub seen_of : MemoryState → List ℕ
seen_of disk = disk.image

-- the moment is the number of events
abbrev pub moment_of : MemoryState → ℕ
moment_of disk = length disk.events

-- the image before an event, given the one after it
abbrev pub image_before : DiskEvent → List ℕ → List ℕ
image_before (Write at before) image = after_write image at before
image_before Sync image = image

-- no write since the last sync has the offset in its range
abbrev pub IsSettledAt : List DiskEvent → ℕ → Type 0
IsSettledAt [] i = Unit {0}
IsSettledAt (Sync ∷ earlier) i = Unit {0}
IsSettledAt (Write at before ∷ earlier) i = ((i < at) ⊎ (at + length before ≤ i)) × IsSettledAt earlier i

-- A stop leaves any bytes in the ranges written since the last sync, and elsewhere those that a read gives.
pub record MayLeave (size : ℕ) (image : List ℕ) (events : List DiskEvent) (left : List ℕ) : Type 0 where
  pub bytes : IsImage size left
  pub elsewhere : (i : ℕ) → IsSettledAt events i → slice_index left i ≡ slice_index image i

-- A stop may have left this image when t events, or more, were on record.
abbrev pub LeftSince : ℕ → List ℕ → List DiskEvent → ℕ → List ℕ → Type 0
LeftSince size image [] t left = (t ≤ 0) × MayLeave size image [] left
LeftSince size image (event ∷ earlier) t left =
    ((t ≤ length (event ∷ earlier)) × MayLeave size image (event ∷ earlier) left)
    ⊎ LeftSince size (image_before event image) earlier t left

-- a disk is honest if its image consists of bytes (numbers below 2^8): nothing else is assumed
abbrev pub IsHonest : MemoryState → Type 0
IsHonest disk = IsImage (length disk.image) disk.image

-- a stop now may leave this image
abbrev pub LeavesNow : MemoryState → List ℕ → Type 0
LeavesNow disk = MayLeave (length disk.image) disk.image disk.events

-- a stop may have left this image when t events of the disk, or more, were on record
abbrev pub LeavesSince : MemoryState → ℕ → List ℕ → Type 0
LeavesSince disk = LeftSince (length disk.image) disk.image disk.events

-- the image at the last sync or, if there was none, when the disk was made
abbrev pub synced_image : List ℕ → List DiskEvent → List ℕ
synced_image image [] = image
synced_image image (Sync ∷ earlier) = image
synced_image image (Write at before ∷ earlier) = synced_image (after_write image at before) earlier

-- the ranges written since the last sync have this byte throughout, and all others are as in the image
pub record IsFilled (byte : ℕ) (image : List ℕ) (events : List DiskEvent) (left : List ℕ) : Type 0 where
  pub whole : length left ≡ length image
  pub elsewhere : (i : ℕ) → IsSettledAt events i → slice_index left i ≡ slice_index image i
  pub filled : (i : ℕ) → i < length image → (IsSettledAt events i → ⊥) → slice_index left i ≡ byte

-- what a stop leaves that does this to the ranges written since the last sync
abbrev pub IsLeftBy : Torn → List ℕ → List DiskEvent → List ℕ → Type 0
IsLeftBy Kept image events left = left ≡ image
IsLeftBy Lost image events left = left ≡ synced_image image events
IsLeftBy (Byte byte) image events left = IsFilled byte image events left

-- no event is on record, no call was made and none has failed
pub record IsFresh (disk : MemoryState) : Type 0 where
  pub events : disk.events ≡ []
  pub calls : disk.calls ≡ none
  pub failures : disk.failures ≡ 0

-- a new disk: zeros, with no call and no fault
pub record IsBlank (size : ℕ) (disk : MemoryState) : Type 0 where
  pub whole : length disk.image ≡ size
  pub zeros : (i : ℕ) → slice_index disk.image i ≡ 0
  pub fresh : IsFresh disk

-- the disk after a read that succeeds
abbrev pub disk_after_read : MemoryState → MemoryState
disk_after_read disk = record disk { calls = record disk.calls { reads = disk.calls.reads + 1 } }

-- the disk after a write that succeeds, which keeps the bytes that it replaced
abbrev pub disk_after_write : MemoryState → ℕ → List ℕ → MemoryState
disk_after_write disk at bytes =
    record {
      image = after_write disk.image at bytes;
      events = Write at (bytes_at disk.image at (length bytes)) ∷ disk.events;
      calls = record disk.calls { writes = disk.calls.writes + 1 };
      failures = disk.failures;
    }

-- the disk after a sync that succeeds
abbrev pub disk_after_sync : MemoryState → MemoryState
disk_after_sync disk =
    record {
      image = disk.image;
      events = Sync ∷ disk.events;
      calls = record disk.calls { syncs = disk.calls.syncs + 1 };
      failures = disk.failures;
    }

-- the disk after a call that fails: the fault is counted, up to 2^64 - 1, and nothing else is done
abbrev pub disk_after_fault : MemoryState → MemoryState
disk_after_fault disk = record {
  image = disk.image;
  events = disk.events;
  calls = disk.calls;
  failures = min (disk.failures + 1) (2 ^ 64 - 1);
}

-- ---- the ranges that were written since the last sync, as a stop goes through them

-- each write lies within this many bytes
abbrev pub AreWithin : ℕ → List DiskEvent → Type 0
AreWithin size [] = Unit {0}
AreWithin size (Sync ∷ earlier) = AreWithin size earlier
AreWithin size (Write at before ∷ earlier) = (at + length before ≤ size) × AreWithin size earlier

-- what a stop does to the range of one write
abbrev pub image_with_tear : Torn → List ℕ → ℕ → List ℕ → List ℕ
image_with_tear Kept image at before = image
image_with_tear Lost image at before = after_write image at before
image_with_tear (Byte byte) image at before = after_write image at (replicate (length before) byte)

-- what a stop does to the ranges of all writes since the last sync, the latest first
abbrev pub image_with_tears : Torn → List ℕ → List DiskEvent → List ℕ
image_with_tears torn image [] = image
image_with_tears torn image (Sync ∷ earlier) = image
image_with_tears torn image (Write at before ∷ earlier) =
    image_with_tears torn (image_with_tear torn image at before) earlier
