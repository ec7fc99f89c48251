-- How the fields of a `MemoryDisk` give what callers see (`docs/model.md`, "The disk").
use Rattle.std.specs.Prelude.{length, ℕ, ◌<◌, ◌≤◌, List, [], ◌∷◌}
use Rattle.fe_disk.specs.Disk.{IsImage}
use Rattle.fe_disk.specs.Memory.{MemoryState, DiskEvent, MayLeave, LeftSince, image_before, AreWithin}
use Rattle.fe_disk.specs.declared.memory_disk.MemoryDisk.TheInside.{Inside}
use Rattle.std.proofs.Common.{inl, inr, refl, arith}

abbrev pub state_of : Inside → MemoryState
state_of disk =
    record { image = disk.bytes.items; events = disk.record; calls = disk.calls; failures = disk.failures }

-- the bytes are bytes, and each write that was made lies on the disk
pub record IsRecord (disk : Inside) : Type 0 where
  pub image : IsImage (length disk.bytes.items) disk.bytes.items
  pub within : AreWithin (length disk.bytes.items) disk.record

-- ---- the laws of the trait

pub seen_may_stay_law : (image : List ℕ) (events : List DiskEvent) → IsImage (length image) image
    → MayLeave (length image) image events image
seen_may_stay_law image events bytes = record { bytes = bytes; elsewhere = λ _ _. refl }

pub counts_now_law : (size : ℕ) (image : List ℕ) (events : List DiskEvent) (t : ℕ) (left : List ℕ)
    → t ≤ length events → MayLeave size image events left → LeftSince size image events t left
counts_now_law size image [] t left now may = (now, may)
counts_now_law size image (event ∷ earlier) t left now may = inl (now, may)

-- no image was left at a moment later than now
none_later : (size : ℕ) (image : List ℕ) (events : List DiskEvent) (t : ℕ) (left : List ℕ) → length events < t
    → LeftSince size image events t left → ⊥
none_later size image [] t left late since = let le = since.0 in omega arith
none_later size image (event ∷ earlier) t left late (inl since) = let le = since.0 in omega arith
none_later size image (event ∷ earlier) t left late (inr since) =
    none_later size (image_before event image) earlier t left (omega arith) since

pub only_now_law : (size : ℕ) (image : List ℕ) (events : List DiskEvent) (left : List ℕ)
    → LeftSince size image events (length events) left → MayLeave size image events left
only_now_law size image [] left since = since.1
only_now_law size image (event ∷ earlier) left (inl since) = since.1
only_now_law size image (event ∷ earlier) left (inr since) =
    absurd (none_later size (image_before event image) earlier (length (event ∷ earlier)) left (omega arith)
    since)

pub left_is_image_law : (size : ℕ) (image : List ℕ) (events : List DiskEvent) (t : ℕ) (left : List ℕ)
    → LeftSince size image events t left → IsImage size left
left_is_image_law size image [] t left since = since.1.bytes
left_is_image_law size image (event ∷ earlier) t left (inl since) = since.1.bytes
left_is_image_law size image (event ∷ earlier) t left (inr since) =
    left_is_image_law size (image_before event image) earlier t left since
