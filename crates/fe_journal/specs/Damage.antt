-- When an image, all bytes of a device, holds no contents, and what opening reports then (`docs/store.md`).
use Rattle.std.specs.Prelude.{◌≡◌, ◌≢◌, ◌⊎◌, ℕ, ◌+◌, ◌<◌, ◌≤◌, List, length}
use Rattle.fe_journal.specs.Layout.{device_bytes, header_of, area_of, number_at, IsGateOpen}
use Rattle.fe_format.specs.Layout.{IsImageLength}
use Rattle.fe_journal.specs.Contents.{StandFrom, end_of_groups, GroupFits, IsValidAs, SlotCounts}
use Rattle.fe_journal.specs.Contents.{generation_at, image_length_at, Contents, Holds}
use Rattle.fe_format.specs.declared.format.Format.{Format}
use Rattle.fe_journal.specs.declared.fault.StoreFault.{StoreFault}
use Rattle.fe_journal.specs.declared.fault.StoreFault.TheVariants.{Unformatted, Damaged, Device, NoMemory}

-- The device has another size than a store, or no valid slot.
abbrev pub IsUnformatted : List ℕ → Type 0
IsUnformatted image = (length image ≢ device_bytes)
    ⊎ ((slot : ℕ) (format : Format) → slot < 2 → IsValidAs image slot format → ⊥)

-- In an image of a store's size, the header of the slot that counts allows the slot to be read.
pub record HasSoundHeader (image : List ℕ) : Type 0 where
  pub slot : ℕ
  pub format : Format
  pub whole : length image ≡ device_bytes
  pub counts : SlotCounts image slot format
  pub numbered : 1 ≤ generation_at image slot
  pub length_fits : IsImageLength format (image_length_at image slot)

-- The first thing wrong in the slot that counts, in this order, and its offset on the device:
pub data IsDamagedAt (image : List ℕ) (offset : ℕ) : Type 0 where
  -- generation 0; the offset is that of its field
  NoGeneration : (slot : ℕ) (format : Format) → SlotCounts image slot format → generation_at image slot ≡ 0
      → offset ≡ header_of slot + 8 → IsDamagedAt image offset
  -- an image length that the format does not allow; the offset is that of its field
  OddImage : (slot : ℕ) (format : Format) → SlotCounts image slot format → 1 ≤ generation_at image slot
      → (IsImageLength format (image_length_at image slot) → ⊥)
      → offset ≡ header_of slot + 16 → IsDamagedAt image offset
  -- after open groups, an open gate with a length that is not allowed or does not fit; the offset is the
  -- gate's
  OddGroup : (slot : ℕ) (format : Format) (groups : List (List ℕ)) → SlotCounts image slot format
      → 1 ≤ generation_at image slot → IsImageLength format (image_length_at image slot)
      → StandFrom format image (area_of slot) 0 groups
      → IsGateOpen image (area_of slot + end_of_groups groups)
      → (GroupFits format (end_of_groups groups) (number_at image (area_of slot + end_of_groups groups + 1) 4)
      → ⊥)
      → offset ≡ area_of slot + end_of_groups groups → IsDamagedAt image offset

-- What a fault of opening says of the image that reads of the disk give: it is unformatted; it has a store's
-- size, and is damaged first at this offset; or memory ran out, which it does only if the header of the slot
-- that counts is sound. A fault of the device says nothing.
abbrev pub TellsFound : StoreFault → List ℕ → Type 0
TellsFound Unformatted image = IsUnformatted image
TellsFound (Damaged offset) image = (length image ≡ device_bytes) × IsDamagedAt image offset
TellsFound Device image = Unit {0}
TellsFound (NoMemory error) image = HasSoundHeader image

-- ---- laws, cited by public functions (`docs/model.md`, "The journal")

-- An image holds one contents at most.
abbrev pub HasOneContents : Type 0
HasOneContents = (c d : Contents) (image : List ℕ) → Holds c image → Holds d image → c ≡ d

-- An image that holds contents is not unformatted, and damaged nowhere.
abbrev pub IsHeldOrRefused : Type 0
IsHeldOrRefused = (c : Contents) (image : List ℕ) → Holds c image
    → (IsUnformatted image → ⊥) × ((offset : ℕ) → IsDamagedAt image offset → ⊥)
