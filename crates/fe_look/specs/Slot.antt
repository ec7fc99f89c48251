-- How one slot of a store, a half of it, is copied. A gate is the byte in front of a group that is 1 if the
-- group counts (`docs/store.md`).
use Rattle.std.specs.Prelude.{◌≡◌, ◌+◌, ◌<◌, ℕ, List, [], ◌∷◌, Option, Some, None, ◌⊎◌, ◌≤◌, slice_index}
use Rattle.fe_disk.specs.Disk.{IsTorn, bytes_at}
use Rattle.fe_journal.specs.Layout.{area_bytes, header_of, gate_of, image_of, area_of, number_at, IsGateOpen}
use Rattle.fe_journal.specs.Layout.{IsGateShut}
use Rattle.fe_format.specs.Layout.{magic_of}
use Rattle.fe_format.specs.declared.format.Format.{Format}
use Rattle.fe_journal.specs.Contents.{IsValidAs, SlotCounts}
use Rattle.fe_look.specs.declared.header.HeaderBytes.{HeaderBytes}

-- From the gate at `at` in an area on, each gate is open and has the next of these lengths after it, until
-- one at `end` that is not open.
abbrev pub GatesEnd : List ℕ → ℕ → ℕ → List ℕ → ℕ → Type 0
GatesEnd bytes area at [] end = (at ≡ end) × IsGateShut bytes (area + at)
GatesEnd bytes area at (n ∷ ns) end = IsGateOpen bytes (area + at) × (number_at bytes (area + at + 1) 4 ≡ n)
    × GatesEnd bytes area (at + (5 + n)) ns end

-- the gate at `end` in an area is the first that is not open, whatever lengths the groups before it have
pub record EndsAt (bytes : List ℕ) (area end : ℕ) : Type 0 where
  pub lengths : List ℕ
  pub gates : GatesEnd bytes area 0 lengths end

-- A journal area is copied whole, or up to the gate that ends its groups, which is closed in the copy.
abbrev pub IsAreaCopied : List ℕ → List ℕ → ℕ → Option ℕ → Type 0
IsAreaCopied image copy area None = bytes_at copy area area_bytes ≡ bytes_at image area area_bytes
IsAreaCopied image copy area (Some end) =
    (end < area_bytes) × EndsAt image area end × (bytes_at copy area end ≡ bytes_at image area end)
    × IsGateShut copy (area + end)

-- the image and the journal area of a slot are copied, and nothing else is changed
pub record HasParts (image : List ℕ) (slot : ℕ) (old new : List ℕ) : Type 0 where
  pub end : Option ℕ
  pub image_is : bytes_at new (image_of slot) 1048576 ≡ bytes_at image (image_of slot) 1048576
  pub area_is : IsAreaCopied image new (area_of slot) end
  pub elsewhere : IsTorn (image_of slot) 2097152 old new

-- the same, with the fields of a header and its open gate
pub record IsSlotCopy (image : List ℕ) (slot : ℕ) (fields old new : List ℕ) : Type 0 where
  pub end : Option ℕ
  pub fields_are : bytes_at new (header_of slot) 20 ≡ fields
  pub is_open : IsGateOpen new (gate_of slot)
  pub image_is : bytes_at new (image_of slot) 1048576 ≡ bytes_at image (image_of slot) 1048576
  pub area_is : IsAreaCopied image new (area_of slot) end
  pub elsewhere : IsTorn (header_of slot) 2101248 old new

-- ---- the headers of both slots

-- the slot with this header is valid, in this format
pub record IsValid (header : HeaderBytes) (format : Format) : Type 0 where
  pub is_open : header.gate ≡ 1
  pub magic : number_at header.fields 0 8 ≡ magic_of format

abbrev pub IsFormatIn : HeaderBytes → Option Format → Type 0
IsFormatIn header None = (format : Format) → IsValid header format → ⊥
IsFormatIn header (Some format) = IsValid header format

abbrev pub generation_in : HeaderBytes → ℕ
generation_in header = number_at header.fields 8 8

-- the slot of this image has this header
pub record IsHeaderOf (image : List ℕ) (slot : ℕ) (header : HeaderBytes) : Type 0 where
  pub fields_are : header.fields ≡ bytes_at image (header_of slot) 20
  pub gate_is : header.gate ≡ slice_index image (gate_of slot)

-- which of two slots' headers counts: the one with the greater generation, and the first of equal ones
abbrev pub IsChosen : HeaderBytes → HeaderBytes → Option (ℕ × HeaderBytes) → Type 0
IsChosen first second None = ((f : Format) → IsValid first f → ⊥) × ((f : Format) → IsValid second f → ⊥)
IsChosen first second (Some (slot, header)) =
    ((slot ≡ 0) × (header ≡ first) × ((f : Format) × IsValid first f)
    × ((f : Format) → IsValid second f → generation_in second ≤ generation_in first))
    ⊎ ((slot ≡ 1) × (header ≡ second) × ((f : Format) × IsValid second f)
    × ((f : Format) → IsValid first f → generation_in first < generation_in second))

-- the slot that counts, with its header; or no slot is valid
abbrev pub Counts : List ℕ → Option (ℕ × HeaderBytes) → Type 0
Counts image None = (slot : ℕ) (format : Format) → slot < 2 → IsValidAs image slot format → ⊥
Counts image (Some (slot, header)) =
    IsHeaderOf image slot header × ((format : Format) × SlotCounts image slot format)
