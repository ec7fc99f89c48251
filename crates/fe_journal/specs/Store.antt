-- What opening reads of a store, step by step, and what it has read then: the slot that counts, its journal
-- area and its image (`docs/store.md`).
use Rattle.std.specs.Prelude.{◌≡◌, ◌⊎◌, ◌≤◌, ◌<◌, ◌+◌, ◌-◌, ℕ, List, Option, Some, None, vec_len}
use Rattle.fe_journal.specs.Layout.{number_at, IsGateOpen, header_bytes, header_of, area_of, area_bytes}
use Rattle.fe_journal.specs.Layout.{image_of}
use Rattle.fe_format.specs.Layout.{magic_of, IsImageLength}
use Rattle.fe_journal.specs.Contents.{StandFrom, HoldsGroups, end_of_groups, GroupFits, IsValidAs, SlotCounts}
use Rattle.fe_journal.specs.Contents.{generation_at, image_length_at}
use Rattle.fe_format.specs.declared.format.Format.{Format}
use Rattle.fe_journal.specs.declared.header.Header.{Header}
use Rattle.fe_journal.specs.declared.fault.StoreFault.{StoreFault}
use Rattle.fe_journal.specs.declared.fault.StoreFault.TheVariants.{Unformatted, Damaged, Device, NoMemory}
use Rattle.fe_disk.specs.Disk.{bytes_at, MakesNoCall}
use Rattle.fe_disk.specs.declared.disk.Disk.{Ghosts}
use Rattle.fe_journal.specs.declared.store.Store.{Store}
use Rattle.fe_journal.specs.declared.store.SlotParts.{SlotParts}

-- the format with this magic, if there is one
abbrev pub IsFormatOf : ℕ → Option Format → Type 0
IsFormatOf magic None = (magic ≡ 0x46454d454d535431 → ⊥) × (magic ≡ 0x46454d454d535432 → ⊥)
IsFormatOf magic (Some format) = magic ≡ magic_of format

-- the header that begins at `at` is that of a valid slot and has these fields
pub record IsHeaderAt (bytes : List ℕ) (at : ℕ) (header : Header) : Type 0 where
  pub is_open : IsGateOpen bytes (at + (header_bytes - 1))
  pub magic : number_at bytes at 8 ≡ magic_of header.format
  pub generation_is : number_at bytes (at + 8) 8 ≡ header.generation
  pub length_is : number_at bytes (at + 16) 4 ≡ header.image_length

abbrev pub IsHeader : List ℕ → ℕ → Option Header → Type 0
IsHeader bytes at None = (format : Format) → IsGateOpen bytes (at + (header_bytes - 1))
    → number_at bytes at 8 ≡ magic_of format → ⊥
IsHeader bytes at (Some header) = IsHeaderAt bytes at header

-- which of two slots' headers counts: the one with the greater generation, and the first of equal ones
abbrev pub IsCounting : Option Header → Option Header → Option (ℕ × Header) → Type 0
IsCounting first second None = (first ≡ None) × (second ≡ None)
IsCounting first second (Some (slot, header)) =
    ((slot ≡ 0) × (first ≡ Some header) × ((other : Header) → second ≡ Some other
    → other.generation ≤ header.generation))
    ⊎ ((slot ≡ 1) × (second ≡ Some header) × ((other : Header) → first ≡ Some other
    → other.generation < header.generation))

-- the length after the gate, if a group with a payload of that length fits
abbrev pub IsFitting : Format → List ℕ → ℕ → Option ℕ → Type 0
IsFitting format bytes at None = GroupFits format at (number_at bytes (at + 1) 4) → ⊥
IsFitting format bytes at (Some n) = (n ≡ number_at bytes (at + 1) 4) × GroupFits format at n

-- the groups from the area's beginning on reach to `at`
pub record Reaches (format : Format) (bytes : List ℕ) (at : ℕ) : Type 0 where
  pub groups : List (List ℕ)
  pub stand : StandFrom format bytes 0 0 groups
  pub at_is : at ≡ end_of_groups groups

-- the groups from the area's beginning on reach to `at`, where an open gate has no group that fits
pub record IsOddAt (format : Format) (bytes : List ℕ) (at : ℕ) : Type 0 where
  pub groups : List (List ℕ)
  pub stand : StandFrom format bytes 0 0 groups
  pub at_is : at ≡ end_of_groups groups
  pub is_open : IsGateOpen bytes at
  pub odd : GroupFits format at (number_at bytes (at + 1) 4) → ⊥

-- the groups from the area's beginning on end at `at`, where a gate is closed
pub record GroupsEndAt (format : Format) (bytes : List ℕ) (at : ℕ) : Type 0 where
  pub groups : List (List ℕ)
  pub holds : HoldsGroups format bytes 0 0 groups
  pub at_is : at ≡ end_of_groups groups

-- what is wrong with a header: generation 0, or an image length that the format does not allow
abbrev pub HeaderFault : ℕ → Header → StoreFault → Type 0
HeaderFault slot header (Damaged offset) =
    ((header.generation ≡ 0) × (offset ≡ header_of slot + 8))
    ⊎ ((1 ≤ header.generation) × (IsImageLength header.format header.image_length → ⊥)
    × (offset ≡ header_of slot + 16))
HeaderFault slot header Unformatted = ⊥
HeaderFault slot header Device = ⊥
HeaderFault slot header (NoMemory error) = ⊥

-- what is wrong with the groups of the slot's journal area
abbrev pub GroupFault : ℕ → Format → List ℕ → StoreFault → Type 0
GroupFault slot format area (Damaged offset) =
    (at : ℕ) × (at < area_bytes) × IsOddAt format area at × (offset ≡ area_of slot + at)
GroupFault slot format area Unformatted = ⊥
GroupFault slot format area Device = ⊥
GroupFault slot format area (NoMemory error) = ⊥

-- ---- what opening has read

-- No call of the disk was made.
abbrev pub AsksNothing : {D : Type 0} → Ghosts D → D → D → Type 0
AsksNothing model old new = MakesNoCall model.size model.failures model.calls model.honest old new

-- the slot that counts, with its header's fields; or no slot is valid
abbrev pub CountsAs : List ℕ → Option (ℕ × Header) → Type 0
CountsAs image None = (slot : ℕ) (format : Format) → slot < 2 → IsValidAs image slot format → ⊥
CountsAs image (Some (slot, header)) = SlotCounts image slot header.format
    × (generation_at image slot ≡ header.generation) × (image_length_at image slot ≡ header.image_length)

-- what was read of a slot: its journal area, with the offset where its groups end, and its image
pub record IsSlotRead (image : List ℕ) (slot : ℕ) (header : Header) (parts : SlotParts) : Type 0 where
  pub area_is : parts.area.items ≡ bytes_at image (area_of slot) area_bytes
  pub ends : GroupsEndAt header.format parts.area.items parts.used
  pub image_is : parts.image.items ≡ bytes_at image (image_of slot) header.image_length

-- a slot, and a header that allows it to be read
abbrev pub IsReadable : ℕ × Header → Type 0
IsReadable (slot, header) =
    (slot < 2) × (1 ≤ header.generation) × IsImageLength header.format header.image_length

-- over any disk: how long the area is that was read, and that its groups end in it
pub record AreParts (parts : SlotParts) : Type 0 where
  pub area_whole : vec_len parts.area ≡ area_bytes
  pub within : parts.used < area_bytes

-- all that was read: a slot that counts and is not damaged, and its parts
pub record IsStore (image : List ℕ) (store : Store) : Type 0 where
  pub counts : CountsAs image (Some (store.slot, store.header))
  pub numbered : 1 ≤ store.header.generation
  pub length_fits : IsImageLength store.header.format store.header.image_length
  pub read : IsSlotRead image store.slot store.header store.parts

pub record IsWholeStore (store : Store) : Type 0 where
  pub is_slot : store.slot < 2
  pub buffer_whole : vec_len store.buffer ≡ area_bytes
  pub parts_whole : AreParts store.parts
  pub ends : GroupsEndAt store.header.format store.parts.area.items store.parts.used
