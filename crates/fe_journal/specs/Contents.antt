-- What an image, all bytes of a device, holds: the one of two slots that counts, and what is in it
-- (`docs/store.md`, "Two slots").
use Rattle.std.specs.Prelude.{◌≡◌, ℕ, ◌+◌, ◌-◌, ◌≤◌, List, [], ◌∷◌, ◌++◌, length, ◌⊎◌, ◌<◌}
use Rattle.byteorder.specs.Endian.{big_bytes}
use Rattle.fe_disk.specs.Disk.{bytes_at}
use Rattle.fe_journal.specs.Layout.{number_at, IsGateOpen, IsGateShut, area_bytes, empty_area_room}
use Rattle.fe_journal.specs.Layout.{device_bytes, header_of, gate_of, image_of, area_of, other_than}
use Rattle.fe_format.specs.Layout.{IsPayloadLength, magic_of, IsImageLength}
use Rattle.fe_format.specs.declared.format.Format.{Format}

-- ---- groups, of a journal area, which begins at `area` in a list of bytes. A group is a gate, the length
-- of its payload in four bytes, and the payload. A gate is a byte that is open at 1: the group counts then
-- (`docs/formats.md`, "Journal area").

-- a payload of this length is allowed, and fits with its gate at `at` and one more gate after it
pub record GroupFits (format : Format) (at n : ℕ) : Type 0 where
  pub allowed : IsPayloadLength format n
  pub within : at + 6 + n ≤ area_bytes

-- the group with its gate at `at` in the area is open and has this payload
pub record IsGroup (format : Format) (bytes : List ℕ) (area at : ℕ) (payload : List ℕ) : Type 0 where
  pub is_open : IsGateOpen bytes (area + at)
  pub length_is : number_at bytes (area + at + 1) 4 ≡ length payload
  pub fits : GroupFits format at (length payload)
  pub payload_is : bytes_at bytes (area + at + 5) (length payload) ≡ payload

-- these groups stand one after the other, the gate of the first at `at`
abbrev pub StandFrom : Format → List ℕ → ℕ → ℕ → List (List ℕ) → Type 0
StandFrom format bytes area at [] = Unit {0}
StandFrom format bytes area at (payload ∷ payloads) =
    IsGroup format bytes area at payload × StandFrom format bytes area (at + (5 + length payload)) payloads

-- how many bytes groups take: the offset of the gate after them
abbrev pub end_of_groups : List (List ℕ) → ℕ
end_of_groups [] = 0
end_of_groups (payload ∷ payloads) = 5 + length payload + end_of_groups payloads

-- The groups from `at` on, up to the first gate that is not open.
pub record HoldsGroups (format : Format) (bytes : List ℕ) (area at : ℕ)
    (payloads : List (List ℕ)) : Type 0 where
  pub stand : StandFrom format bytes area at payloads
  pub ended : IsGateShut bytes (area + (at + end_of_groups payloads))

-- what follows the gate of a group: its length, its payload, and the next gate, which is closed
abbrev pub after_gate : List ℕ → List ℕ
after_gate payload = big_bytes 4 (length payload) ++ (payload ++ 0 ∷ [])

-- the length of the longest payload that fits with its gate at `at`, 0 if none fits
abbrev pub room_at : ℕ → ℕ
room_at at = empty_area_room - at

-- ---- a cursor, which reads the groups one after the other

-- the bytes of a journal area, where it begins on the device, and the offset in it of the next group's gate
pub record Cursor : Type 0 where
  pub bytes : List ℕ
  pub start : ℕ
  pub at : ℕ

-- these payloads are still to be read
abbrev pub Lists : Cursor → List (List ℕ) → Type 0
Lists cursor payloads = (format : Format) × HoldsGroups format cursor.bytes 0 cursor.at payloads

-- ---- contents

-- the slot that counts, its format and generation, its image, and the payloads of its open groups
pub record Contents : Type 0 where
  pub slot : ℕ
  pub format : Format
  pub generation : ℕ
  pub image : List ℕ
  pub groups : List (List ℕ)

-- A slot is valid if its magic is that of a format and its gate, the last byte of its header, is open.
pub record IsValidAs (image : List ℕ) (slot : ℕ) (format : Format) : Type 0 where
  pub is_open : IsGateOpen image (gate_of slot)
  pub magic : number_at image (header_of slot) 8 ≡ magic_of format

abbrev pub generation_at : List ℕ → ℕ → ℕ
generation_at image slot = number_at image (header_of slot + 8) 8

abbrev pub image_length_at : List ℕ → ℕ → ℕ
image_length_at image slot = number_at image (header_of slot + 16) 4

-- A slot counts if it alone is valid, or has the greater generation of two valid ones. Of equal generations
-- slot 0 counts, whatever the formats.
pub record SlotCounts (image : List ℕ) (slot : ℕ) (format : Format) : Type 0 where
  pub is_slot : slot < 2
  pub valid : IsValidAs image slot format
  pub ahead : (f : Format) → IsValidAs image (other_than slot) f
      → (generation_at image (other_than slot) < generation_at image slot)
      ⊎ ((generation_at image (other_than slot) ≡ generation_at image slot) × (slot ≡ 0))

-- an image of the device's size holds these contents
pub record Holds (c : Contents) (image : List ℕ) : Type 0 where
  pub whole : length image ≡ device_bytes
  pub counts : SlotCounts image c.slot c.format
  pub generation_is : generation_at image c.slot ≡ c.generation
  pub numbered : 1 ≤ c.generation
  pub length_is : image_length_at image c.slot ≡ length c.image
  pub length_fits : IsImageLength c.format (length c.image)
  pub image_is : bytes_at image (image_of c.slot) (length c.image) ≡ c.image
  pub groups_are : HoldsGroups c.format image (area_of c.slot) 0 c.groups

-- the contents with one group more at the end
abbrev pub with_group : Contents → List ℕ → Contents
with_group c payload = record {
  slot = c.slot;
  format = c.format;
  generation = c.generation;
  image = c.image;
  groups = c.groups ++ payload ∷ [];
}

-- an image that holds one contents or the other
abbrev pub HoldsEither : Contents → Contents → List ℕ → Type 0
HoldsEither before after image = Holds before image ⊎ Holds after image

-- the image of an empty state, in both formats: place 0 (the number of entries so far), next array id 1, no
-- arrays, no sessions
abbrev pub empty_image : List ℕ
empty_image =
    0 ∷ 0 ∷ 0 ∷ 0 ∷ 0 ∷ 0 ∷ 0 ∷ 0 ∷ 0 ∷ 0 ∷ 0 ∷ 0 ∷ 0 ∷ 0 ∷ 0 ∷ 1 ∷ 0 ∷ 0 ∷ 0 ∷ 0 ∷ 0 ∷ 0 ∷ 0 ∷ 0 ∷ []

-- the contents of a new store
abbrev pub first_contents : Format → Contents
first_contents format = record { slot = 0; format = format; generation = 1; image = empty_image; groups = [] }
