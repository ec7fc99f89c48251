-- Where a store's parts lie on its device, in bytes. `docs/formats.md`, "Device", has the tables.
use Rattle.std.specs.Prelude.{◌≡◌, ◌≢◌, ℕ, ◌+◌, ◌-◌, ◌*◌, List, slice_index}
use Rattle.byteorder.specs.Endian.{big_number}
use Rattle.fe_disk.specs.Disk.{bytes_at}

-- the length of a slot's header, whose last byte is its gate
abbrev pub header_bytes : ℕ
header_bytes = 4096

-- where a slot's journal area begins in the slot, after its header and the room for its image
abbrev pub area_begin : ℕ
area_begin = 1052672

-- the length of a slot's journal area
abbrev pub area_bytes : ℕ
area_bytes = 1048576

-- the length of a slot: its header, the room for its image, and its journal area
abbrev pub slot_bytes : ℕ
slot_bytes = 2101248

-- the length of a device, which has two slots, one after the other
abbrev pub device_bytes : ℕ
device_bytes = 4202496

-- the longest payload that an empty journal area has room for, with its gate, its length and one more gate
abbrev pub empty_area_room : ℕ
empty_area_room = 1048570

-- the most bytes of an image that are written at a time
abbrev pub slice_bytes : ℕ
slice_bytes = 65536

-- where a slot, and its header, begins
abbrev pub header_of : ℕ → ℕ
header_of slot = slot_bytes * slot

-- where a slot's gate is, the last byte of its header
abbrev pub gate_of : ℕ → ℕ
gate_of slot = slot_bytes * slot + (header_bytes - 1)

-- where a slot's image begins
abbrev pub image_of : ℕ → ℕ
image_of slot = slot_bytes * slot + header_bytes

-- where a slot's journal area, and the gate of its first group, begins
abbrev pub area_of : ℕ → ℕ
area_of slot = slot_bytes * slot + area_begin

-- the other slot
abbrev pub other_than : ℕ → ℕ
other_than slot = 1 - slot

-- the number in the n bytes from `at` on, the highest byte first
abbrev pub number_at : List ℕ → ℕ → ℕ → ℕ
number_at bytes at n = big_number n (bytes_at bytes at n)

-- A gate is open if its byte is 1, and shut otherwise.
abbrev pub IsGateOpen : List ℕ → ℕ → Type 0
IsGateOpen bytes gate = slice_index bytes gate ≡ 1

abbrev pub IsGateShut : List ℕ → ℕ → Type 0
IsGateShut bytes gate = slice_index bytes gate ≢ 1
