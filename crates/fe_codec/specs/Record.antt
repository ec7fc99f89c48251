-- The one spelling of each entry, a step of the history, as a record; which entries have one
-- (`docs/formats.md`, "Entry record").
use Rattle.std.specs.Prelude.{◌≡◌, ℕ, ◌-◌, ◌*◌, ◌%◌, ◌<◌, ◌≤◌, ◌^◌, Bool, true, false, List, [], ◌∷◌, ◌++◌}
use Rattle.std.specs.Prelude.{length, replicate, flat_map}
use Rattle.std.specs.List.{AllByRecursion}
use Rattle.std.specs.Int.{w32, w64, to_be_bytes}
use Rattle.fe_state.specs.Format.{entry_fits_format_1}
use Rattle.fe_state.specs.Name.{padded}
use Rattle.fe_state.specs.Limits.{longest_name}
use Rattle.fe_state.specs.declared.request.Request.{Request}
use Rattle.fe_state.specs.declared.request.Request.TheVariants.{Create, Find, Remove, Access}
use Rattle.fe_state.specs.declared.entry.Entry.{Entry}
use Rattle.fe_state.specs.declared.entry.Entry.TheVariants.{Attached, Closed, Settled, Finished}
use Rattle.fe_codes.specs.Codes.{tag_code, op_code, operand_of, answer_code, answer_number, answer_length}
use Rattle.fe_format.specs.Layout.{name_bytes, record_bytes, group_records}
use Rattle.fe_format.specs.declared.format.Format.{Format}
use Rattle.fe_format.specs.declared.format.Format.TheVariants.{One, Two}

-- the first eight bytes; the last two of them are unused
abbrev pub codes_field : ℕ → ℕ → ℕ → ℕ → ℕ → ℕ → List ℕ
codes_field kind request answer count tag flag = kind ∷ request ∷ answer ∷ count ∷ tag ∷ flag ∷ 0 ∷ 0 ∷ []

-- a name, with zeros after it
abbrev pub name_row : Format → List ℕ → List ℕ
name_row format name = padded (name_bytes format) name

-- a name as images have it: its length and its row
abbrev pub name_field : Format → List ℕ → List ℕ
name_field format name = length name ∷ name_row format name

-- an array and an operand, with zeros after them
abbrev pub array_row : Format → ℕ → ℕ → List ℕ
array_row format array operand =
    to_be_bytes w64 array ++ to_be_bytes w64 operand ++ replicate (name_bytes format - 16) 0

-- the flag: 1 for an access that must not wait
abbrev pub flag_code : Bool → ℕ
flag_code false = 0
flag_code true = 1

-- the first eight bytes of the record of a request that finished
abbrev pub request_codes : ℕ → Request → List ℕ
request_codes answer (Create name size tag) = codes_field 4 1 answer (length name) (tag_code tag) 0
request_codes answer (Find name) = codes_field 4 2 answer (length name) 0 0
request_codes answer (Remove array) = codes_field 4 3 answer 0 0 0
request_codes answer (Access array index op no_wait) =
    codes_field 4 (op_code op) answer 0 0 (flag_code no_wait)

-- what a request names: an array by its name, or by its id and then an operand, 0 for a remove
abbrev pub request_row : Format → Request → List ℕ
request_row format (Create name size tag) = name_row format name
request_row format (Find name) = name_row format name
request_row format (Remove array) = array_row format array 0
request_row format (Access array index op no_wait) = array_row format array (operand_of op)

-- the length or the index that a request has, 0 if it has neither
abbrev pub request_size : Request → ℕ
request_size (Create name size tag) = size
request_size (Find name) = 0
request_size (Remove array) = 0
request_size (Access array index op no_wait) = index

-- a record: codes, session, number or floor, row, length or index, the answer's length and number, and eight
-- unused bytes
abbrev pub record_spelling : List ℕ → ℕ → ℕ → List ℕ → ℕ → ℕ → ℕ → List ℕ
record_spelling codes session number row size answer_size answer_value =
    codes ++ to_be_bytes w64 session ++ to_be_bytes w64 number ++ row ++ to_be_bytes w32 size
    ++ to_be_bytes w32 answer_size ++ to_be_bytes w64 answer_value ++ replicate 8 0

-- a record with nothing after the number or the floor
abbrev pub short_spelling : Format → ℕ → ℕ → ℕ → List ℕ
short_spelling format kind session number =
    record_spelling (codes_field kind 0 0 0 0 0) session number (replicate (name_bytes format) 0) 0 0 0

abbrev pub entry_spelling : Format → Entry → List ℕ
entry_spelling format (Attached session floor) = short_spelling format 1 session floor
entry_spelling format (Closed session) = short_spelling format 2 session 0
entry_spelling format (Settled session floor) = short_spelling format 3 session floor
entry_spelling format (Finished session number request answer) =
    record_spelling (request_codes (answer_code answer) request) session number (request_row format request)
    (request_size request) (answer_length answer) (answer_number answer)

-- the format has room for the entry
abbrev pub IsOfFormat : Format → Entry → Type 0
IsOfFormat One entry = entry_fits_format_1 entry ≡ true
IsOfFormat Two entry = Unit {0}

-- a name that the field of names in the format has room for, if it has at most 32 bytes
abbrev pub IsShort : Format → List ℕ → Type 0
IsShort One name = length name ≤ 16
IsShort Two name = Unit {0}

-- the format has room for the name in a request, if it has one
abbrev pub HasRow : Format → Request → Type 0
HasRow format (Create name size tag) = IsShort format name
HasRow format (Find name) = IsShort format name
HasRow format (Remove array) = Unit {0}
HasRow format (Access array index op no_wait) = Unit {0}

-- the format has room for the name in an entry's request, if it has one
abbrev pub HasRoomForEntry : Format → Entry → Type 0
HasRoomForEntry format (Attached session floor) = Unit {0}
HasRoomForEntry format (Closed session) = Unit {0}
HasRoomForEntry format (Settled session floor) = Unit {0}
HasRoomForEntry format (Finished session number request answer) = HasRow format request

-- the entry's number or floor is below 2^63
abbrev pub IsNumbered : Entry → Type 0
IsNumbered (Attached session floor) = floor < 2 ^ 63
IsNumbered (Closed session) = Unit {0}
IsNumbered (Settled session floor) = floor < 2 ^ 63
IsNumbered (Finished session number request answer) = number < 2 ^ 63

-- an entry that can be put: the format has room for it, and its number or floor is below 2^63
pub record CanPut (format : Format) (entry : Entry) : Type 0 where
  pub of_format : IsOfFormat format entry
  pub numbered : IsNumbered entry

-- each field of a request fits into the bytes that a record of format 2 has for it
abbrev pub RequestFits : Request → Type 0
RequestFits (Create name size tag) = (length name ≤ longest_name) × (size < 2 ^ 32)
RequestFits (Find name) = length name ≤ longest_name
RequestFits (Remove array) = array < 2 ^ 64
RequestFits (Access array index op no_wait) = (array < 2 ^ 64) × (index < 2 ^ 32) × (operand_of op < 2 ^ 64)

-- each field of an entry except its number or floor fits into the bytes that a record of format 2 has for it
abbrev pub FieldsFit : Entry → Type 0
FieldsFit (Attached session floor) = session < 2 ^ 64
FieldsFit (Closed session) = session < 2 ^ 64
FieldsFit (Settled session floor) = session < 2 ^ 64
FieldsFit (Finished session number request answer) =
    (session < 2 ^ 64) × RequestFits request × (answer_number answer < 2 ^ 64)
    × (answer_length answer < 2 ^ 32)

-- an entry that has a record in the format
pub record FitsRecord (format : Format) (entry : Entry) : Type 0 where
  pub of_format : IsOfFormat format entry
  pub numbered : IsNumbered entry
  pub fields : FieldsFit entry

-- the records of a group, one after another
abbrev pub group_spelling : Format → List Entry → List ℕ
group_spelling format entries = flat_map (entry_spelling format) entries

-- each entry of a group has a record in the format
abbrev pub FitsGroup : Format → List Entry → Type 0
FitsGroup format entries = AllByRecursion (FitsRecord format) entries

-- the lengths that a group may have, in bytes: those of 1 to `group_records` whole records
pub record IsGroupSize (format : Format) (size : ℕ) : Type 0 where
  pub whole : size % record_bytes format ≡ 0
  pub least : record_bytes format ≤ size
  pub most : size ≤ group_records format * record_bytes format

-- the bytes are the group of these entries, 1 to `group_records` of them
pub record IsGroupOf (format : Format) (entries : List Entry) (bytes : List ℕ) : Type 0 where
  pub least : 1 ≤ length entries
  pub most : length entries ≤ group_records format
  pub fits : FitsGroup format entries
  pub spelled : bytes ≡ group_spelling format entries
