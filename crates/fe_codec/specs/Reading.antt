-- Which entry a record, a row of bytes, spells: its fields are read, and then all bytes are compared with the
-- spelling of that entry (`docs/formats.md`, "Entry record").
use Rattle.std.specs.Prelude.{ℕ, ◌+◌, ◌^◌, Bool, true, ◌&&◌, List, length, take, drop, slice_index, Option}
use Rattle.std.specs.Prelude.{Some, None, nat_le, nat_lt, ◌==◌, if◌then◌else◌}
use Rattle.std.specs.Str.{bytes_eq}
use Rattle.std.specs.Int.{w32, w64}
use Rattle.fe_state.specs.declared.request.Request.{Request}
use Rattle.fe_state.specs.declared.request.Request.TheVariants.{Create, Find, Remove, Access}
use Rattle.fe_state.specs.declared.entry.Entry.{Entry}
use Rattle.fe_state.specs.declared.entry.Entry.TheVariants.{Attached, Closed, Settled, Finished}
use Rattle.fe_state.specs.Format.{entry_fits_format_1}
use Rattle.fe_format.specs.Layout.{name_bytes, record_bytes}
use Rattle.fe_codes.specs.Reading.{◌>>=◌, tag_of, op_of, answer_of}
use Rattle.fe_codec.specs.Record.{entry_spelling}
use Rattle.fe_format.specs.declared.format.Format.{Format}
use Rattle.fe_format.specs.declared.format.Format.TheVariants.{One, Two}
pub use Rattle.fe_fields.specs.Fields.{field_at}

-- the name in the row of a record, unless it is longer than the row
unfoldable pub name_of : Format → List ℕ → Option (List ℕ)
name_of format bytes =
    if nat_le (slice_index bytes 3) (name_bytes format) then Some (take (slice_index bytes 3) (drop 24 bytes))
    else None

unfoldable pub create_of : Format → List ℕ → Option Request
create_of format bytes = do
  name ← name_of format bytes
  tag ← tag_of (slice_index bytes 4)
  Some (Create name (field_at w32 bytes (24 + name_bytes format)) tag)

unfoldable pub find_of : Format → List ℕ → Option Request
find_of format bytes = do
  name ← name_of format bytes
  Some (Find name)

unfoldable pub access_of : Format → List ℕ → Option Request
access_of format bytes = do
  op ← op_of (slice_index bytes 1) (field_at w64 bytes 32)
  Some (Access (field_at w64 bytes 24) (field_at w32 bytes (24 + name_bytes format)) op
      (slice_index bytes 5 == 1))

unfoldable pub request_of : Format → List ℕ → Option Request
request_of format bytes =
    if slice_index bytes 1 == 1 then create_of format bytes
    else if slice_index bytes 1 == 2 then find_of format bytes
    else if slice_index bytes 1 == 3 then Some (Remove (field_at w64 bytes 24))
    else access_of format bytes

unfoldable pub finished_of : Format → List ℕ → Option Entry
finished_of format bytes = do
  request ← request_of format bytes
  answer ← answer_of (slice_index bytes 2) (field_at w64 bytes (32 + name_bytes format))
      (field_at w32 bytes (28 + name_bytes format))
  Some (Finished (field_at w64 bytes 8) (field_at w64 bytes 16) request answer)

-- the entry that these bytes spell, if they are a record at all; they have a record's length
unfoldable pub entry_of : Format → List ℕ → Option Entry
entry_of format bytes =
    if slice_index bytes 0 == 1 then Some (Attached (field_at w64 bytes 8) (field_at w64 bytes 16))
    else if slice_index bytes 0 == 2 then Some (Closed (field_at w64 bytes 8))
    else if slice_index bytes 0 == 3 then Some (Settled (field_at w64 bytes 8) (field_at w64 bytes 16))
    else if slice_index bytes 0 == 4 then finished_of format bytes
    else None

-- the entry's number or floor is below 2^63
abbrev pub is_numbered : Entry → Bool
is_numbered (Attached session floor) = nat_lt floor (2 ^ 63)
is_numbered (Closed session) = true
is_numbered (Settled session floor) = nat_lt floor (2 ^ 63)
is_numbered (Finished session number request answer) = nat_lt number (2 ^ 63)

-- the format has room for the entry
abbrev pub is_of_format : Format → Entry → Bool
is_of_format One entry = entry_fits_format_1 entry
is_of_format Two entry = true

-- the bytes are the entry's record
abbrev pub is_record : Format → Entry → List ℕ → Bool
is_record format entry bytes =
    is_numbered entry && is_of_format format entry && bytes_eq (entry_spelling format entry) bytes

-- the entry, if the bytes are its record
abbrev pub if_record : Format → List ℕ → Option Entry → Option Entry
if_record format bytes None = None
if_record format bytes (Some entry) = if is_record format entry bytes then Some entry else None

-- the entry whose record the bytes are, if there is one
unfoldable pub record_entry : Format → List ℕ → Option Entry
record_entry format bytes =
    if length bytes == record_bytes format then if_record format bytes (entry_of format bytes) else None
