-- How the fields of `Groups` give what its callers see (`docs/formats.md`, "Journal area").
use Rattle.std.specs.Prelude.{◌≡◌, ◌<◌, ◌≤◌, length}
use Rattle.fe_journal.specs.Contents.{Cursor}
use Rattle.fe_journal.specs.Layout.{area_bytes, device_bytes}
use Rattle.fe_journal.specs.declared.groups.Groups.TheInside.{Inside}

abbrev pub cursor_of : Inside → Cursor
cursor_of g = record { bytes = g.bytes.items; start = g.start; at = g.at }

-- the bytes of a whole journal area, an offset in it or at its end, and where it begins on the device
pub record IsCursor (g : Inside) : Type 0 where
  pub area : length g.bytes.items ≡ area_bytes
  pub within : g.at ≤ area_bytes
  pub start_within : g.start < device_bytes
