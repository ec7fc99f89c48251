-- The two formats of a store: the sizes in which they differ, and the lengths that they allow. A slot, half
-- of a store, has an image of the server's state, and groups, each the records of entries that were stored
-- together: the group's payload. See `docs/model.md`, "The two formats".
use Rattle.std.specs.Prelude.{◌≡◌, ℕ, ◌%◌, ◌≤◌}
use Rattle.fe_format.specs.declared.format.Format.{Format}
use Rattle.fe_format.specs.declared.format.Format.TheVariants.{One, Two}

-- the magic of a slot's header: the text FEMEMST1 or FEMEMST2, as a number
abbrev pub magic_of : Format → ℕ
magic_of One = 0x46454d454d535431
magic_of Two = 0x46454d454d535432

-- how many bytes the field of a name has
abbrev pub name_bytes : Format → ℕ
name_bytes One = 16
name_bytes Two = 32

-- how many bytes the record of an entry has
abbrev pub record_bytes : Format → ℕ
record_bytes One = 64
record_bytes Two = 80

-- the most records that a group has
abbrev pub group_records : Format → ℕ
group_records One = 16383
group_records Two = 13107

-- the length of the longest payload, in bytes: that of `group_records` records
abbrev pub longest_payload : Format → ℕ
longest_payload One = 1048512
longest_payload Two = 1048560

-- the length of the longest image, in bytes: its first fields, 64 arrays with 65,536 words in all, and 64
-- sessions with 32 answers each
abbrev pub longest_image : Format → ℕ
longest_image One = 740440
longest_image Two = 774232

-- the length of a payload: whole records, one at least, and at most the longest
pub record IsPayloadLength (format : Format) (length : ℕ) : Type 0 where
  pub some : 1 ≤ length
  pub within : length ≤ longest_payload format
  pub whole : length % record_bytes format ≡ 0

-- the length of an image: at least its first four fields, 24 bytes (`docs/formats.md`, "Image"), and at most
-- the longest
pub record IsImageLength (format : Format) (length : ℕ) : Type 0 where
  pub some : 24 ≤ length
  pub within : length ≤ longest_image format
