-- Which bytes of a store may be overwritten without loss (`docs/store.md`, "The file").
use Rattle.std.specs.Prelude.{◌≡◌, ◌⊎◌, ◌-◌, ◌<◌, ℕ, List, length, slice_index, slice_get, Some, nat_lt, ◌==◌}
use Rattle.std.specs.Prelude.{if◌then◌else◌}
use Rattle.fe_format.specs.declared.format.Format.TheVariants.{Two}
use Rattle.fe_journal.specs.Layout.{gate_of, image_of}
use Rattle.fe_journal.specs.Contents.{empty_image}
use Rattle.fe_journal.specs.Journal.{header_fields}

-- the byte that a new store of format 2 has at this offset: slot 0 has generation 1, an open gate and the
-- image of the first state
abbrev pub fresh_byte : ℕ → ℕ
fresh_byte at =
    if nat_lt at (image_of 0)
    then (if at == gate_of 0 then 1 else slice_index (header_fields Two 1 24) at)
    else slice_index empty_image (at - image_of 0)

-- the byte is zero, or is what formatting writes there, or is kept at the same place among the others
abbrev pub IsSpareAt : List ℕ → ℕ → ℕ → Type 0
IsSpareAt others at byte = (byte ≡ 0) ⊎ ((byte ≡ fresh_byte at) ⊎ (slice_get others at ≡ Some byte))

-- each byte is so
abbrev pub AreSpare : List ℕ → List ℕ → Type 0
AreSpare bytes others = (at : ℕ) → at < length bytes → IsSpareAt others at (slice_index bytes at)
