-- What a `Sample` says of the bytes of a file: it has some bytes that were written there, and their offset.
-- See `docs/store.md`, "The file".
use Rattle.std.specs.Prelude.{◌≡◌, ◌⊎◌, ℕ, ◌+◌, ◌-◌, ◌≤◌, List, length, take, min}
use Rattle.fe_disk.specs.Disk.{bytes_at, after_write}
use Rattle.fe_disk.specs.declared.sample.Sample.{Sample}

-- the bytes of a sample
abbrev pub taken : Sample → List ℕ
taken sample = take sample.length sample.bytes

-- The file has the bytes of the sample where they were taken.
abbrev pub Holds : List ℕ → Sample → Type 0
Holds image sample = bytes_at image sample.at sample.length ≡ taken sample

-- If the one sample was right before a write, the other is right after it.
abbrev pub StaysRight : ℕ → List ℕ → Sample → Sample → Type 0
StaysRight at bytes old new =
    (image : List ℕ) → at + length bytes ≤ length image → Holds image old
    → Holds (after_write image at bytes) new

-- The sample has the last of the bytes from an offset on, 96 or fewer.
pub record IsOf (at : ℕ) (bytes : List ℕ) (sample : Sample) : Type 0 where
  pub end : sample.at + sample.length ≡ at + length bytes
  pub count : sample.length ≡ min (length bytes) 96
  pub same : taken sample ≡ bytes_at bytes (length bytes - sample.length) sample.length

-- The range ends at or before the beginning of the sample, or begins at or after its end.
abbrev pub IsApart : Sample → ℕ → ℕ → Type 0
IsApart sample at n = (sample.at + sample.length ≤ at) ⊎ (at + n ≤ sample.at)
