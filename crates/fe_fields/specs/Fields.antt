-- Reading fields of fixed width: at an offset, or at the front together with the remaining bytes.
use Rattle.std.specs.Prelude.{◌≡◌, ℕ, List, [], ◌∷◌, length, take, drop, Option, Some, None, nat_lt}
use Rattle.std.specs.Prelude.{if◌then◌else◌}
use Rattle.std.specs.Int.{Width, byte_len, from_be_bytes}

-- what a function returned, a value seen through `view` or None, is what the definition of the reading gives
abbrev pub ReadsAs : {X Y : Type 0} → (X → Y) → Option X → Option Y → Type 0
ReadsAs view (Some x) read = read ≡ Some (view x)
ReadsAs view None read = read ≡ None

-- the number at an offset
abbrev pub field_at : Width → List ℕ → ℕ → ℕ
field_at w bytes at = from_be_bytes w (take (byte_len w) (drop at bytes))

-- the number at the front and the remaining bytes, or None if there are too few bytes
abbrev pub next_number : Width → List ℕ → Option (ℕ × List ℕ)
next_number w bytes = if nat_lt (length bytes) (byte_len w) then None else Some
    (from_be_bytes w (take (byte_len w) bytes), drop (byte_len w) bytes)

-- the first byte and the remaining ones, or None if there are none
abbrev pub next_byte : List ℕ → Option (ℕ × List ℕ)
next_byte [] = None
next_byte (b ∷ rest) = Some (b, rest)

-- the first n bytes and the remaining ones, or None if there are fewer
abbrev pub next_bytes : ℕ → List ℕ → Option (List ℕ × List ℕ)
next_bytes n bytes = if nat_lt (length bytes) n then None else Some (take n bytes, drop n bytes)
