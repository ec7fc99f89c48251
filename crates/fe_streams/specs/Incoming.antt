-- What was read of a reader whose bytes are known.
use Rattle.std.specs.Prelude.{◌≡◌, ℕ, ◌-◌, List, [], length, take, Option, Some, None, option_map}
use Rattle.std.specs.Io.KnownBytes.{prepend_known}

-- a reader had the first bytes and has others left: the bytes that are not left
abbrev pub front_read : List ℕ → Option (List ℕ) → List ℕ
front_read first None = []
front_read first (Some left) = take (length first - length left) first

-- the bytes that were read, if they are known
abbrev pub bytes_read : Option (List ℕ) → Option (List ℕ) → Option (List ℕ)
bytes_read first left = option_map (λ bytes. front_read bytes left) first

-- the bytes that were read, and after them those that are left
abbrev pub read_and_left : Option (List ℕ) → Option (List ℕ) → Option (List ℕ)
read_and_left None left = None
read_and_left (Some first) left = prepend_known (front_read first left) left

-- What was read and what is left are all that there was.
abbrev pub HasRead : Option (List ℕ) → Option (List ℕ) → Type 0
HasRead first left = read_and_left first left ≡ first
