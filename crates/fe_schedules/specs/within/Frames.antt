-- The frames at the front of some bytes (`docs/formats.md`, "Frames").
use Rattle.std.specs.Prelude.{ℕ, ◌+◌, List, length, take, drop, Option, Some, None, nat_lt, if◌then◌else◌}
use Rattle.fe_wire.specs.Stream.{length_field}

-- the frame at the front, with the bytes of its length, and what follows it; None if no whole frame is there
unfoldable pub frame_at : List ℕ → Option (List ℕ × List ℕ)
frame_at bytes =
    if nat_lt (length bytes) 4 then None
    else if nat_lt (length bytes) (4 + length_field bytes) then None
    else Some (take (4 + length_field bytes) bytes, drop (4 + length_field bytes) bytes)
