-- What a call that appends bytes to a vector leaves, whether it finds memory or not.
-- See `docs/model.md`, "Records, groups and images".
use Rattle.std.specs.Prelude.{◌≡◌, ℕ, ◌+◌, ◌<◌, ◌≤◌, Bool, true, false, List, ◌++◌, length, take}

-- If it succeeds, the text comes after what was there. If it fails, there was no room for the text. In both
-- cases what was there stays, and the room never shrinks.
pub record Appends (old new : List ℕ) (room room' : ℕ) (ok : Bool) (text : List ℕ) : Type 0 where
  pub done : ok ≡ true → new ≡ old ++ text
  pub kept : take (length old) new ≡ old
  pub full : ok ≡ false → room < length old + length text
  pub grows : room ≤ room'
