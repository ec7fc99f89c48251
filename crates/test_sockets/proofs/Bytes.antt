-- A byte at the front of a buffer.
use Rattle.std.proofs.Common.{◌≡◌, ℕ, ◌<◌, List, [], ◌∷◌, length, take, slice_set, refl, arith}

pub one_set : (buffer : List ℕ) (byte : ℕ) → 0 < length buffer → take 1 (slice_set buffer 0 byte) ≡ byte ∷ []
one_set [] byte some = absurd (omega (arith, some))
one_set (x ∷ xs) byte some = refl
