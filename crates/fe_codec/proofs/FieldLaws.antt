-- A number that was written is read again, and rows of zeros.
use Rattle.std.proofs.Common.{◌≡◌, ℕ, ◌-◌, ◌^◌, ◌<◌, ◌≤◌, List, ◌++◌, length, take, drop, replicate, refl, ap, ◌∙◌, arith}
use Rattle.std.specs.Int.{Width, w32, w64, byte_len, from_be_bytes, to_be_bytes}
use Rattle.std.proofs.lemmas.List.{take_at, drop_at, drop-replicate, take-replicate}
use Rattle.std.proofs.lemmas.Nat.{from_be_bytes-to_be_bytes_4, from_be_bytes-to_be_bytes_8}
use Rattle.fe_codec.specs.Reading.{field_at}

pub record IsWide (w : Width) (limit : ℕ) : Type 0 where
  pub len : (n : ℕ) → length (to_be_bytes w n) ≡ byte_len w
  pub again : (n : ℕ) → n < limit → from_be_bytes w (to_be_bytes w n) ≡ n

pub wide32 : IsWide w32 (2 ^ 32)
wide32 = record { len = λ n. refl; again = λ n lt. from_be_bytes-to_be_bytes_4 n lt }

pub wide64 : IsWide w64 (2 ^ 64)
wide64 = record { len = λ n. refl; again = λ n lt. from_be_bytes-to_be_bytes_8 n lt }

-- the number after a front of this length
pub number_again : (w : Width) (limit : ℕ) (wide : IsWide w limit) (front : List ℕ) (n : ℕ) (back : List ℕ) (at : ℕ) → length front ≡ at → n < limit → field_at w (front ++ (to_be_bytes w n ++ back)) at ≡ n
number_again w limit wide front n back at long lt =
    ap (λ (t : List ℕ). from_be_bytes w (take (byte_len w) t)) (drop_at front (to_be_bytes w n ++ back) at long)
    ∙ ap (from_be_bytes w) (take_at (to_be_bytes w n) back (byte_len w) (wide.len n))
    ∙ wide.again n lt

-- a part of a row of 32 zeros
pub zeros_part : (from to : ℕ) → to ≤ 32 → take {A = ℕ} (to - from) (drop from (replicate 32 0)) ≡ replicate (to - from) 0
zeros_part from to le = ap (λ (t : List ℕ). take (to - from) t) (drop-replicate from 32 0) ∙ take-replicate (to - from) (32 - from) 0 (omega arith)
