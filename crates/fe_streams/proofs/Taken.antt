-- What a read adds to what was read.
use Rattle.std.proofs.Common.{◌≡◌, ℕ, ◌-◌, List, ◌++◌, Option, Some, None, Result, Ok, Err, length, take, take_all, refl, sym, ap, ◌∙◌, arith, length-append, append_assoc}
use Rattle.std.proofs.lemmas.List.{take-append-le}
use Rattle.std.proofs.lemmas.Option.{none-some, same_Some}
use Rattle.std.specs.Io.KnownBytes.{Appends, Consumes, Keeps, ReadConsumes, WriteAppends}
use Rattle.fe_streams.specs.Incoming.{HasRead, bytes_read, front_read}

-- the bytes that are not left are those before them
before_left : (first front left : List ℕ) → first ≡ front ++ left → take (length first - length left) first ≡ front
before_left first front left is =
    let size = ap (length {A = ℕ}) is ∙ length-append front left in
    let count : length first - length left ≡ length front = omega (arith, size) in
    ap (λ n. take n first) count ∙ ap (take (length front)) is ∙ take-append-le (length front) front left (omega arith) ∙ take_all (length front) front (omega arith)

-- bytes that are consumed are added to what was read
pub read_more : (first old new : Option (List ℕ)) (bytes : List ℕ) → HasRead first old → Consumes old new bytes → HasRead first new × Appends (bytes_read first old) (bytes_read first new) bytes
read_more None old new bytes has more = (refl, tt)
read_more (Some first) None new bytes has more = absurd (none-some _ has)
read_more (Some first) (Some old) None bytes has more = absurd more
read_more (Some first) (Some old) (Some new) bytes has more =
    let read = front_read first (Some old) in
    let all : first ≡ (read ++ bytes) ++ new = sym (same_Some _ _ has) ∙ ap (λ t. read ++ t) more ∙ sym (append_assoc read bytes new) in
    let is = before_left first (read ++ bytes) new all in
    (ap Some (ap (λ t. t ++ new) is ∙ sym all), is)

-- bytes that stay add nothing
pub read_kept : (first old new : Option (List ℕ)) → HasRead first old → Keeps old new → HasRead first new × Keeps (bytes_read first old) (bytes_read first new)
read_kept None old new has kept = (refl, tt)
read_kept (Some first) None new has kept = absurd (none-some _ has)
read_kept (Some first) (Some old) None has kept = absurd kept
read_kept (Some first) (Some old) (Some new) has kept = (rw kept has, rw kept refl)

-- a read adds what it gave
pub read_adds : {E : Type 0} (first old new : Option (List ℕ)) (result : Result ℕ E) (buffer : List ℕ) → HasRead first old → ReadConsumes old new result buffer → HasRead first new × WriteAppends (bytes_read first old) (bytes_read first new) result buffer
read_adds first old new (Ok count) buffer has gave = read_more first old new (take count buffer) has gave.0
read_adds first old new (Err failed) buffer has gave = read_kept first old new has gave
