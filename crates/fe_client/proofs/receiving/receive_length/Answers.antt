use Rattle.std.proofs.Common.{◌≡◌, ◌⊎◌, ◌<◌, ◌≤◌, ℕ, length, take, take_all, refl, arith, inl, inr}
use Rattle.fe_wire.specs.Stream.{length_field}
use Rattle.fe_client.proofs.Frames.{bad_length}
use Rattle.fe_client.specs.Ends.{Unanswered}
use Rattle.fe_client.proofs.receiving.receive_length.Goals as goal

-- no frame has that length
out_of_range : (n m : ℕ) → n ≡ m → (n ≡ 0) ⊎ ((n ≡ 0 → ⊥) × (262145 < n)) → (m ≡ 0) ⊎ (262145 < m)
out_of_range n m same (inl none) = inl (omega (arith, same, none))
out_of_range n m same (inr many) = let more = many.1 in inr (omega (arith, same, more))

pub returns-then-count-eq0-clause-err : goal.returns-then-count-eq0-clause-err
returns-then-count-eq0-clause-err g c =
    let head = c.receive_all.new.buffer in
    let h = c.read_u32-count.ensures in
    let four : 4 ≤ length head = omega (arith, c.receive_all.ensures.len, c.requires) in
    let front : take 4 head ≡ head = take_all 4 head (omega (arith, c.receive_all.ensures.len, c.requires)) in
    let same : c.read_u32-count.result ≡ length_field head = rw front (omega (arith, h)) in
    (head, c.in_ok-receive_all.ensures.ok, Unanswered.BadFrame refl (bad_length head four (out_of_range c.read_u32-count.result (length_field head) same c.then-count-eq0.either)))
