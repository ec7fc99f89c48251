use Rattle.std.proofs.Common.{◌≡◌, ◌∙◌, ℕ, ◌/◌, ◌%◌, replicate, slice_index_or, ap, arith}
use Rattle.std.specs.Int.{bit_at}
use Rattle.std.proofs.lemmas.List.{get_or-replicate}
use Rattle.std.proofs.lemmas.Nat.Bits.{bit_at_ones}
use Rattle.fe_desk.proofs.port_set.PortSet.add_all.Goals as goal

pub returns : goal.returns
returns c = λ at.
    let is : slice_index_or (replicate 16 18446744073709551615) (at / 64 % 16) 0 ≡ 18446744073709551615 = get_or-replicate 16 (at / 64 % 16) 18446744073709551615 0 (omega arith) in
    ap (λ (w : ℕ). bit_at w (at % 64)) is ∙ bit_at_ones 64 (at % 64) (omega arith)
