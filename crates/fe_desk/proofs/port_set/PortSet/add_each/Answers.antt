use Rattle.std.proofs.Common.{◌∙◌, ℕ, ◌/◌, ◌%◌, slice_index_or, ap, arith}
use Rattle.std.specs.Int.{bit_at}
use Rattle.fe_desk.proofs.Bits.{has_either, has_other}
use Rattle.fe_desk.proofs.port_set.PortSet.add_each.Goals as goal

pub returns-clause-added : goal.returns-clause-added
returns-clause-added c = λ at is.
    let j : ℕ = at / 64 % 16 in
    ap (λ (w : ℕ). bit_at w (at % 64)) (c.loop-k.invariant.each j (omega (arith, c.loop-k-test.false)))
    ∙ has_other (slice_index_or c.args.self.now.words j 0) (slice_index_or c.args.others.now.words j 0) (at % 64) is

pub returns-clause-still : goal.returns-clause-still
returns-clause-still c = λ at is.
    let j : ℕ = at / 64 % 16 in
    ap (λ (w : ℕ). bit_at w (at % 64)) (c.loop-k.invariant.each j (omega (arith, c.loop-k-test.false)))
    ∙ has_either (slice_index_or c.args.self.now.words j 0) (slice_index_or c.args.others.now.words j 0) (at % 64) is
