use Rattle.std.proofs.Common.{◌≡◌, ◌≤◌, length, ℕ, ◌+◌, ◌-◌, List, ◌++◌, take, arith, ap, ◌∙◌, length-take-le}
use Rattle.std.proofs.lemmas.Slice.{take-put_mid}
use borrow.Rule.Slice.PartMut.{put_mid}
use Rattle.fe_wire.proofs.decoder_state.DecoderState.fill.Goals as goal

-- bytes written after the stored ones are stored after them
filled : (len count k : ℕ) (cells piece new : List ℕ) → new ≡ take count piece → count ≤ length piece → len ≤ length cells → take (len + count) (put_mid len k cells new) ≡ take len cells ++ take count piece
filled len count k cells piece new same fits room =
    let long : length new ≡ count = ap length same ∙ length-take-le count piece fits in
    take-put_mid len k cells new (len + count) (omega arith) room ∙ ap (λ (t : List ℕ). take len cells ++ t) same

pub returns-clause-held : goal.returns-clause-held
returns-clause-held c =
    filled c.args.self.now.len c.min-count.result (c.args.self.now.len + c.min-count.result - c.args.self.now.len) c.args.self.now.cells c.args.piece.now c.copy_from_slice.new.self
    c.copy_from_slice.ensures.after (omega arith) (omega arith)
