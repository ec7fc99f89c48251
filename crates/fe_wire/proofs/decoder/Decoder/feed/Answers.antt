use Rattle.std.proofs.Common.{◌≡◌, [], ◌∷◌, length, true, sym, ap, ◌∙◌}
use Rattle.std.proofs.lemmas.List.{append-nil, take_rest}
use Rattle.std.proofs.lemmas.Bool.{eqb-true}
use Rattle.fe_wire.specs.Stream.{Consumes, Decoding}
use Rattle.fe_wire.proofs.Pieces.{begins, goes_on, completes, on_err, ends, ends_bad}
use Rattle.fe_wire.proofs.StreamLaws.{reads_past}
use Rattle.fe_wire.proofs.decoder.Decoder.feed.Goals as goal
use Rattle.fe_wire.proofs.decoder.Decoder.feed.Goals.{then-loop-rest-test+else-not-state, else-loop-rest-test}

pub returns-then-self-clause-reads : goal.returns-then-self-clause-reads
returns-then-self-clause-reads c = λ from before earlier h.
    let bad : c.args.self.now.is_bad ≡ true = ap (λ (d : Decoding). d.is_bad) (sym c.self.view_is) ∙ c.if-self.true in
    rw (c.new.ensures.items, append-nil earlier) (reads_past from c.args.self.now before c.args.piece.now earlier bad h)

pub loop-rest-init : goal.loop-rest-init
loop-rest-init c = rw c.new-messages.ensures.items (begins c.self.inside.state c.args.piece.now c.self.invariant)

pub loop-rest-preserved-in-Continue-1 : goal.loop-rest-preserved-in-Continue-1
loop-rest-preserved-in-Continue-1 c =
    goes_on c.self.inside.state c.loop-rest.state c.step-count.new.self c.args.piece.now c.loop-rest.rest.now _ c.loop-rest.messages.items (c.in-Some.message ∷ []) _ c.step-count.result.0
    c.loop-rest.invariant c.step-count.ensures.state (rw c.in-Some.is at c.step-count.ensures.reads) (take_rest c.loop-rest.rest.now c.step-count.result.0) c.in_ok-push.ensures.items

pub loop-rest-preserved : goal.loop-rest-preserved
loop-rest-preserved c =
    goes_on c.self.inside.state c.loop-rest.state c.step-count.new.self c.args.piece.now c.loop-rest.rest.now _ c.loop-rest.messages.items [] c.loop-rest.messages.items c.step-count.result.0
    c.loop-rest.invariant c.step-count.ensures.state (rw c.in_default.is at c.step-count.ensures.reads) (take_rest c.loop-rest.rest.now c.step-count.result.0) (sym (append-nil c.loop-rest.messages.items))

pub returns-in_err-push-clause-memory : goal.returns-in_err-push-clause-memory
returns-in_err-push-clause-memory c =
    rw (← c.self.view_is)
    (on_err c.from_residual.result
    (completes c.self.inside.state c.loop-rest.state c.step-count.new.self c.args.piece.now c.loop-rest.rest.now c.loop-rest.messages.items c.in-Some.message c.step-count.result.0 c.loop-rest.invariant (rw c.in-Some.is at c.step-count.ensures.reads)))

pub returns-clause-reads : goal.returns-clause-reads
returns-clause-reads c =
    let read : Consumes c.self.inside.state c.loop-rest.state c.args.piece.now c.loop-rest.messages.items =
    elim c.loop-rest-test.branch [
      | then-loop-rest-test+else-not-state w ↦ ends_bad c.self.inside.state c.loop-rest.state c.args.piece.now c.loop-rest.rest.now c.loop-rest.messages.items c.loop-rest.invariant w.if-not-state.false
      | else-loop-rest-test w ↦ ends c.self.inside.state c.loop-rest.state c.args.piece.now c.loop-rest.rest.now c.loop-rest.messages.items c.loop-rest.invariant (eqb-true (length c.loop-rest.rest.now) 0 (sym c.is_empty.ensures ∙ w.loop-rest-test.false))
    ] in
    rw (← c.self.view_is) read.reads
