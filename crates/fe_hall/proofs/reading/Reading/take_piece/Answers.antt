use Rattle.std.proofs.Common.{◌++◌, refl, ◌∙◌, ap, arith}
use Rattle.fe_shared.specs.Seats.{CallSeatState}
use Rattle.fe_hall.proofs.Handling.{handled_next, handled_none, handled_still, handled_whole}
use Rattle.fe_hall.proofs.Streams.{piece_among, piece_bad, piece_taken, piece_unread, fault_none, on_none}
use Rattle.fe_hall.specs.Reads.{HandlesStream, IsAt}
use Rattle.fe_hall.proofs.reading.Reading.take_piece.Goals as goal

pub returns-in-Err-clause-handled : goal.returns-in-Err-clause-handled
returns-in-Err-clause-handled g c = λ before bytes at.
    piece_unread before c.args.self.now.seat c.args.self.now.listed.items bytes c.args.piece.now c.args.self.now.decoder (λ i. omega (arith, c.type_inv.piece i)) c.in-Err.ensures.memory at c.in-Err.error

pub loop-message-init : goal.loop-message-init
loop-message-init g c = record {
  handled = λ before earlier h. handled_none before c.args.self.now.seat c.args.self.now.listed.items earlier c.as_slice-messages.result.now h;
  own = refl;
  decoder = refl;
}

pub loop-message-preserved : goal.loop-message-preserved
loop-message-preserved g c =
    let l = c.loop-message.self in
    let n = c.take-in-loop-message.new.self in record {
      handled = λ before earlier h.
          handled_next before l.seat n.seat l.listed.items n.listed.items earlier c.as_slice-messages.result.now c.loop-message.message-index c.message-item.result
          c.loop-message-test.true c.message-item.is c.in_default.ensures.seat c.in_default.ensures.listed (c.loop-message.invariant.handled before earlier h);
      own = ap (λ (s : CallSeatState). s.conn) c.in_default.ensures.seat.1 ∙ c.loop-message.invariant.own;
      decoder = c.take-in-loop-message.ensures.decoder ∙ c.loop-message.invariant.decoder;
    }

pub returns-in-Some-clause-handled : goal.returns-in-Some-clause-handled
returns-in-Some-clause-handled g c = λ before bytes at.
    let l = c.loop-message.self in
    let n = c.take-in-loop-message.new.self in
    piece_among before c.args.self.now.seat n.seat c.args.self.now.listed.items n.listed.items bytes c.args.piece.now c.args.self.now.decoder c.feed.new.self
    c.as_slice-messages.result.now c.in-Ok.fed.messages.items (λ i. omega (arith, c.type_inv.piece i)) at c.feed.ensures.version c.in-Ok.ensures.reads c.as_slice-messages.ensures.value c.in-Some.end
    (λ earlier h. record {
      breaks = c.in-Some.ensures.end;
      count = c.loop-message.message-index;
      fewer = c.loop-message-test.true;
      handled = handled_still before l.seat n.seat l.listed.items n.listed.items _ c.in-Some.ensures.untaken.0 c.in-Some.ensures.untaken.1 (c.loop-message.invariant.handled before earlier h);
    })

pub returns-in-Some-clause-own : goal.returns-in-Some-clause-own
returns-in-Some-clause-own g c = c.in-Some.ensures.untaken.0.conn ∙ c.loop-message.invariant.own

pub returns-in_err-fault-clause-handled : goal.returns-in_err-fault-clause-handled
returns-in_err-fault-clause-handled g c = λ before bytes at.
    let l = c.loop-message.self in
    on_none c.from_residual.result (IsAt (bytes ++ c.args.piece.now) before l.decoder l.seat l.listed.items) (HandlesStream (bytes ++ c.args.piece.now) before l.seat l.listed.items)
    c.from_residual.ensures
    (piece_taken before c.args.self.now.seat l.seat c.args.self.now.listed.items l.listed.items bytes c.args.piece.now c.args.self.now.decoder c.feed.new.self
    c.as_slice-messages.result.now c.in-Ok.fed.messages.items (λ i. omega (arith, c.type_inv.piece i)) at c.feed.ensures.version c.in-Ok.ensures.reads c.as_slice-messages.ensures.value l.decoder c.loop-message.invariant.decoder
    (fault_none c.feed.new.self c.in-Ok.fed.fault c.in-Ok.ensures.fault c.in_err-fault.was)
    (λ earlier h. handled_whole before l.seat l.listed.items earlier c.as_slice-messages.result.now c.loop-message.message-index c.loop-message-test.false (c.loop-message.invariant.handled before earlier h)))

pub returns-clause-handled : goal.returns-clause-handled
returns-clause-handled g c = λ before bytes at.
    let l = c.loop-message.self in
    piece_bad before c.args.self.now.seat l.seat c.args.self.now.listed.items l.listed.items bytes c.args.piece.now c.args.self.now.decoder c.feed.new.self
    c.as_slice-messages.result.now c.in-Ok.fed.messages.items (λ i. omega (arith, c.type_inv.piece i)) at c.feed.ensures.version c.in-Ok.ensures.reads c.as_slice-messages.ensures.value
    c.in-Ok.fed.fault c.in_ok-fault.fault c.in-Ok.ensures.fault c.in_ok-fault.was
    (λ earlier h. handled_whole before l.seat l.listed.items earlier c.as_slice-messages.result.now c.loop-message.message-index c.loop-message-test.false (c.loop-message.invariant.handled before earlier h))
