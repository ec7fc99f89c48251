use Rattle.std.proofs.Common.{◌≡◌, List, ◌++◌, take}
use Rattle.fe_wire.specs.declared.client_message.ClientMessage.{ClientMessage}
use Rattle.fe_shared.specs.Seats.{CallSeatState}
use Rattle.fe_hall.specs.Reads.{AreHandled}
use Rattle.fe_hall.proofs.reading.Reading.take_piece.Given as goal

abbrev pub invariant-loop-message : goal.invariant-loop-message
invariant-loop-message g l = record {
  handled : (before : CallSeatState) (earlier : List ClientMessage) → AreHandled before l.initial.self.seat l.initial.self.listed.items earlier
      → AreHandled before l.self.seat l.self.listed.items (earlier ++ take l.message-index l.messages);
  own : l.self.seat.conn ≡ l.initial.self.seat.conn;
  decoder : l.self.decoder ≡ l.initial.self.decoder;
}
