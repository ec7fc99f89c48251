use Rattle.std.proofs.Common.{length}
use Rattle.fe_wire.proofs.Pieces.{IsReadTo}
use Rattle.fe_wire.proofs.decoder.Decoder.feed.Given as goal

abbrev pub invariant-loop-rest : goal.invariant-loop-rest
invariant-loop-rest l = IsReadTo l.self-inside.state l.state l.fn.piece l.rest l.messages.items

abbrev pub decreases-loop-rest : goal.decreases-loop-rest
decreases-loop-rest l = length l.rest
