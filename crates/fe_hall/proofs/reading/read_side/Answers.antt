use Rattle.std.proofs.Common.{sym}
use Rattle.fe_hall.proofs.Handling.{stream_left}
use Rattle.fe_hall.proofs.Streams.{begins}
use Rattle.fe_hall.proofs.reading.read_side.Goals as goal

pub returns-clause-handled : goal.returns-clause-handled
returns-clause-handled g c = rw (sym c.begin_side-seat.ensures) λ is_known none.
    stream_left _ _ _ _ _ _ c.depart.ensures.untaken
    ((c.read_all-end.ensures.handled is_known).1 none
    (rw c.new-listed.ensures.items (begins c.with_version-decoder.result c.begin_side-seat.result.0 c.with_version-decoder.ensures.version c.with_version-decoder.ensures.begins)))

pub returns-clause-is_known : goal.returns-clause-is_known
returns-clause-is_known g c = λ is_known. (c.read_all-end.ensures.handled is_known).0

pub returns-clause-turns : goal.returns-clause-turns
returns-clause-turns g c = c.read_all-end.ensures.turns.0

pub returns-clause-reads : goal.returns-clause-reads
returns-clause-reads g c = c.read_all-end.ensures.turns.1

pub returns-clause-ended_as : goal.returns-clause-ended_as
returns-clause-ended_as g c = c.depart.ensures.ended_as c.read_all-end.ensures.ended_as

pub returns-clause-departed : goal.returns-clause-departed
returns-clause-departed g c = c.depart.ensures.departed

pub returns-clause-ended : goal.returns-clause-ended
returns-clause-ended g c = c.read_all-end.ensures.ended

pub returns-clause-failed : goal.returns-clause-failed
returns-clause-failed g c = c.read_all-end.ensures.failed
