use Rattle.std.proofs.Common.{◌≡◌, take}
use Rattle.fe_replica.specs.Replaying.{AreTaken}
use Rattle.fe_replica.proofs.taking.take.Given as goal

abbrev pub invariant-loop-entry : goal.invariant-loop-entry
invariant-loop-entry l = record {
  taken : AreTaken l.fn.state (take l.entry-index l.entries) l.state l.log;
  room : l.log.room ≡ l.fn.log.room;
}
