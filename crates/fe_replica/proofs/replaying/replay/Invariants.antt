use Rattle.std.proofs.Common.{length}
use Rattle.fe_replica.proofs.Replayed.{IsReplaying}
use Rattle.fe_replica.proofs.replaying.replay.Given as goal

abbrev pub invariant-loop-rest : goal.invariant-loop-rest
invariant-loop-rest l = IsReplaying l.format l.payload l.rest l.fn.state l.state

abbrev pub decreases-loop-rest : goal.decreases-loop-rest
decreases-loop-rest l = length l.rest
