use Rattle.fe_wire.proofs.StreamLaws.{one_outcome}
use Rattle.fe_wire.proofs.laws.one_outcome.Goals as goal

pub returns : goal.returns
returns c = one_outcome
