use Rattle.fe_wire.proofs.StreamLaws.{one_reading}
use Rattle.fe_wire.proofs.laws.one_reading.Goals as goal

pub returns : goal.returns
returns c = one_reading
