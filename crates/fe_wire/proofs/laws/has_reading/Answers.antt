use Rattle.fe_wire.proofs.Existence.{each_has_reading}
use Rattle.fe_wire.proofs.laws.has_reading.Goals as goal

pub returns : goal.returns
returns c = each_has_reading
