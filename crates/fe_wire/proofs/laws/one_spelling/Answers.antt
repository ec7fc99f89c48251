use Rattle.fe_wire.proofs.FrameLaws.{one_front}
use Rattle.fe_wire.proofs.laws.one_spelling.Goals as goal

pub returns : goal.returns
returns c = one_front
