use Rattle.fe_front.proofs.Few.{steps_few}
use Rattle.fe_front.proofs.laws.steps_are_few.Goals as goal

pub returns : goal.returns
returns c = steps_few
