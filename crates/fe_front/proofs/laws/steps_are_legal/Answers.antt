use Rattle.fe_front.proofs.Leading.{steps_lead}
use Rattle.fe_front.proofs.laws.steps_are_legal.Goals as goal

pub returns : goal.returns
returns c = steps_lead
