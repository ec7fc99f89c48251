use Rattle.fe_desk.proofs.GivenAgain as again
use Rattle.fe_desk.proofs.laws.steps_are_given_again.Goals as goal

pub returns : goal.returns
returns g c = again.given_again
