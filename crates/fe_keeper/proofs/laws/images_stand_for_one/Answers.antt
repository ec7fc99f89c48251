use Rattle.fe_keeper.proofs.Standing as standing
use Rattle.fe_keeper.proofs.laws.images_stand_for_one.Goals as goal

pub returns : goal.returns
returns c = standing.images_stand_for_one
