use Rattle.fe_keeper.proofs.Damages.{told_apart}
use Rattle.fe_keeper.proofs.laws.stores_are_told_apart.Goals as goal

pub returns : goal.returns
returns c = told_apart
