use Rattle.std.proofs.Common.{true}
use Rattle.fe_front.proofs.Remainders.{all_alike}
use Rattle.fe_front.proofs.connection_set.ConnectionSet.add_all.Goals as goal

pub returns : goal.returns
returns c = all_alike true
