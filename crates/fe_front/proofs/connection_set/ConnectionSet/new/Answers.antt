use Rattle.std.proofs.Common.{false}
use Rattle.fe_front.proofs.Remainders.{all_alike}
use Rattle.fe_front.proofs.connection_set.ConnectionSet.new.Goals as goal

pub returns : goal.returns
returns c = all_alike false
