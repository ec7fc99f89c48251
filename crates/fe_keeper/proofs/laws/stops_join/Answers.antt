use Rattle.fe_keeper.proofs.Stops as stops
use Rattle.fe_keeper.proofs.laws.stops_join.Goals as goal

pub returns : goal.returns
returns c = stops.stops_join
