use Rattle.fe_desk.proofs.ManyStops as stops
use Rattle.fe_desk.proofs.laws.stops_are_lives.Goals as goal

pub returns : goal.returns
returns g c = stops.stops_are_lives c.images_stand_for_one.ensures
