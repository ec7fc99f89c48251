use Rattle.fe_front.proofs.BoxLaws.{short_always}
use Rattle.fe_front.proofs.laws.boxes_stay_short.Goals as goal

pub returns : goal.returns
returns c = short_always
