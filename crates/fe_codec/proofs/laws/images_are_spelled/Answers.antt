use Rattle.fe_codec.proofs.ImageFound.{images_spelled}
use Rattle.fe_codec.proofs.laws.images_are_spelled.Goals as goal

pub returns : goal.returns
returns c = images_spelled
