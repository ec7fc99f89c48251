use Rattle.fe_codec.proofs.ImageOnly.{one_image}
use Rattle.fe_codec.proofs.laws.one_image_spelling.Goals as goal

pub returns : goal.returns
returns c = one_image
