use Rattle.fe_codec.proofs.ImageOnly.{spellings_read}
use Rattle.fe_codec.proofs.laws.spelled_images_are_read.Goals as goal

pub returns : goal.returns
returns c = spellings_read
