use Rattle.fe_codec.proofs.GroupLaws.{one_group}
use Rattle.fe_codec.proofs.laws.one_group_spelling.Goals as goal

pub returns : goal.returns
returns c = one_group
