use Rattle.fe_codes.proofs.CodeLaws.{ops_both}
use Rattle.fe_codes.proofs.laws.ops_are_their_codes.Goals as goal

pub returns : goal.returns
returns c = ops_both
