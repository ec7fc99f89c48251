use Rattle.fe_codes.proofs.CodeLaws.{tags_both}
use Rattle.fe_codes.proofs.laws.tags_are_their_codes.Goals as goal

pub returns : goal.returns
returns c = tags_both
