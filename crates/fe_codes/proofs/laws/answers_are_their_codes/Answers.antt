use Rattle.fe_codes.proofs.CodeLaws.{answers_both}
use Rattle.fe_codes.proofs.laws.answers_are_their_codes.Goals as goal

pub returns : goal.returns
returns c = answers_both
