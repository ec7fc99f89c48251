use Rattle.fe_state.proofs.OtherWordLemmas.{performed_beside}
use Rattle.fe_state.proofs.laws.other_words_stay.Goals as goal

pub returns : goal.returns
returns c = performed_beside
