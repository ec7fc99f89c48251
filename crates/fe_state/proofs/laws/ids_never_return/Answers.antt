use Rattle.fe_state.proofs.IdLemmas.{ids_new}
use Rattle.fe_state.proofs.laws.ids_never_return.Goals as goal

pub returns : goal.returns
returns c = ids_new
