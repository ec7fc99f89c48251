use Rattle.fe_state.proofs.Histories.{history-append, history-cut}
use Rattle.fe_state.proofs.laws.histories_join_and_cut.Goals as goal

pub returns : goal.returns
returns c = λ s front rest. (history-append s front rest, history-cut s front rest)
