use Rattle.std.proofs.Common.{subst}
use Rattle.fe_state.proofs.Spent.{legal-flat, finishes_once}
use Rattle.fe_state.specs.History.{AreLegal}
use Rattle.fe_state.proofs.laws.numbers_finish_once.Goals as goal

pub returns : goal.returns
returns c = λ s groups history before between behind session number first second one other is.
    finishes_once s before between behind session number first second one other (subst (AreLegal s) is (legal-flat s groups history))
