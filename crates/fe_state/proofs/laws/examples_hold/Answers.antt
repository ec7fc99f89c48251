use Rattle.fe_state.proofs.Worked.{answers, effects, steps}
use Rattle.fe_state.proofs.laws.examples_hold.Goals as goal

pub returns-clause-answers : goal.returns-clause-answers
returns-clause-answers c = answers

pub returns-clause-effects : goal.returns-clause-effects
returns-clause-effects c = effects

pub returns-clause-entries : goal.returns-clause-entries
returns-clause-entries c = steps
