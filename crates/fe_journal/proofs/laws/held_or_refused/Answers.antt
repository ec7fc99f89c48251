use Rattle.fe_journal.proofs.Founds.{formatted, undamaged}
use Rattle.fe_journal.proofs.laws.held_or_refused.Goals as goal

pub returns : goal.returns
returns c = λ contents image holds. (formatted contents image holds, undamaged contents image holds)
