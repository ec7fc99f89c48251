use Rattle.fe_waits.proofs.KeptLemmas.{kept-limits}
use Rattle.fe_waits.proofs.waits.Waits.len.Goals as goal

pub returns-clause-limits : goal.returns-clause-limits
returns-clause-limits c = rw (← c.self.view_is) (kept-limits _ _ _ _ c.self.invariant)
