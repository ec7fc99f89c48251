use Rattle.fe_waits.proofs.KeptLemmas.{slot-ends}
use Rattle.fe_waits.proofs.waits.Waits.first_of.Goals as goal

pub returns-clause-of_slot : goal.returns-clause-of_slot
returns-clause-of_slot c = rw (← c.self.view_is) (slot-ends _ _ _ _ c.self.invariant c.args.slot c.at.result c.at.ensures).0

pub returns-clause-none : goal.returns-clause-none
returns-clause-none c = rw (← c.self.view_is) (slot-ends _ _ _ _ c.self.invariant c.args.slot c.at.result c.at.ensures).1
