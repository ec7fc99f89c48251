use Rattle.fe_waits.proofs.MemberLemmas.{members-row}
use Rattle.fe_waits.proofs.waits.Waits.row.Goals as goal

pub returns-clause-member : goal.returns-clause-member
returns-clause-member c = rw (← c.self.view_is) (members-row _ c.self.invariant.different _ _ c.get.ensures)
