use Rattle.std.proofs.Common.{refl, sym}
use Rattle.fe_waits.proofs.MemberLemmas.{remove_absent}
use Rattle.fe_waits.proofs.waits.Waits.cancel.Goals as goal

pub returns-in_err-node-clause-removed : goal.returns-in_err-node-clause-removed
returns-in_err-node-clause-removed c = record { members = sym (remove_absent _ _ c.in_err-node.ensures.absent); arrays = refl }
