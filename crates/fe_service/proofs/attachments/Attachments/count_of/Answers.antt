use Rattle.std.proofs.Common.{sym, ◌∙◌}
use Rattle.fe_service.proofs.KeptLemmas.{slot-below}
use Rattle.fe_service.proofs.RequestLemmas.{count-in_slot, count-without_attachment}
use Rattle.fe_service.proofs.attachments.Attachments.count_of.Goals as goal

pub count_of-requires : goal.count_of-requires
count_of-requires c = record { slot = slot-below _ _ _ _ _ c.self.invariant _ _ (sym c.in-Some.ensures) }

pub returns-in-Some : goal.returns-in-Some
returns-in-Some c = rw (← c.self.view_is) (c.count_of.ensures ∙ sym (count-in_slot _ _ c.self.invariant.agree _ c.self.invariant.owned _ _ (sym c.in-Some.ensures)))

pub returns-in-None : goal.returns-in-None
returns-in-None c = rw (← c.self.view_is) (sym (count-without_attachment _ _ c.self.invariant.agree _ c.self.invariant.owned _ (sym c.in-None.ensures)))
