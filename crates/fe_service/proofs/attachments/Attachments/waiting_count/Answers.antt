use Rattle.std.proofs.Common.{sym, ◌∙◌}
use Rattle.fe_service.proofs.OwnerLemmas.{len-by_session}
use Rattle.fe_service.proofs.RequestLemmas.{kept-limits}
use Rattle.fe_service.proofs.attachments.Attachments.waiting_count.Goals as goal

pub returns-clause-count : goal.returns-clause-count
returns-clause-count c = rw (← c.self.view_is) (c.len.ensures.len ∙ sym (len-by_session _ _ c.self.invariant.agree _ c.self.invariant.owned))

pub returns-clause-limits : goal.returns-clause-limits
returns-clause-limits c = rw (← c.self.view_is) (kept-limits _ _ _ _ _ c.self.invariant c.len.ensures.limits)
