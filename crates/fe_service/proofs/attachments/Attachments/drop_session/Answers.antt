use Rattle.std.proofs.Common.{not, refl, ap, sym, ◌∙◌}
use Rattle.fe_service.specs.within.Slots.{by_session}
use Rattle.fe_service.proofs.KeptLemmas.{slot-below, kept-waits}
use Rattle.fe_service.proofs.OwnerLemmas.{owned-kept}
use Rattle.fe_service.proofs.RequestLemmas.{count-in_slot, count-without_attachment, without-in_slot, without-without_attachment}
use Rattle.fe_service.proofs.attachments.Attachments.drop_session.Goals as goal

pub drop_session-requires : goal.drop_session-requires
drop_session-requires c = record { slot = slot-below _ _ _ _ _ c.self.invariant _ _ (sym c.in-Some.ensures) }

pub invariant_of-self : goal.invariant_of-self
invariant_of-self c =
    kept-waits _ _ _ _ _ c.self.invariant _ (rw c.drop_session.ensures.removed.members (owned-kept _ _ c.self.invariant.agree _ c.self.invariant.owned (λ b. not b) c.in-Some.slot))

pub returns : goal.returns
returns c =
    rw (← c.self.view_is) (record {
      count = c.drop_session.ensures.count ∙ sym (count-in_slot _ _ c.self.invariant.agree _ c.self.invariant.owned _ _ (sym c.in-Some.ensures));
      removed = ap (by_session c.self.inside.owners.items) c.drop_session.ensures.removed.members ∙ without-in_slot _ _ c.self.invariant.agree _ c.self.invariant.owned _ _ (sym c.in-Some.ensures);
      attachments = refl;
      arrays = c.drop_session.ensures.removed.arrays;
    })

pub returns-in_default : goal.returns-in_default
returns-in_default c =
    rw (← c.self.view_is) (record {
      count = sym (count-without_attachment _ _ c.self.invariant.agree _ c.self.invariant.owned _ (sym c.in_default.ensures));
      removed = sym (without-without_attachment _ _ c.self.invariant.agree _ c.self.invariant.owned _ (sym c.in_default.ensures));
      attachments = refl;
      arrays = refl;
    })
