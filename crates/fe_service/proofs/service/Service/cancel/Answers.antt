use Rattle.std.proofs.Common.{◌≡◌, ℕ, is_some, refl, sym, ap, ◌∙◌}
use Rattle.std.specs.FinMap.{get, remove}
use Rattle.fe_waits.proofs.MemberLemmas.{remove_absent}
use Rattle.fe_service.specs.Service.{service_of}
use Rattle.fe_service.specs.within.Slots.{by_session}
use Rattle.fe_service.proofs.KeptLemmas.{slot-below, kept-waits}
use Rattle.fe_service.proofs.OwnerLemmas.{get-in_slot, get-without_attachment, owned-remove, by_session-remove}
use Rattle.fe_service.proofs.RequestLemmas.{waits-row}
use Rattle.fe_service.proofs.Staying.{same_service, fewer_service, within_remove}
use Rattle.fe_service.proofs.service.Service.cancel.Goals.{After-cancel}
use Rattle.fe_service.proofs.service.Service.cancel.Goals as goal

pub returns-in_default-clause-waited : goal.returns-in_default-clause-waited
returns-in_default-clause-waited c =
    rw (← c.self.view_is, ← c.attachments.view_is) (sym (ap is_some (get-without_attachment _ _ c.attachments.invariant.agree _ c.attachments.invariant.owned _ _ (sym c.in_default.ensures))))

pub returns-in_default-clause-cancelled : goal.returns-in_default-clause-cancelled
returns-in_default-clause-cancelled c =
    let old = c.self.inside.inner in
    let key : ℕ × ℕ = (c.args.session, c.args.number) in
    let none = ap (λ s. get s.waiting key) (sym c.attachments.view_is) ∙ get-without_attachment _ _ c.attachments.invariant.agree _ c.attachments.invariant.owned _ _ (sym c.in_default.ensures) in
    rw (← c.self.view_is) (λ i. record { state = old.state; attachments = old.attachments.attachments; waiting = sym (remove_absent old.attachments.waiting key none) i; pending = old.pending })

pub cancel-requires : goal.cancel-requires
cancel-requires c = record { slot = slot-below _ _ _ _ _ c.attachments.invariant _ _ (sym c.in-Some.ensures) }

pub invariant_of-attachments : goal.invariant_of-attachments
invariant_of-attachments c = kept-waits _ _ _ _ _ c.attachments.invariant _ (rw c.cancel.ensures.removed.members (owned-remove _ _ c.attachments.invariant.agree _ c.attachments.invariant.owned _))

-- the request no longer waits
removed : (c : After-cancel) → by_session c.attachments.inside.owners.items c.cancel.new.self.members ≡ remove c.self.inside.inner.attachments.waiting (c.args.session, c.args.number)
removed c =
    ap (by_session c.attachments.inside.owners.items) c.cancel.ensures.removed.members
    ∙ by_session-remove _ _ c.attachments.invariant.agree _ c.attachments.invariant.owned _ _ _ (sym c.in-Some.ensures)
    ∙ ap (λ s. remove s.waiting (c.args.session, c.args.number)) c.attachments.view_is

pub invariant_of-self-2 : goal.invariant_of-self-2
invariant_of-self-2 c =
    let old = c.self.inside.inner in
    let key : ℕ × ℕ = (c.args.session, c.args.number) in
    let fewer = fewer_service (service_of old) (remove old.attachments.waiting key) (within_remove old.attachments.waiting key) c.self.invariant.service in
    record {
      service = same_service _ _ refl (ap (λ s. s.attachments) c.attachments.view_is) (removed (goal.at.invariant_of-self-2 c).After-cancel) refl fewer;
      arrays = λ id. ap (λ m. get m id) c.cancel.ensures.removed.arrays ∙ ap (λ s. get s.arrays id) c.attachments.view_is ∙ c.self.invariant.arrays id;
    }

pub returns-clause-waited : goal.returns-clause-waited
returns-clause-waited c =
    rw (c.is_some.ensures, c.cancel.ensures.row, ← c.self.view_is, ← c.attachments.view_is)
    (waits-row _ _ _ ∙ ap is_some (sym (get-in_slot _ _ c.attachments.invariant.agree _ c.attachments.invariant.owned _ _ _ (sym c.in-Some.ensures))))

pub returns-clause-cancelled : goal.returns-clause-cancelled
returns-clause-cancelled c =
    let old = c.self.inside.inner in
    let attachments = ap (λ s. s.attachments) c.attachments.view_is in
    let waiting = removed (goal.at.returns-clause-cancelled c).After-cancel in
    rw (← c.self.view_is) (λ i. record { state = old.state; attachments = attachments i; waiting = waiting i; pending = old.pending })
