use Rattle.std.proofs.Common.{◌≡◌, None, set, is_some, refl, ap, sym, ◌∙◌, arith}
use Rattle.std.specs.FinMap.{get, remove}
use Rattle.fe_service.specs.AttachmentsState.{NoneOfSession}
use Rattle.fe_service.specs.Service.{service_of}
use Rattle.fe_service.specs.within.Slots.{attachments_of, by_session}
use Rattle.fe_service.proofs.KeptLemmas.{leave-below, leave-room, kept-leave, waiting-leave}
use Rattle.fe_service.proofs.AttachmentLemmas.{is_occupant, attachments-remove}
use Rattle.fe_service.proofs.Staying.{same_service, left_service, closing_attached, none_closing}
use Rattle.fe_service.proofs.service.Service.leave.Goals.{After-unwrap-occupant}
use Rattle.fe_service.proofs.service.Service.leave.Goals as goal

pub unwrap-occupant-requires : goal.unwrap-occupant-requires
unwrap-occupant-requires c =
    let asked = rw (← c.self.view_is, ← c.attachments.view_is) at c.requires in
    ap is_some c.remove.ensures.value ∙ is_occupant _ _ (closing_attached _ _ asked)

-- no request of the session waits
idle : (c : After-unwrap-occupant) → NoneOfSession (by_session c.attachments.inside.owners.items c.attachments.inside.waits.members) c.args.session
idle c =
    let asked = rw (← c.self.view_is) at c.requires in
    let none = none_closing (service_of c.self.inside.inner) c.args.session c.self.invariant.service asked in
    λ number. ap (λ s. get s.waiting (c.args.session, number)) c.attachments.view_is ∙ none number

pub index_mut-requires : goal.index_mut-requires
index_mut-requires c =
    omega (arith, leave-below _ _ _ _ _ c.attachments.invariant _ _ (sym c.remove.ensures.value ∙ c.unwrap-occupant.ensures) (idle (goal.at.index_mut-requires c).After-unwrap-occupant), c.attachments.inside.owners.ok.0)

pub unwrap-requires : goal.unwrap-requires
unwrap-requires c =
    c.push.ensures.succeeds
    (omega (arith, leave-room _ _ _ _ _ c.attachments.invariant _ _ (sym c.remove.ensures.value ∙ c.unwrap-occupant.ensures) (idle (goal.at.unwrap-requires c).After-unwrap-occupant), c.attachments.inside.slots.ok.0))

pub invariant_of-attachments : goal.invariant_of-attachments
invariant_of-attachments c =
    let items = rw c.unwrap.ensures at c.push.ensures.items in
    rw (c.remove.ensures.removed, items)
    (kept-leave _ _ _ _ _ c.attachments.invariant _ _ (sym c.remove.ensures.value ∙ c.unwrap-occupant.ensures) (idle (goal.at.invariant_of-attachments c).After-unwrap-occupant) _ (omega (arith, c.push.ensures.capacity, c.attachments.invariant.reserved)))

-- the attachments without that of the session, and the same requests
left : (c : After-unwrap-occupant) → attachments_of c.remove.new.self ≡ remove c.self.inside.inner.attachments.attachments c.args.session
left c = ap attachments_of c.remove.ensures.removed ∙ attachments-remove _ _ ∙ ap (λ s. remove s.attachments c.args.session) c.attachments.view_is

same : (c : After-unwrap-occupant) → by_session (set c.attachments.inside.owners.items c.unwrap-occupant.result.slot None) c.attachments.inside.waits.members ≡ c.self.inside.inner.attachments.waiting
same c = waiting-leave _ _ _ _ _ c.attachments.invariant _ _ (sym c.remove.ensures.value ∙ c.unwrap-occupant.ensures) (idle c) ∙ ap (λ s. s.waiting) c.attachments.view_is

pub invariant_of-self : goal.invariant_of-self
invariant_of-self c =
    let asked = rw (← c.self.view_is) at c.requires in
    let at = (goal.at.invariant_of-self c).After-unwrap-occupant in
    record {
      service = same_service _ _ refl (left at) (same at) refl (left_service (service_of c.self.inside.inner) c.args.session asked c.self.invariant.service);
      arrays = λ id. ap (λ s. get s.arrays id) c.attachments.view_is ∙ c.self.invariant.arrays id;
    }

pub returns : goal.returns
returns c =
    let at = (goal.at.returns c).After-unwrap-occupant in
    rw (← c.self.view_is) (λ i. record { state = c.self.inside.inner.state; attachments = left at i; waiting = same at i; pending = c.self.inside.inner.pending })
