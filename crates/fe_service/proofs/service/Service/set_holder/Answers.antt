use Rattle.std.proofs.Common.{refl, ap, ◌∙◌, arith}
use Rattle.std.specs.FinMap.{get}
use Rattle.fe_service.specs.AttachmentsState.{with_holder}
use Rattle.fe_service.specs.Service.{service_of}
use Rattle.fe_service.proofs.AttachmentLemmas.{is_occupant, attachments-holder}
use Rattle.fe_service.proofs.KeptLemmas.{kept-with_others}
use Rattle.fe_service.proofs.Staying.{same_service, held_service}
use Rattle.fe_service.proofs.service.Service.set_holder.Goals as goal

pub get_mut-requires : goal.get_mut-requires
get_mut-requires c = let asked = rw (← c.self.view_is, ← c.attachments.view_is) at c.requires in (omega arith, is_occupant _ _ asked)

pub invariant_of-attachments : goal.invariant_of-attachments
invariant_of-attachments c = kept-with_others _ _ _ _ _ c.attachments.invariant _ _ _ c.get_mut.ensures.value refl

pub invariant_of-self : goal.invariant_of-self
invariant_of-self c =
    let holder = attachments-holder _ _ _ c.get_mut.ensures.value c.args.holder ∙ ap (λ s. with_holder s.attachments c.args.session c.args.holder) c.attachments.view_is in
    let asked = rw (← c.self.view_is) at c.requires in
    record {
      service = same_service _ _ refl holder (ap (λ s. s.waiting) c.attachments.view_is) refl (held_service (service_of c.self.inside.inner) c.args.session c.args.holder asked c.self.invariant.service);
      arrays = λ id. ap (λ s. get s.arrays id) c.attachments.view_is ∙ c.self.invariant.arrays id;
    }

pub returns : goal.returns
returns c =
    let holder = attachments-holder _ _ _ c.get_mut.ensures.value c.args.holder ∙ ap (λ s. with_holder s.attachments c.args.session c.args.holder) c.attachments.view_is in
    let waiting = ap (λ s. s.waiting) c.attachments.view_is in
    rw (← c.self.view_is) (λ i. record { state = c.self.inside.inner.state; attachments = holder i; waiting = waiting i; pending = c.self.inside.inner.pending })
