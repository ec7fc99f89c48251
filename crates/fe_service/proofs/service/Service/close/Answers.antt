use Rattle.std.proofs.Common.{◌≡◌, is_some, refl, sym, ap, ◌∙◌, arith}
use Rattle.std.specs.FinMap.{get}
use Rattle.fe_state.specs.Directory.{words_in}
use Rattle.fe_service.specs.AttachmentsState.{with_closing, without_session}
use Rattle.fe_service.specs.Service.{service_of}
use Rattle.fe_service.proofs.AttachmentLemmas.{is_occupant, attachments-closing}
use Rattle.fe_service.proofs.Attaching.{open_there}
use Rattle.fe_service.proofs.KeptLemmas.{kept-with_others}
use Rattle.fe_service.proofs.Staying.{same_service, closed_service}
use Rattle.fe_service.proofs.service.Service.close.Goals.{After-enter}
use Rattle.fe_service.proofs.service.Service.close.Goals as goal

pub get_mut-requires : goal.get_mut-requires
get_mut-requires c =
    let asked = rw (← c.self.view_is) at c.requires.exists in
    let there = open_there c.self.inside.inner.attachments.attachments c.args.session (sym (c.self.invariant.service.has_attachment c.args.session) ∙ asked) in (
      omega arith,
      is_occupant _ _ (ap (λ s. is_some (get s.attachments c.args.session)) c.attachments.view_is ∙ ap (λ m. is_some (get m c.args.session)) c.drop_session-count.ensures.attachments ∙ there),
    )

pub invariant_of-attachments : goal.invariant_of-attachments
invariant_of-attachments c = kept-with_others _ _ _ _ _ c.attachments.invariant _ _ _ c.get_mut.ensures.value refl

-- the session is closing, and its requests no longer wait
closing : (c : After-enter) → c.enter.new.self.attachments.attachments ≡ with_closing c.self.inside.inner.attachments.attachments c.args.session
closing c =
    ap (λ s. s.attachments) c.enter.ensures.attachments
    ∙ attachments-closing _ _ _ c.get_mut.ensures.value
    ∙ ap (λ s. with_closing s.attachments c.args.session) c.attachments.view_is
    ∙ ap (λ m. with_closing m c.args.session) c.drop_session-count.ensures.attachments

removed : (c : After-enter) → c.enter.new.self.attachments.waiting ≡ without_session c.self.inside.inner.attachments.waiting c.args.session
removed c = ap (λ s. s.waiting) c.enter.ensures.attachments ∙ ap (λ s. s.waiting) c.attachments.view_is ∙ c.drop_session-count.ensures.removed

pub invariant_of-self : goal.invariant_of-self
invariant_of-self c =
    let at = (goal.at.invariant_of-self c).After-enter in
    record {
      service = same_service _ _ c.enter.ensures.state (closing at) (removed at) c.enter.ensures.pending (closed_service (service_of c.self.inside.inner) c.args.session c.self.invariant.service);
      arrays = λ id.
          ap (λ s. get s.arrays id) c.enter.ensures.attachments
          ∙ ap (λ s. get s.arrays id) c.attachments.view_is
          ∙ ap (λ m. get m id) c.drop_session-count.ensures.arrays
          ∙ c.self.invariant.arrays id
          ∙ sym (ap (λ s. words_in (get s.arrays id)) c.enter.ensures.state);
    }

pub returns-clause-closed : goal.returns-clause-closed
returns-clause-closed c =
    let at = (goal.at.returns-clause-closed c).After-enter in
    rw (← c.self.view_is) (λ i. record { state = c.enter.ensures.state i; attachments = closing at i; waiting = removed at i; pending = c.enter.ensures.pending i })
