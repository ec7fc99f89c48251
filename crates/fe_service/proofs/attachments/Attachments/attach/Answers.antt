use Rattle.std.proofs.Common.{Some, is_some, not, refl, sym, ap, ◌∙◌, arith}
use Rattle.std.specs.FinMap.{get}
use Rattle.fe_service.specs.AttachmentsState.{with_holder}
use Rattle.fe_service.proofs.AttachmentLemmas.{is_occupant, attachments-holder}
use Rattle.fe_service.proofs.Attaching.{old_attachment}
use Rattle.fe_service.proofs.KeptLemmas.{kept-with_others}
use Rattle.fe_service.proofs.attachments.Attachments.attach.Goals as goal

pub get_mut-requires : goal.get_mut-requires
get_mut-requires c =
    let there = ap (λ s. is_some (get s.attachments c.args.session)) c.self.view_is ∙ sym (ap is_some c.attachment.ensures) ∙ c.is_none.ensures ∙ ap not c.if-is_none.false in
    (omega arith, is_occupant _ _ there)

pub invariant_of-self : goal.invariant_of-self
invariant_of-self c = kept-with_others _ _ _ _ _ c.self.invariant _ _ _ c.get_mut.ensures.value refl

pub returns-else-is_none : goal.returns-else-is_none
returns-else-is_none c = record {
  attachments =
      attachments-holder _ _ _ c.get_mut.ensures.value (Some c.args.conn)
      ∙ ap (λ s. with_holder s.attachments c.args.session (Some c.args.conn)) c.self.view_is
      ∙ old_attachment c.args.self.now.attachments c.args.session c.args.conn c.requires.open;
  waiting = ap (λ s. s.waiting) c.self.view_is;
  arrays = ap (λ s. s.arrays) c.self.view_is;
}
