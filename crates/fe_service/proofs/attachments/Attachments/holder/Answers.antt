use Rattle.std.proofs.Common.{ap, sym, ◌∙◌}
use Rattle.std.specs.Option.{option_map, option_and_then}
use Rattle.fe_service.specs.declared.attachment.Attachment.{Attachment}
use Rattle.fe_service.specs.declared.occupant.Occupant.{Occupant}
use Rattle.fe_service.proofs.AttachmentLemmas.{get-attachments}
use Rattle.fe_service.proofs.attachments.Attachments.holder.Goals as goal

pub returns-in_err-occupant : goal.returns-in_err-occupant
returns-in_err-occupant c = rw (c.from_residual.ensures, ← c.self.view_is) (ap (option_and_then (λ (a : Attachment). a.holder)) (sym (get-attachments _ _ ∙ ap (option_map (λ (occupant : Occupant). occupant.attachment)) (sym c.in_err-occupant.ensures))))

pub returns : goal.returns
returns c = rw (← c.self.view_is) (ap (option_and_then (λ (a : Attachment). a.holder)) (sym (get-attachments _ _ ∙ ap (option_map (λ (occupant : Occupant). occupant.attachment)) (sym c.in_ok-occupant.ensures))))
