use Rattle.std.proofs.Common.{ap, sym, ◌∙◌}
use Rattle.std.specs.Option.{option_map}
use Rattle.fe_service.specs.declared.occupant.Occupant.{Occupant}
use Rattle.fe_service.proofs.AttachmentLemmas.{get-attachments}
use Rattle.fe_service.proofs.attachments.Attachments.attachment.Goals as goal

pub returns-in_err-occupant : goal.returns-in_err-occupant
returns-in_err-occupant c = rw (c.from_residual.ensures, ← c.self.view_is) (sym (get-attachments _ _ ∙ ap (option_map (λ (occupant : Occupant). occupant.attachment)) (sym c.in_err-occupant.ensures)))

pub returns : goal.returns
returns c = rw (← c.self.view_is) (sym (get-attachments _ _ ∙ ap (option_map (λ (occupant : Occupant). occupant.attachment)) (sym c.in_ok-occupant.ensures)))
