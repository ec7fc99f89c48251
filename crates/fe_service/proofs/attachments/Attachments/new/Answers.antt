use Rattle.std.proofs.Common.{ap, ◌∙◌, rules}
use Rattle.fe_service.specs.within.Slots.{by_session, attachments_of}
use Rattle.fe_service.proofs.KeptLemmas.{kept-new}
use Rattle.fe_service.proofs.OwnerLemmas.{by_session-empty}
use Rattle.fe_service.proofs.AttachmentLemmas.{attachments-empty}
use Rattle.fe_service.proofs.attachments.Attachments.new.Goals as goal

pub invariant_of-result : goal.invariant_of-result
invariant_of-result c =
    kept-new _ _ _ _ _ c.requires.none c.in_ok-occupants.ensures.empty (c.in_ok-owners.ensures.items_if_clones_equal (search rules)) c.in_ok-slots.ensures.slots c.in_ok-slots.ensures.reserved

pub returns-clause-attachments : goal.returns-clause-attachments
returns-clause-attachments c = ap attachments_of c.in_ok-occupants.ensures.empty ∙ attachments-empty

pub returns-clause-waiting : goal.returns-clause-waiting
returns-clause-waiting c = ap (by_session _) c.requires.none ∙ by_session-empty _
