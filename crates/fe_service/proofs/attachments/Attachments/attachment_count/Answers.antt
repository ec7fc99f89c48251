use Rattle.std.proofs.Common.{sym, ◌∙◌}
use Rattle.fe_service.proofs.AttachmentLemmas.{len-attachments}
use Rattle.fe_service.proofs.attachments.Attachments.attachment_count.Goals as goal

pub returns-clause-count : goal.returns-clause-count
returns-clause-count c = rw (← c.self.view_is) (c.len.ensures.len ∙ sym (len-attachments _))
