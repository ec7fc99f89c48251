use Rattle.std.proofs.Common.{sym, ap, ◌∙◌}
use Rattle.fe_front.specs.Front.{FrontState}
use Rattle.fe_service.specs.AttachmentsState.{holder_of}
use Rattle.fe_front.proofs.front.Front.free.Goals as goal

-- the connection that has the session is the one that it names
pub part-requires : goal.part-requires
part-requires c = record { has = (c.state.ensures.front.tied.agree c.args.session c.in-Some.conn).0 (ap (λ attachments. holder_of attachments c.args.session) (sym (c.attachments.ensures.attachments ∙ ap (λ (f : FrontState). f.service.attachments) c.self.view_is)) ∙ sym c.holder.ensures ∙ c.in-Some.is) }
