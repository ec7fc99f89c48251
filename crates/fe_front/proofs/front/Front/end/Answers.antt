use Rattle.std.proofs.Common.{length, sym, ap, subst, ◌∙◌}
use Rattle.std.specs.FinMap.{len}
use Rattle.fe_service.specs.AttachmentsState.{holder_of}
use Rattle.fe_mail.specs.Books.{Balances}
use Rattle.fe_mail.specs.Connections.{mails_in}
use Rattle.fe_front.proofs.Agreement.{Agree, agree-left}
use Rattle.fe_front.proofs.Attaching.{freed-holder}
use Rattle.fe_front.proofs.Ties.{quiet_sound}
use Rattle.fe_front.proofs.front.Front.end.Goals as goal

pub invariant_of-self : goal.invariant_of-self
invariant_of-self c =
    let mid = c.self.inside in
    let is = c.leave.ensures in
    let free = ap (λ f. holder_of f.service.attachments c.args.session) (c.self.view_is ∙ c.free.ensures.freed) ∙ freed-holder c.args.self.now c.args.session in
    quiet_sound mid c.leave.new.self mid.connections mid.books c.self.invariant
    (ap (λ s. s.state.place) is)
    (ap (λ s. length s.pending) is)
    (subst (λ s. Agree s.attachments mid.connections) (sym is) (agree-left mid.service.attachments mid.connections c.self.invariant.tied.agree c.args.session free))
    (subst (λ s. Balances mid.books (len s.waiting) (mails_in mid.connections)) (sym is) c.self.invariant.tied.balance)
