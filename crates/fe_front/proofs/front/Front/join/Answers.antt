use Rattle.fe_service.specs.AttachmentsState.{holder_of}
use Rattle.fe_front.specs.Front.{FrontState, is_connected}
use Rattle.std.proofs.Common.{Some, length, length-append, sym, ap, subst, ◌∙◌}
use Rattle.std.specs.FinMap.{len}
use Rattle.fe_mail.specs.Books.{Balances}
use Rattle.fe_mail.specs.Connections.{mails_in, session_on}
use Rattle.fe_mail.proofs.MailCounts.{mails_in-with_session}
use Rattle.fe_service.specs.Events.{attached}
use Rattle.fe_front.proofs.Agreement.{Agree, agree-joined}
use Rattle.fe_front.proofs.Ties.{made_sound}
use Rattle.fe_front.proofs.front.Front.join.Goals as goal

pub invariant_of-self : goal.invariant_of-self
invariant_of-self c =
    let old = c.self.inside in
    let is = c.attach.ensures in
    let same = c.set_session.ensures in
    let agree = agree-joined old.service.attachments old.connections c.self.invariant.tied.agree c.args.conn c.args.session (ap (λ (f : FrontState). holder_of f.service.attachments c.args.session) c.self.view_is ∙ c.requires.free_session) (ap (λ (f : FrontState). session_on f.connections c.args.conn) c.self.view_is ∙ c.requires.free_connection) (ap (λ (f : FrontState). is_connected f c.args.conn) c.self.view_is ∙ c.requires.connected) in
    let mails = ap mails_in same ∙ mails_in-with_session old.connections c.args.conn (Some c.args.session) in
    made_sound old c.attach.new.self c.set_session.new.self old.books 1 c.self.invariant
    (ap (λ s. s.state.place) is)
    (ap (λ s. length s.pending) is ∙ length-append old.service.pending _)
    (subst (λ s. Agree s.attachments c.set_session.new.self) (sym is) (subst (λ m. Agree (attached old.service c.args.session c.args.conn).attachments m) (sym same) agree))
    (subst (λ s. Balances old.books (len s.waiting) (mails_in c.set_session.new.self)) (sym is) (subst (λ n. Balances old.books (len old.service.waiting) n) (sym mails) c.self.invariant.tied.balance))
