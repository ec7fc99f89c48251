use Rattle.fe_front.specs.Front.{FrontState}
use Rattle.std.proofs.Common.{length, sym, ap, subst, ◌∙◌}
use Rattle.std.specs.FinMap.{len}
use Rattle.std.specs.Prelude.{None}
use Rattle.fe_service.specs.AttachmentsState.{with_holder}
use Rattle.fe_mail.specs.Books.{Balances}
use Rattle.fe_mail.specs.Connections.{mails_in, session_on}
use Rattle.fe_mail.proofs.MailCounts.{mails_in-with_session}
use Rattle.fe_front.proofs.Agreement.{Agree, agree-parted, attachment_there}
use Rattle.fe_front.proofs.Ties.{quiet_sound}
use Rattle.fe_front.proofs.front.Front.part.Goals as goal

pub set_holder-requires : goal.set_holder-requires
set_holder-requires c = attachment_there c.self.inside.service.attachments c.args.session c.args.conn ((c.self.invariant.tied.agree c.args.session c.args.conn).1 (ap (λ (f : FrontState). session_on f.connections c.args.conn) c.self.view_is ∙ c.requires.has))

pub invariant_of-self : goal.invariant_of-self
invariant_of-self c =
    let old = c.self.inside in
    let is = c.set_holder.ensures in
    let same = c.set_session.ensures in
    let agree = agree-parted old.service.attachments old.connections c.self.invariant.tied.agree c.args.conn c.args.session (ap (λ (f : FrontState). session_on f.connections c.args.conn) c.self.view_is ∙ c.requires.has) in
    let mails = ap mails_in same ∙ mails_in-with_session old.connections c.args.conn None in
    quiet_sound old c.set_holder.new.self c.set_session.new.self old.books c.self.invariant
    (ap (λ s. s.state.place) is)
    (ap (λ s. length s.pending) is)
    (subst (λ s. Agree s.attachments c.set_session.new.self) (sym is) (subst (λ m. Agree (with_holder old.service.attachments c.args.session None) m) (sym same) agree))
    (subst (λ s. Balances old.books (len s.waiting) (mails_in c.set_session.new.self)) (sym is) (subst (λ n. Balances old.books (len old.service.waiting) n) (sym mails) c.self.invariant.tied.balance))
