use Rattle.fe_front.specs.Front.{FrontState}
use Rattle.std.proofs.Common.{◌+◌, refl, sym, ap, subst, ◌∙◌}
use Rattle.std.specs.FinMap.{len, remove}
use Rattle.fe_mail.specs.Books.{Balances}
use Rattle.fe_mail.specs.Connections.{mails_in, session_on}
use Rattle.fe_mail.proofs.MailCounts.{mails_in-remove}
use Rattle.fe_front.proofs.Agreement.{Agree, agree-removed}
use Rattle.fe_front.proofs.Ties.{quiet_sound}
use Rattle.fe_front.proofs.front.Front.unbox.Goals as goal

pub invariant_of-self : goal.invariant_of-self
invariant_of-self c =
    let old = c.self.inside in
    let is = c.remove-mails.ensures.removed in
    let all = sym (ap (λ n. mails_in (remove old.connections c.args.conn) + n) c.remove-mails.ensures.mails ∙ mails_in-remove old.connections c.args.conn) in
    let books = c.box_dropped.ensures.balance (len old.service.waiting) (mails_in (remove old.connections c.args.conn)) (subst (λ n. Balances old.books (len old.service.waiting) n) all c.self.invariant.tied.balance) in
    quiet_sound old old.service c.remove-mails.new.self c.box_dropped.new.self c.self.invariant refl refl
    (subst (λ m. Agree old.service.attachments m) (sym is) (agree-removed old.service.attachments old.connections c.self.invariant.tied.agree c.args.conn (ap (λ (f : FrontState). session_on f.connections c.args.conn) c.self.view_is ∙ c.requires.free)))
    (subst (λ m. Balances c.box_dropped.new.self (len old.service.waiting) (mails_in m)) (sym is) books)
