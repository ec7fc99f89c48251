use Rattle.std.proofs.Common.{drop, refl, sym, ap, subst, ◌∙◌}
use Rattle.std.specs.FinMap.{len}
use Rattle.std.specs.Prelude.{is_some}
use Rattle.fe_mail.specs.Books.{Balances}
use Rattle.fe_mail.specs.Connections.{mails_in, mails_on, with_mails}
use Rattle.fe_mail.proofs.MailCounts.{mails_in-take}
use Rattle.fe_front.proofs.Agreement.{Agree, agree-boxed}
use Rattle.fe_front.proofs.Ties.{quiet_sound}
use Rattle.fe_front.proofs.front.Front.take_mail.Goals as goal

pub invariant_of-self : goal.invariant_of-self
invariant_of-self c =
    let old = c.self.inside in
    let is = c.take-mail.ensures.taken in
    let rest = with_mails old.connections c.args.conn (drop 1 (mails_on old.connections c.args.conn)) in
    let some = ap is_some (sym c.take-mail.ensures.mail) ∙ sym c.is_some.ensures ∙ c.if-is_some.true in
    let all = sym (mails_in-take old.connections c.args.conn some) in
    let books = c.mail_taken.ensures.balance (len old.service.waiting) (mails_in rest) (subst (λ n. Balances old.books (len old.service.waiting) n) all c.self.invariant.tied.balance) in
    quiet_sound old old.service c.take-mail.new.self c.mail_taken.new.self c.self.invariant refl refl
    (subst (λ m. Agree old.service.attachments m) (sym is) (agree-boxed old.service.attachments old.connections c.self.invariant.tied.agree c.args.conn (drop 1 (mails_on old.connections c.args.conn))))
    (subst (λ m. Balances c.mail_taken.new.self (len old.service.waiting) (mails_in m)) (sym is) books)
