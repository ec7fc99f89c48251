use Rattle.std.proofs.Common.{◌++◌, ◌∷◌, [], refl, sym, ap, subst, ◌∙◌}
use Rattle.std.specs.FinMap.{len}
use Rattle.fe_mail.specs.Books.{Balances}
use Rattle.fe_mail.specs.Connections.{mails_in, mails_on}
use Rattle.fe_mail.proofs.MailCounts.{mails_in-put}
use Rattle.fe_front.specs.Front.{is_connected}
use Rattle.fe_front.proofs.Agreement.{Agree, agree-boxed}
use Rattle.fe_front.proofs.Ties.{quiet_sound}
use Rattle.fe_front.proofs.front.Front.put.Goals as goal

pub invariant_of-self : goal.invariant_of-self
invariant_of-self c =
    let old = c.self.inside in
    let is = c.in-Ok.ensures.put in
    let there = ap (λ f. is_connected f c.args.conn) c.self.view_is ∙ c.requires.connected in
    let mails = ap mails_in is ∙ mails_in-put old.connections c.args.conn c.args.mail there in
    let books = c.mail_boxed.ensures.balance (len old.service.waiting) (mails_in old.connections) c.self.invariant.tied.balance in
    quiet_sound old old.service c.put.new.self c.mail_boxed.new.self c.self.invariant refl refl
    (subst (λ m. Agree old.service.attachments m) (sym is) (agree-boxed old.service.attachments old.connections c.self.invariant.tied.agree c.args.conn (mails_on old.connections c.args.conn ++ c.args.mail ∷ [])))
    (subst (λ n. Balances c.mail_boxed.new.self (len old.service.waiting) n) (sym mails) books)
