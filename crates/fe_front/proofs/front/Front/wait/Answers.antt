use Rattle.fe_front.specs.Front.{FrontState}
use Rattle.std.proofs.Common.{length, sym, ap, subst, ◌∙◌}
use Rattle.std.specs.FinMap.{get, len}
use Rattle.fe_waits.proofs.MemberLemmas.{len-insert_new}
use Rattle.fe_mail.specs.Books.{Balances}
use Rattle.fe_mail.specs.Connections.{mails_in}
use Rattle.fe_front.proofs.Agreement.{Agree}
use Rattle.fe_front.proofs.Ties.{quiet_sound}
use Rattle.fe_front.proofs.front.Front.wait.Goals as goal

pub invariant_of-self : goal.invariant_of-self
invariant_of-self c =
    let old = c.self.inside in
    let is = c.wait.ensures in
    let more = ap (λ s. len s.waiting) is ∙ len-insert_new old.service.waiting (c.args.session, c.args.number) _ (ap (λ (f : FrontState). get f.service.waiting (c.args.session, c.args.number)) c.self.view_is ∙ c.requires.new.free.new) in
    let books = c.call_waits.ensures.balance (len old.service.waiting) (mails_in old.connections) c.self.invariant.tied.balance in
    quiet_sound old c.wait.new.self old.connections c.call_waits.new.self c.self.invariant
    (ap (λ s. s.state.place) is)
    (ap (λ s. length s.pending) is)
    (subst (λ s. Agree s.attachments old.connections) (sym is) c.self.invariant.tied.agree)
    (subst (λ n. Balances c.call_waits.new.self n (mails_in old.connections)) (sym more) books)
