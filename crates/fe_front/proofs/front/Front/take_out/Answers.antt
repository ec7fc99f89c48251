use Rattle.std.specs.Prelude.{is_some}
use Rattle.fe_front.specs.Front.{FrontState}
use Rattle.std.proofs.Common.{length, sym, ap, subst, ◌∙◌}
use Rattle.std.specs.FinMap.{get, len, remove}
use Rattle.fe_mail.specs.Books.{Balances}
use Rattle.fe_mail.specs.Connections.{mails_in}
use Rattle.fe_front.proofs.Agreement.{Agree}
use Rattle.fe_front.proofs.Counts.{waiting-removed}
use Rattle.fe_front.proofs.Ties.{quiet_sound}
use Rattle.fe_front.proofs.front.Front.take_out.Goals as goal

pub invariant_of-self : goal.invariant_of-self
invariant_of-self c =
    let old = c.self.inside in
    let is = c.cancel.ensures.cancelled in
    let all = waiting-removed old.service.waiting (c.args.session, c.args.number) (ap (λ (f : FrontState). is_some (get f.service.waiting (c.args.session, c.args.number))) c.self.view_is ∙ c.requires.waits) in
    let books = c.waiters_withdrawn.ensures.balance (len (remove old.service.waiting (c.args.session, c.args.number))) (mails_in old.connections) (subst (λ n. Balances old.books n (mails_in old.connections)) all c.self.invariant.tied.balance) in
    quiet_sound old c.cancel.new.self old.connections c.waiters_withdrawn.new.self c.self.invariant
    (ap (λ s. s.state.place) is)
    (ap (λ s. length s.pending) is)
    (subst (λ s. Agree s.attachments old.connections) (sym is) c.self.invariant.tied.agree)
    (subst (λ s. Balances c.waiters_withdrawn.new.self (len s.waiting) (mails_in old.connections)) (sym is) books)
