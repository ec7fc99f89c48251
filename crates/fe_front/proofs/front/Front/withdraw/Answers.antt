use Rattle.std.proofs.Common.{◌+◌, length, sym, ap, subst, ◌∙◌}
use Rattle.std.specs.FinMap.{len}
use Rattle.fe_service.specs.AttachmentsState.{without_session}
use Rattle.fe_mail.specs.Books.{Balances}
use Rattle.fe_mail.specs.Connections.{mails_in}
use Rattle.fe_front.proofs.Agreement.{Agree}
use Rattle.fe_front.proofs.Counts.{waiting-split}
use Rattle.fe_front.proofs.Ties.{quiet_sound}
use Rattle.fe_front.proofs.front.Front.withdraw.Goals as goal

pub invariant_of-self : goal.invariant_of-self
invariant_of-self c =
    let old = c.self.inside in
    let is = c.withdraw-count.ensures.withdrawn in
    let all = waiting-split old.service.waiting c.args.session ∙ ap (λ n. len (without_session old.service.waiting c.args.session) + n) (sym c.withdraw-count.ensures.count) in
    let books = c.waiters_withdrawn.ensures.balance (len (without_session old.service.waiting c.args.session)) (mails_in old.connections) (subst (λ n. Balances old.books n (mails_in old.connections)) all c.self.invariant.tied.balance) in
    quiet_sound old c.withdraw-count.new.self old.connections c.waiters_withdrawn.new.self c.self.invariant
    (ap (λ s. s.state.place) is)
    (ap (λ s. length s.pending) is)
    (subst (λ s. Agree s.attachments old.connections) (sym is) c.self.invariant.tied.agree)
    (subst (λ s. Balances c.waiters_withdrawn.new.self (len s.waiting) (mails_in old.connections)) (sym is) books)
