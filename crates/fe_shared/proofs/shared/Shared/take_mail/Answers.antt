use Rattle.std.proofs.Common.{ℕ, sym, subst, ◌∙◌, arith}
use Rattle.fe_shared.specs.Marks.{MayBeIssued}
use Rattle.fe_shared.specs.declared.taking.Taking.TheVariants as taking
use Rattle.fe_shared.proofs.Marks.{first_may, taken_marked}
use Rattle.fe_shared.proofs.Risings.{taken_goes}
use Rattle.fe_shared.proofs.shared.Shared.take_mail.Goals as goal

pub invariant_of-self-inside : goal.invariant_of-self-inside
invariant_of-self-inside g c =
    let s = c.self.inside in
    let first = sym c.in-Some.is ∙ c.take_mail.ensures.mail in
    let goes = taken_goes s.front c.take_mail.new.self c.conn-conn.result c.in-Some.mail c.state.ensures.front s.open first c.take_mail.ensures.taken in
    (goes.books, (omega (arith, s.calls_agree, goes.calls), (omega (arith, s.mails_agree, goes.taken, c.take.ensures.book), (s.few, (s.call_parts, (s.mail_parts, tt))))))

pub invariant_of-self : goal.invariant_of-self
invariant_of-self g c =
    let s = c.self.inside in
    (taken_marked s.front c.take_mail.new.self c.conn-conn.result s.posted s.history c.take_mail.ensures.taken c.self.invariant.0, c.self.invariant.1)

pub returns-in-Some-clause-stored : goal.returns-in-Some-clause-stored
returns-in-Some-clause-stored g c =
    let s = c.self.inside in
    subst (λ (n : ℕ). MayBeIssued n (taking.Mail c.in-Some.mail c.has_mail-more.result) s.history) c.conn-conn.ensures
    (first_may s.front c.conn-conn.result c.in-Some.mail c.has_mail-more.result s.posted s.history (sym c.in-Some.is ∙ c.take_mail.ensures.mail) c.self.invariant.0)
