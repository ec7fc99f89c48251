use Rattle.std.proofs.Common.{◌≡◌, ℕ, sym, ap, subst, ◌∙◌}
use mathlib.Core.List.{IsPrefix}
use Rattle.fe_shared.specs.Marks.{MayBeIssued, SharedState}
use Rattle.fe_shared.specs.Seats.{MailSeatState}
use Rattle.fe_shared.proofs.Marks.{may_later}
use Rattle.fe_hall.proofs.Issuing.{may_append}
use Rattle.fe_hall.proofs.hall.Hall.take_mail.Goals as goal

pub issue-requires : goal.issue-requires
issue-requires g c =
    let conn : c.loop.seat.conn ≡ c.conn-conn.result = ap (λ (s : MailSeatState). s.conn) c.loop.invariant.1 ∙ sym c.conn-conn.ensures in
    let that = subst (λ (s : SharedState). IsPrefix s.history c.teach.new.history) c.deref.ensures c.teach.ensures.1 in
    may_append c.conn-conn.result c.in-Some-take_mail.taking c.in-Mail.mail _ c.in-Mail.is c.in-Some-of.receipt c.teach.new.history (sym c.in-Some-of.is ∙ c.of.ensures)
    (subst (λ (n : ℕ). MayBeIssued n c.in-Some-take_mail.taking c.teach.new.history) conn
    (may_later c.loop.seat.conn c.in-Some-take_mail.taking _ c.teach.new.history that c.in-Some-take_mail.ensures.stored))
