use Rattle.std.proofs.Common.{◌≡◌, false, length, nat_lt, sym, ap, ◌∙◌}
use Rattle.std.specs.FinMap.{FinMap}
use Rattle.std.specs.Ordering.{nat_cmp}
use Rattle.fe_mail.specs.Books.{Books}
use Rattle.fe_mail.specs.Connections.{mails_in, mails_on}
use Rattle.fe_mail.specs.declared.connection.Connection.{Connection}
use Rattle.fe_desk.proofs.WithMail.{lone}
use Rattle.fe_desk.proofs.box_emptying.has_lone_mail.Goals as goal

pub returns-then-books-eq1 : goal.returns-then-books-eq1
returns-then-books-eq1 c = λ some.
    let kept : c.books-books.result.spent ≡ false = sym (ap (λ (b : Books). b.spent) c.books.view_is) ∙ c.if-books.false in
    let left : c.books-books.result.left ≡ mails_in c.args.front.now.connections = c.books-books.ensures.balance.left_is kept in
    lone c.args.front.now c.args.conn (sym left ∙ sym (ap (λ (b : Books). b.left) c.books.view_is) ∙ c.if-books-eq1.true) (sym (c.has_mail.ensures ∙ ap (λ (m : FinMap nat_cmp Connection). nat_lt 0 (length (mails_on m c.args.conn))) c.connections.ensures) ∙ some)
