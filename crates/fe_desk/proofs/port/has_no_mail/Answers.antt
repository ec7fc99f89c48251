use Rattle.std.proofs.Common.{◌≡◌, Bool, true, false, true≢false, not, refl, sym, ◌∙◌, ap}
use Rattle.fe_mail.specs.Books.{Books}
use Rattle.fe_mail.specs.Connections.{mails_in}
use Rattle.fe_desk.proofs.Emptying.{each_empty, same_number}
use Rattle.fe_desk.proofs.port.has_no_mail.Goals as goal

opposite : (b : Bool) → not b ≡ true → b ≡ false
opposite false is = refl
opposite true is = absurd (true≢false (sym is))

pub returns-then-not-books : goal.returns-then-not-books
returns-then-not-books c = λ zero.
    let kept : c.books-books.result.spent ≡ false = sym (ap (λ (b : Books). b.spent) c.books.view_is) ∙ opposite c.books.inside.spent c.if-not-books.true in
    let left : c.books-books.result.left ≡ mails_in c.args.front.now.connections = c.books-books.ensures.balance.left_is kept in
    each_empty c.args.front.now (sym left ∙ sym (ap (λ (b : Books). b.left) c.books.view_is) ∙ same_number c.books.inside.left 0 zero)
