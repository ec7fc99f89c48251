use Rattle.std.proofs.Common.{◌≡◌, ℕ, ◌+◌, refl, sym, ap, subst, ◌∙◌, arith, add-one}
use Rattle.fe_mail.specs.Books.{Books, Balances, waiter_completed}
use Rattle.fe_front.specs.Call.{waiters_completed}
use Rattle.fe_front.proofs.calling.count_served.Goals as goal

one_more : (n : ℕ) (b : Books) → waiters_completed (n + 1) b ≡ waiter_completed (waiters_completed n b)
one_more n b = rw add-one refl

pub loop-done-init : goal.loop-done-init
loop-done-init c = record {
  books = refl;
  balance = λ waiting left before. subst (λ n. Balances c.args.books.now n left) (omega arith) before;
}

pub loop-done-preserved : goal.loop-done-preserved
loop-done-preserved c = record {
  books = c.waiter_completed.ensures.books ∙ ap waiter_completed c.loop-done.invariant.books ∙ sym (one_more c.loop-done.done _);
  balance = λ waiting left before. c.waiter_completed.ensures.balance _ left (subst (λ n. Balances c.loop-done.books n left) (omega arith) (c.loop-done.invariant.balance waiting left before));
}

pub returns-clause-books : goal.returns-clause-books
returns-clause-books c =
    let end : c.loop-done.done ≡ c.args.count = omega (arith, c.loop-done-test.false, c.loop-done.auto.done-end) in
    c.loop-done.invariant.books ∙ ap (λ n. waiters_completed n c.args.books.now) end

pub returns-clause-balance : goal.returns-clause-balance
returns-clause-balance c = λ waiting left before.
    subst (λ n. Balances c.loop-done.books n left) (omega (arith, c.loop-done-test.false)) (c.loop-done.invariant.balance waiting left before)
