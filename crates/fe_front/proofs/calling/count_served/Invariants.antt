use Rattle.std.proofs.Common.{◌≡◌, ℕ, ◌+◌, ◌-◌}
use Rattle.fe_mail.specs.Books.{Balances}
use Rattle.fe_front.specs.Call.{waiters_completed}
use Rattle.fe_front.proofs.calling.count_served.Given as goal

abbrev pub invariant-loop-done : goal.invariant-loop-done
invariant-loop-done l = record {
  books : l.books ≡ waiters_completed l.done l.initial.books;
  balance : (waiting left : ℕ) → Balances l.initial.books (waiting + l.count) left → Balances l.books (waiting + (l.count - l.done)) left;
}
