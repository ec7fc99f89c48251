use Rattle.std.proofs.Common.{◌≡◌, ℕ, take, drop}
use Rattle.std.specs.List.{AllByRecursion}
use Rattle.std.specs.FinMap.{entries}
use Rattle.fe_history.specs.Receipts.{IsAsIssued}
use Rattle.fe_history.proofs.strange.holds_other.Given as goal

abbrev pub invariant-loop-number : goal.invariant-loop-number
invariant-loop-number l = (k : ℕ) × (drop k (entries l.fn.answers) ≡ entries l.number-iterator)
    × AllByRecursion (λ e. e.1.place ≡ l.receipt.place → IsAsIssued l.receipt l.session e.0 e.1) (take k (entries l.fn.answers))
