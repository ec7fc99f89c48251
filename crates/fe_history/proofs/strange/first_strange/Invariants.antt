use Rattle.std.proofs.Common.{take, map}
use Rattle.std.specs.Prelude.{All}
use Rattle.fe_history.specs.Receipts.{IsBorneOut}
use Rattle.fe_history.proofs.strange.first_strange.Given as goal

abbrev pub invariant-loop-receipt : goal.invariant-loop-receipt
invariant-loop-receipt l = All (IsBorneOut l.state (map (λ v. v.items) l.sent)) (take l.receipt-index l.receipts)
