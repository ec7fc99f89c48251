-- The account that a hall leaves.
use Rattle.std.proofs.Common.{List, sym, subst}
use Rattle.fe_history.proofs.Acts.{each_later}
use Rattle.fe_history.specs.Acts.{Account, EachIssued, IsAccountOf}
use Rattle.fe_history.specs.declared.act.Act.{Act}
use Rattle.fe_history.specs.declared.receipt.Receipt.{Receipt}

-- what the write sides saw was told, and so the account's history has the answers of its receipts
pub account_issued : (seat : List Act) (receipts : List Receipt) (seen : List Act) (account : Account) → IsAccountOf seat receipts seen account → EachIssued receipts seen → EachIssued account.receipts account.history
account_issued seat receipts seen account of issued = subst (λ (rs : List Receipt). EachIssued rs account.history) (sym of.same_receipts) (each_later receipts seen account.history of.that issued)
