use Rattle.std.proofs.Common.{List, ap, sym, subst}
use Rattle.fe_history.proofs.Acts.{each_later}
use Rattle.fe_history.specs.Acts.{EachIssued, ReceiptList}
use Rattle.fe_history.specs.declared.receipt.Receipt.{Receipt}
use Rattle.fe_history.proofs.gathered_receipts.GatheredReceipts.learn.Goals as goal

pub invariant_of-self : goal.invariant_of-self
invariant_of-self g c =
    subst (λ (rs : List Receipt). EachIssued rs c.learn.new.self) (sym (ap (λ (l : ReceiptList). l.items) c.miss.ensures))
    (each_later c.self.inside.list.items c.self.inside.history c.learn.new.self c.learn.ensures.0 c.self.invariant)
