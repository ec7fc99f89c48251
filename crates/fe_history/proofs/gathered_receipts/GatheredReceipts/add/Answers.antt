use Rattle.fe_history.proofs.Acts.{gathered_issued}
use Rattle.fe_history.proofs.gathered_receipts.GatheredReceipts.add.Goals as goal

pub invariant_of-self : goal.invariant_of-self
invariant_of-self g c =
    let other = c.other.inside in
    let a = c.add-added in
    gathered_issued a.result c.self.inside.list a.new.self other.items.items c.as_slice.result.now c.self.inside.history other.history c.learn.new.self
    c.as_slice.ensures.value a.ensures.ok a.ensures.err c.learn.ensures.0 c.learn.ensures.1 c.self.invariant c.other.invariant
