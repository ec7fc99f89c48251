use Rattle.std.proofs.Common.{arith}
use Rattle.fe_waits.proofs.waits.Waits.count_of.Goals as goal

pub at-requires : goal.at-requires
at-requires c = let slots = c.self.invariant.slots in let asked = c.requires.slot in omega arith

pub returns : goal.returns
returns c = rw (← c.self.view_is) (c.self.invariant.counted _ _ c.at.ensures)
