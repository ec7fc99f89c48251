use Rattle.std.proofs.Common.{refl, ap, ◌∙◌}
use Rattle.fe_waits.specs.within.Inner.{lengths}
use Rattle.fe_waits.proofs.KeptLemmas.{kept-array_dropped}
use Rattle.fe_waits.proofs.WordLemmas.{lengths-remove}
use Rattle.fe_waits.proofs.waits.Waits.drop_array.Goals as goal

pub invariant_of-self : goal.invariant_of-self
invariant_of-self c = let asked = rw (← c.self.view_is) at c.requires in rw c.remove.ensures.removed (kept-array_dropped _ _ _ _ c.self.invariant c.args.array asked.unused)

pub returns : goal.returns
returns c = record { dropped = rw (← c.self.view_is) (record { arrays = ap lengths c.remove.ensures.removed ∙ lengths-remove _ _; members = refl }) }
