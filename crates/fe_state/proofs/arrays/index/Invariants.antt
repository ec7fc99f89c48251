use Rattle.std.proofs.Common.{◌≡◌, ◌≤◌, ◌+◌, map, take}
use Rattle.std.specs.FinMap.{entries}
use Rattle.indexmap.specs.IndexSet.{spare}
use Rattle.fe_state.proofs.arrays.index.Given as goal

abbrev pub invariant-loop-position : goal.invariant-loop-position
invariant-loop-position l = (l.ids.keys ≡ map (λ e. e.0) (take l.position (entries l.table))) × (64 ≤ l.position + spare l.ids)
