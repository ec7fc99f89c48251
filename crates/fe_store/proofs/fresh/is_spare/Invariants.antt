use Rattle.std.proofs.Common.{ℕ, ◌<◌}
use Rattle.std.specs.Prelude.{slice_index}
use Rattle.fe_store.specs.Spare.{IsSpareAt}
use Rattle.fe_store.proofs.fresh.is_spare.Given as goal

abbrev pub invariant-loop-at : goal.invariant-loop-at
invariant-loop-at l = (k : ℕ) → k < l.at → IsSpareAt l.others k (slice_index l.bytes k)
