use Rattle.fe_pool.specs.within.Cells.{columns_of}
use Rattle.fe_pool.proofs.WithCount.{IsMade}
use Rattle.fe_pool.proofs.cells.Cells.with_count.Given as goal

abbrev pub invariant-loop-index : goal.invariant-loop-index
invariant-loop-index g l = IsMade (columns_of l.cells.items) l.index l.before
