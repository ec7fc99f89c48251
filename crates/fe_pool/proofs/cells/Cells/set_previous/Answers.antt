use Rattle.fe_pool.proofs.PoolLemmas.{some-below}
use Rattle.fe_pool.proofs.cells.Cells.set_previous.Goals as goal

pub neighbours-requires : goal.neighbours-requires
neighbours-requires g c = some-below _ _ (c.requires c.in-Some.node c.in-Some.is).taken
