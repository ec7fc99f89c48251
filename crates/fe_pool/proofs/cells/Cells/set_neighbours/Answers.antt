use Rattle.fe_pool.proofs.CellsLemmas.{linked}
use Rattle.fe_pool.proofs.cells.Cells.set_neighbours.Goals as goal

pub returns : goal.returns
returns g c =
    rw (← c.self.view_is, c.set_link.ensures, c.index.ensures.index)
    (linked c.self.inside.cells.items c.args.node c.index_mut.result.now c.in-Taken.entry c.args.family c.args.to (rw c.index.ensures.index at c.index_mut.ensures.value) c.in-Taken.is)
