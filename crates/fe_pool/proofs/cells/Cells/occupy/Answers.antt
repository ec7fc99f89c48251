use Rattle.fe_pool.proofs.CellsLemmas.{occupied}
use Rattle.fe_pool.proofs.cells.Cells.occupy.Goals as goal

pub returns-clause-after : goal.returns-clause-after
returns-clause-after g c =
    rw (← c.self.view_is, c.replace.ensures.after, c.index.ensures.index)
    (occupied c.self.inside.cells.items c.args.node c.index_mut.result.now _ c.args.item (rw c.index.ensures.index at c.index_mut.ensures.value) (rw c.replace.ensures.value at c.in-Free.is))
