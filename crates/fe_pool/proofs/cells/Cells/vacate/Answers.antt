use Rattle.fe_pool.proofs.CellsLemmas.{vacated, within_items}
use Rattle.fe_pool.proofs.cells.Cells.vacate.Goals as goal

pub returns-clause-after : goal.returns-clause-after
returns-clause-after g c =
    let taken = rw (← c.self.view_is) at c.requires.taken in
    let loose = rw (← c.self.view_is) at c.requires.loose in
    rw (← c.self.view_is, c.replace.ensures.after, c.index.ensures.index)
    (vacated c.self.inside.cells.items c.args.node c.index_mut.result.now _ c.args.follower (within_items _ _ taken) (rw c.index.ensures.index at c.index_mut.ensures.value) (rw c.replace.ensures.value at c.in-Taken.is) loose.of_word loose.of_session)
