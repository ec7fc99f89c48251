use Rattle.fe_state.proofs.ArraysLemmas.{positions}
use Rattle.fe_state.proofs.arrays.Arrays.position_of.Goals as goal

pub returns-in_default-clause-there : goal.returns-in_default-clause-there
returns-in_default-clause-there c =
    let set = positions c.self.inside.table _ _ c.self.invariant.order c.get_index_of.result c.get_index_of.ensures.index c.get_index_of.ensures.found in
    rw (← c.self.view_is) set.0

pub returns-in_default-clause-none : goal.returns-in_default-clause-none
returns-in_default-clause-none c =
    let set = positions c.self.inside.table _ _ c.self.invariant.order c.get_index_of.result c.get_index_of.ensures.index c.get_index_of.ensures.found in
    rw (← c.self.view_is) set.1
