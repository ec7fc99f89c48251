use Rattle.std.proofs.Common.{sym}
use Rattle.fe_table.proofs.TableLemmas.{remove_absent}
use Rattle.fe_state.proofs.arrays.Arrays.remove.Goals as goal

pub invariant_of-self : goal.invariant_of-self
invariant_of-self c =
    let same = remove_absent _ c.args.id (sym c.in_err-array.ensures.value) in
    rw (c.remove.ensures.removed, ← same) c.self.invariant
