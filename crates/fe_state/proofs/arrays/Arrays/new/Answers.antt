use Rattle.std.proofs.Common.{refl, arith}
use Rattle.fe_table.proofs.TableLemmas.{entries-empty}
use Rattle.fe_state.proofs.arrays.Arrays.new.Goals as goal

pub invariant_of-result : goal.invariant_of-result
invariant_of-result c = record {
  order = rw (c.in_ok-ids.ensures.empty, c.in_ok-table.ensures.empty, entries-empty) refl;
  room = omega (arith, c.in_ok-ids.ensures.len, c.in_ok-ids.ensures.spare);
}
