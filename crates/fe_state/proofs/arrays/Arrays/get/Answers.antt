use Rattle.std.proofs.Common.{sym, arith}
use Rattle.std.specs.FinMap.{len-entries}
use Rattle.fe_table.proofs.TableCopyLemmas.{shown_there}
use Rattle.fe_table.proofs.TablePositions.{get_here}
use Rattle.fe_state.proofs.arrays.Arrays.get.Goals as goal

pub returns-in_err-position : goal.returns-in_err-position
returns-in_err-position c = record { value = rw c.from_residual.ensures (sym c.in_err-position.ensures.none) }

pub unwrap-requires : goal.unwrap-requires
unwrap-requires c =
    let at = rw (← c.self.view_is) at c.in_ok-position.ensures.there in
    shown_there _ _ _ c.at.ensures.entry (omega (arith, len-entries c.self.inside.table, at.in_range))

pub returns : goal.returns
returns c =
    let at = rw (← c.self.view_is) at c.in_ok-position.ensures.there in
    let here = sym (rw c.unwrap.ensures at c.at.ensures.entry) in
    record { value = sym (rw (← c.self.view_is) (get_here _ _ _ at _ here)) }
