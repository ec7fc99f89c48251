use Rattle.std.proofs.Common.{sym, arith}
use Rattle.fe_table.proofs.TableLemmas.{get_absent}
use Rattle.fe_table.proofs.Pairs.{key_below, value_found}
use Rattle.fe_table.proofs.table.Table.get.Goals as goal

pub index-requires : goal.index-requires
index-requires g c =
    let kept = c.self.invariant in
    omega (arith, kept.paired, key_below _ _ _ kept.paired kept.ascending c.self.view_is _ _ c.in-Ok.ensures.found, c.self.inside.values.ok.0)

pub returns-in-Ok : goal.returns-in-Ok
returns-in-Ok g c =
    let kept = c.self.invariant in
    record { value = sym (value_found _ _ _ kept.paired kept.ascending c.self.view_is _ _ _ c.index.ensures c.in-Ok.ensures.found) }

pub returns-in-Err : goal.returns-in-Err
returns-in-Err g c = record { value = sym (get_absent _ _ c.self.invariant.ascending c.self.view_is _ _ c.in-Err.ensures.absent) }
