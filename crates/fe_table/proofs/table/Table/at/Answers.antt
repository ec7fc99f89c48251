use Rattle.std.proofs.Common.{sym, arith}
use Rattle.fe_table.proofs.Pairs.{pair_there, pair_past}
use Rattle.fe_table.proofs.table.Table.at.Goals as goal

pub returns-in_err-value : goal.returns-in_err-value
returns-in_err-value g c =
    let kept = c.self.invariant in
    let past = rw c.deref.ensures.value at c.in_err-value.ensures.lookup.3 in
    record { entry = rw c.from_residual.ensures (sym (pair_past _ _ _ kept.paired kept.ascending c.self.view_is _ past)) }

pub index-requires : goal.index-requires
index-requires g c =
    let inside = rw c.deref.ensures.value at c.in_ok-value.ensures.lookup.3 in
    omega (arith, c.self.invariant.paired, inside.0, c.self.inside.keys.ok.0)

pub returns : goal.returns
returns g c =
    let kept = c.self.invariant in
    let inside = rw c.deref.ensures.value at c.in_ok-value.ensures.lookup.3 in
    record { entry = sym (pair_there _ _ _ kept.paired kept.ascending c.self.view_is _ _ _ (omega (arith, kept.paired, inside.0)) c.index.ensures (inside.1 _)) }
