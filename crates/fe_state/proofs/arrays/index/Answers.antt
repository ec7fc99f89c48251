use Rattle.std.proofs.Common.{sym, ap, ◌∙◌, map, length, arith}
use Rattle.std.specs.FinMap.{entries, len-entries}
use Rattle.indexmap.specs.IndexSet.{insert_key}
use Rattle.std.specs.Prelude.{nat_eq}
use Rattle.fe_state.proofs.ArraysLemmas.{ids_next, length-take_keys}
use Rattle.fe_table.proofs.TableCopyLemmas.{shown_there, take-past}
use Rattle.fe_state.proofs.arrays.index.Goals as goal

pub unwrap-id-requires : goal.unwrap-id-requires
unwrap-id-requires c = shown_there _ _ _ c.at.ensures.entry (omega arith)

pub loop-position-preserved : goal.loop-position-preserved
loop-position-preserved c =
    let here = sym (rw c.unwrap-id.ensures at c.at.ensures.entry) in
    let keys = rw c.unwrap.ensures at c.insert.ensures.keys in
    (keys ∙ ap (λ ks. insert_key nat_eq ks c.unwrap-id.result.0) c.loop-position.invariant.0 ∙ ids_next _ _ _ here, omega arith)

pub returns : goal.returns
returns c =
    let all = len-entries c.args.table.now in
    let order = c.loop-position.invariant.0 ∙ ap (map (λ e. e.0)) (take-past (entries c.args.table.now) c.loop-position.position (omega arith)) in
    let count = ap length c.loop-position.invariant.0 ∙ length-take_keys (entries c.args.table.now) c.loop-position.position (omega arith) in
    record { index = record { order = order; room = omega (arith, count, c.loop-position.invariant.1) } }
