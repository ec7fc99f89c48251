use Rattle.std.proofs.Common.{◌<◌, length, arith}
use Rattle.fe_table.proofs.Pairs.{key_stands}
use Rattle.fe_table.proofs.TableLemmas.{searched, entries_seen}
use Rattle.fe_table.proofs.table.Table.search.Goals as goal

-- the slice is the table's keys
pub returns : goal.returns
returns g c =
    let kept = c.self.invariant in
    let bound = rw c.deref.ensures.value at c.binary_search.ensures.bound in
    let position = rw c.deref.ensures.value at c.binary_search.ensures.position in
    rw (entries_seen _ _ kept.ascending c.self.view_is) (searched _ _ kept.paired kept.ascending c.args.key _ bound position)

-- the key at the hint is the one that is looked for
pub returns-then-index-key-clause-found : goal.returns-then-index-key-clause-found
returns-then-index-key-clause-found g c =
    let kept = c.self.invariant in
    let within : c.self.inside.hint < length c.self.inside.keys.items = omega (arith, c.self.inside.keys.ok.0) in
    key_stands _ _ _ kept.paired kept.ascending c.self.view_is _ _ within (rw c.if-index-key.true at c.index.ensures)
