use Rattle.std.proofs.Common.{◌≡◌, arith}
use Rattle.std.specs.FinMap.{entries, insert as map_insert}
use Rattle.std.specs.List.{zip}
use Rattle.fe_table.proofs.TableLemmas.{search_misses, from_sorted-entries, ascending_entries}
use Rattle.fe_table.proofs.Pairs.{len_keys, gap_below, pairs_more}
use Rattle.fe_table.proofs.table.Table.insert.Goals as goal

pub unwrap_err-position-requires : goal.unwrap_err-position-requires
unwrap_err-position-requires g c = search_misses _ _ c.self.invariant.ascending c.self.view_is _ _ c.search.ensures.found c.requires.absent

pub insert-requires : goal.insert-requires
insert-requires g c =
    let kept = c.self.invariant in
    let gap = rw c.unwrap_err-position.ensures at c.search.ensures.absent in
    omega (arith, gap_below _ _ _ kept.paired kept.ascending c.self.view_is _ _ gap, c.self.inside.keys.ok.0)

pub unwrap-requires : goal.unwrap-requires
unwrap-requires g c =
    let kept = c.self.invariant in
    c.insert.ensures.succeeds (omega (arith, len_keys _ _ _ kept.paired kept.ascending c.self.view_is, c.self.inside.keys.ok.0))

pub insert-requires-2 : goal.insert-requires-2
insert-requires-2 g c =
    let kept = c.self.invariant in
    let gap = rw c.unwrap_err-position.ensures at c.search.ensures.absent in
    omega (arith, gap_below _ _ _ kept.paired kept.ascending c.self.view_is _ _ gap, kept.paired, c.self.inside.values.ok.0)

pub unwrap-requires-2 : goal.unwrap-requires-2
unwrap-requires-2 g c =
    let kept = c.self.invariant in
    c.insert-2.ensures.succeeds (omega (arith, len_keys _ _ _ kept.paired kept.ascending c.self.view_is, kept.paired, c.self.inside.values.ok.0))

pub invariant_of-self : goal.invariant_of-self
invariant_of-self g c =
    let kept = c.self.invariant in
    let gap = rw c.unwrap_err-position.ensures at c.search.ensures.absent in
    let keys = rw c.unwrap.ensures at c.insert.ensures.items in
    let values = rw c.unwrap-2.ensures at c.insert-2.ensures.items in
    let key_count = rw c.unwrap.ensures at c.insert.ensures.len in
    let value_count = rw c.unwrap-2.ensures at c.insert-2.ensures.len in
    let both : zip c.insert.new.self.items c.insert-2.new.self.items ≡ entries (map_insert c.args.self.now c.args.key c.args.value) = rw (keys, values) (pairs_more _ _ _ kept.paired kept.ascending c.self.view_is _ _ _ gap) in
    record {
      ascending = ascending_entries _ _ both;
      paired = omega (arith, kept.paired, c.self.inside.keys.ok.0, c.self.inside.values.ok.0, c.insert.new.self.ok.0, c.insert-2.new.self.ok.0);
      few = omega (arith, len_keys _ _ _ kept.paired kept.ascending c.self.view_is, c.self.inside.keys.ok.0, c.insert.new.self.ok.0);
      keys_reserved = omega arith;
      values_reserved = omega arith;
    }

pub returns : goal.returns
returns g c =
    let kept = c.self.invariant in
    let gap = rw c.unwrap_err-position.ensures at c.search.ensures.absent in
    let keys = rw c.unwrap.ensures at c.insert.ensures.items in
    let values = rw c.unwrap-2.ensures at c.insert-2.ensures.items in
    let both : zip c.insert.new.self.items c.insert-2.new.self.items ≡ entries (map_insert c.args.self.now c.args.key c.args.value) = rw (keys, values) (pairs_more _ _ _ kept.paired kept.ascending c.self.view_is _ _ _ gap) in
    record { inserted = from_sorted-entries _ _ both }
