use Rattle.std.proofs.Common.{◌≡◌, sym, arith}
use Rattle.std.specs.FinMap.Entries.{where_key}
use Rattle.std.specs.List.{zip}
use Rattle.std.specs.Ordering.{nat_cmp}
use Rattle.fe_table.proofs.TableLemmas.{but, get_absent, ascending_where_key, from_sorted-remove, remove_absent}
use Rattle.fe_table.proofs.Pairs.{key_below, value_found, pairs_less}
use Rattle.fe_table.proofs.table.Table.remove.Goals as goal

pub remove-requires : goal.remove-requires
remove-requires g c =
    let kept = c.self.invariant in
    omega (arith, key_below _ _ _ kept.paired kept.ascending c.self.view_is _ _ c.in-Ok.ensures.found, c.self.inside.keys.ok.0)

pub invariant_of-self : goal.invariant_of-self
invariant_of-self g c =
    let kept = c.self.invariant in
    let left : zip c.remove.new.self.items c.remove-in-Ok.new.self.items ≡ where_key nat_cmp (but c.args.key) (zip c.self.inside.keys.items c.self.inside.values.items) =
    rw (c.remove.ensures.items, c.remove-in-Ok.ensures.items) (pairs_less _ _ _ kept.paired kept.ascending c.self.view_is _ _ c.in-Ok.ensures.found) in
    record {
      ascending = ascending_where_key (but c.args.key) _ _ left kept.ascending;
      paired = omega (arith, kept.paired, c.self.inside.keys.ok.0, c.self.inside.values.ok.0, c.remove.new.self.ok.0, c.remove-in-Ok.new.self.ok.0);
      few = omega (arith, c.self.inside.keys.ok.0, c.remove.new.self.ok.0);
      keys_reserved = rw c.remove.ensures.capacity kept.keys_reserved;
      values_reserved = rw c.remove-in-Ok.ensures.capacity kept.values_reserved;
    }

pub returns-in-Ok-clause-value : goal.returns-in-Ok-clause-value
returns-in-Ok-clause-value g c =
    let kept = c.self.invariant in
    sym (value_found _ _ _ kept.paired kept.ascending c.self.view_is _ _ _ c.remove-in-Ok.ensures.value c.in-Ok.ensures.found)

pub returns-in-Ok-clause-removed : goal.returns-in-Ok-clause-removed
returns-in-Ok-clause-removed g c =
    let kept = c.self.invariant in
    let left : zip c.remove.new.self.items c.remove-in-Ok.new.self.items ≡ where_key nat_cmp (but c.args.key) (zip c.self.inside.keys.items c.self.inside.values.items) =
    rw (c.remove.ensures.items, c.remove-in-Ok.ensures.items) (pairs_less _ _ _ kept.paired kept.ascending c.self.view_is _ _ c.in-Ok.ensures.found) in
    from_sorted-remove _ _ _ _ kept.ascending c.self.view_is left

pub returns-in-Err-clause-value : goal.returns-in-Err-clause-value
returns-in-Err-clause-value g c = sym (get_absent _ _ c.self.invariant.ascending c.self.view_is _ _ c.in-Err.ensures.absent)

pub returns-in-Err-clause-removed : goal.returns-in-Err-clause-removed
returns-in-Err-clause-removed g c = remove_absent _ _ (get_absent _ _ c.self.invariant.ascending c.self.view_is _ _ c.in-Err.ensures.absent)
