use Rattle.std.proofs.Common.{◌<◌, length, refl, sym, ap, ◌∙◌, arith}
use Rattle.std.proofs.Math.ListN.{length-set}
use Rattle.std.specs.Option.{option_map}
use Rattle.fe_table.proofs.TableLemmas.{from_sorted-entries, ascending_entries}
use Rattle.fe_table.proofs.Pairs.{len_keys, key_here, pair_there, pairs_written, put_at_key}
use Rattle.fe_table.proofs.table.Table.at_mut.Goals as goal

pub index_mut-requires : goal.index_mut-requires
index_mut-requires g c =
    let kept = c.self.invariant in
    omega (arith, len_keys _ _ _ kept.paired kept.ascending c.self.view_is, kept.paired, c.self.inside.values.ok.0, c.requires.taken)

pub invariant_of-self-lent : goal.invariant_of-self-lent
invariant_of-self-lent g c = λ w.
    let kept = c.self.invariant in
    let within : c.args.position < length c.self.inside.keys.items = omega (arith, len_keys _ _ _ kept.paired kept.ascending c.self.view_is, c.requires.taken) in
    record {
      ascending = ascending_entries _ _ (pairs_written _ _ _ kept.paired kept.ascending c.self.view_is _ _ w within c.index_mut.ensures.value);
      paired = simp length-set kept.paired;
      few = kept.few;
      keys_reserved = kept.keys_reserved;
      values_reserved = kept.values_reserved;
    }

pub returns : goal.returns
returns g c =
    let kept = c.self.invariant in
    let within : c.args.position < length c.self.inside.keys.items = omega (arith, len_keys _ _ _ kept.paired kept.ascending c.self.view_is, c.requires.taken) in
    let there = pair_there _ _ _ kept.paired kept.ascending c.self.view_is _ _ _ within (key_here _ _ _ kept.paired kept.ascending c.self.view_is _ within) c.index_mut.ensures.value in (
      (refl, λ w. from_sorted-entries _ _ (pairs_written _ _ _ kept.paired kept.ascending c.self.view_is _ _ w within c.index_mut.ensures.value) ∙ sym (put_at_key _ _ _ kept.paired kept.ascending c.self.view_is _ _ w there)),
      record { writes_back = tt; value = ap (option_map (λ e. e.1)) there },
    )
