use Rattle.std.proofs.Common.{refl, arith, rules}
use Rattle.std.specs.FinMap.{len-entries, entries_sorted}
use Rattle.fe_table.proofs.TableLemmas.{search_finds, from_sorted-entries}
use Rattle.fe_table.proofs.TablePositions.{put_here, get_lent}
use Rattle.fe_table.proofs.table.Table.get_mut.Goals as goal

pub unwrap-position-requires : goal.unwrap-position-requires
unwrap-position-requires g c = search_finds _ c.args.self.now (entries_sorted c.args.self.now) (from_sorted-entries _ _ refl) _ _ c.search.ensures.absent c.requires.present

pub at_mut-requires : goal.at_mut-requires
at_mut-requires g c =
    let at = rw c.unwrap-position.ensures at c.search.ensures.found in
    (search rules, omega (arith, len-entries c.args.self.now, at.in_range))

pub returns : goal.returns
returns g c =
    let at = rw c.unwrap-position.ensures at c.search.ensures.found in (
      (refl, λ w. (put_here _ _ _ at w).0),
      record { writes_back = tt; value = get_lent _ _ _ at _ c.at_mut.ensures.value },
    )
