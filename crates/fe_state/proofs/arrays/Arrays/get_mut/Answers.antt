use Rattle.std.proofs.Common.{refl, sym, ◌∙◌, arith, rules}
use Rattle.std.specs.FinMap.{len-entries}
use Rattle.fe_state.proofs.ArraysLemmas.{placed, position_there}
use Rattle.fe_table.proofs.TablePositions.{put_here, get_lent}
use Rattle.fe_state.proofs.arrays.Arrays.get_mut.Goals as goal

pub unwrap-position-requires : goal.unwrap-position-requires
unwrap-position-requires c = position_there _ _ _ c.position_of.ensures.none (rw c.self.view_is c.requires.present)

pub at_mut-requires : goal.at_mut-requires
at_mut-requires c =
    let at = placed _ _ _ _ c.unwrap-position.ensures c.position_of.ensures.there in
    (search rules, omega (arith, len-entries c.self.inside.table, at.in_range))

pub invariant_of-self-lent : goal.invariant_of-self-lent
invariant_of-self-lent c = λ w.
    let at = placed _ _ _ _ c.unwrap-position.ensures c.position_of.ensures.there in
    record { order = c.self.invariant.order ∙ sym (put_here _ _ _ at w).1; room = c.self.invariant.room }

pub returns : goal.returns
returns c =
    let at = placed _ _ _ _ c.unwrap-position.ensures c.position_of.ensures.there in
    rw (← c.self.view_is) (
      (refl, λ w. (put_here _ _ _ at w).0),
      record { writes_back = tt; value = get_lent _ _ _ at _ c.at_mut.ensures.value },
    )
