use Rattle.std.proofs.Common.{◌≡◌, ◌-◌, ◌∙◌, ap, subst, sym, arith}
use Rattle.std.proofs.lemmas.List.{length-reverse}
use Rattle.std.specs.Ordering.{nat_cmp}
use Rattle.std.specs.FinMap.{FinMap}
use Rattle.fe_state.specs.declared.kept.Kept.{Kept}
use Rattle.fe_state.specs.declared.undo.SessionChange.TheVariants as change
use Rattle.fe_state.specs.DroppedAnswers.{MayLower, WereDropped}
use Rattle.fe_state.specs.Sessions.{Session}
use Rattle.fe_state.proofs.DroppedLemmas.{answers_room, has_dropped}
use Rattle.fe_state.proofs.SessionLemmas.{kept_in_window, kept_raised, lowers_again}
use Rattle.fe_state.proofs.undo_log.UndoLog.settle.Goals as goal

pub drop_below-requires-clause-room : goal.drop_below-requires-clause-room
drop_below-requires-clause-room c =
    omega (arith, answers_room _ _ _ c.self.invariant (rw (← c.self.view_is) at c.requires.room), length-reverse c.self.inside.dropped.items, c.self.inside.dropped.ok.0)

pub returns-clause-settled : goal.returns-clause-settled
returns-clause-settled c = kept_raised c.here.inside.cells c.here.inside.floor _ c.here.view_is c.args.here.now c.args.floor (omega arith) (omega arith) c.drop_below.ensures.kept

pub returns-clause-lowered : goal.returns-clause-lowered
returns-clause-lowered c =
    let from : c.here.inside.floor ≡ c.drop_below.new.self.floor = ap (λ (x : Session). x.floor) c.here.view_is in
    subst (λ (x : Session). MayLower x c.args.here.now.floor) (sym (returns-clause-settled c))
    (lowers_again c.args.here.now c.drop_below.new.self c.args.floor c.requires.rise (omega (arith, c.here.invariant.least)) c.drop_below.ensures.floor c.drop_below.ensures.kept
    (kept_in_window c.here.inside.cells c.here.inside.floor _ c.here.view_is))

pub returns-clause-remembered : goal.returns-clause-remembered
returns-clause-remembered c =
    let dropped = subst (λ (m : FinMap nat_cmp Kept). WereDropped c.args.here.now.floor c.args.floor c.args.here.now.kept m c.self.inside.dropped.items c.drop_below.new.dropped.items)
    (c.drop_below.ensures.kept ∙ sym (ap (λ (x : Session). x.kept) (returns-clause-settled c)))
    c.drop_below.ensures.dropped in
    rw (← c.self.view_is) (has_dropped c.args.session (change.Settled c.args.here.now.floor) c.args.change c.self.inside.room c.self.inside.undos.items c.push_reserved.new.self.items
    c.self.inside.dropped.items c.drop_below.new.dropped.items c.args.here.now _ c.args.floor (c.len.result - c.len-first.result) dropped
    (omega (arith, c.len.ensures, c.len-first.ensures, c.self.inside.dropped.ok.0, c.drop_below.new.dropped.ok.0, c.drop_below.ensures.len))
    (rw c.floor-before.ensures.floor at c.push_reserved.ensures.items))
