use Rattle.std.proofs.Common.{◌-◌, ◌∙◌, arith}
use Rattle.std.proofs.lemmas.List.{length-reverse}
use Rattle.fe_state.specs.declared.undo.SessionChange.TheVariants as change
use Rattle.fe_state.proofs.DroppedLemmas.{answers_room, has_dropped}
use Rattle.fe_state.proofs.SessionLemmas.{none_above}
use Rattle.fe_state.proofs.undo_log.UndoLog.close.Goals as goal

pub drop_below-requires-clause-room : goal.drop_below-requires-clause-room
drop_below-requires-clause-room c =
    omega (arith, answers_room _ _ _ c.self.invariant (rw (← c.self.view_is) at c.requires.room), length-reverse c.self.inside.dropped.items, c.self.inside.dropped.ok.0)

pub returns-clause-remembered : goal.returns-clause-remembered
returns-clause-remembered c =
    rw (← c.self.view_is) (has_dropped c.args.session (change.Closed c.args.here.now.floor) c.args.change c.self.inside.room c.self.inside.undos.items c.push_reserved.new.self.items
    c.self.inside.dropped.items c.drop_below.new.dropped.items c.args.here.now c.drop_below.new.self _ (c.len.result - c.len-first.result) c.drop_below.ensures.dropped
    (omega (arith, c.len.ensures, c.len-first.ensures, c.self.inside.dropped.ok.0, c.drop_below.new.dropped.ok.0, c.drop_below.ensures.len))
    (rw c.floor-before.ensures.floor at c.push_reserved.ensures.items))

pub returns-clause-emptied : goal.returns-clause-emptied
returns-clause-emptied c = (rw c.floor-before.ensures.floor at c.drop_below.ensures.kept) ∙ none_above c.args.here.now c.drop_below.ensures.in_window
