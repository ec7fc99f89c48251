use Rattle.std.proofs.Common.{arith}
use Rattle.fe_state.proofs.DroppedLemmas.{log_shortened}
use Rattle.fe_state.proofs.undo_log.UndoLog.take.Goals as goal

pub returns-clause-shortened : goal.returns-clause-shortened
returns-clause-shortened c =
    log_shortened c.args.self.now c.self.inside.room c.self.inside.undos.items c.pop.new.self.items c.self.inside.dropped.items c.truncate.new.self.items c.unwrap-session_change.result c.saturating_sub-left.result
    c.self.view_is
    (rw c.unwrap-session_change.ensures at c.pop.ensures.items)
    (omega (arith, c.saturating_sub-left.ensures, c.len.ensures, c.answers.ensures, c.self.inside.dropped.ok.0))
    c.truncate.ensures.items
