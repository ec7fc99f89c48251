use Rattle.std.proofs.Common.{◌≡◌, take}
use Rattle.fe_state.specs.DroppedAnswers.{keeping_all}
use Rattle.fe_state.proofs.sessions.keep_again.Given as goal

abbrev pub invariant-loop-position : goal.invariant-loop-position
invariant-loop-position l = record {
  floor : l.here.floor ≡ l.initial.here.floor;
  kept : l.here.kept ≡ keeping_all l.initial.here.kept (take l.position l.log.dropped);
}
