use Rattle.std.proofs.Common.{length}
use Rattle.fe_schedules.specs.Runs.{IsRun}
use Rattle.fe_schedules.proofs.Taking.{Taken}
use Rattle.fe_schedules.proofs.run.Run.run_lines.Given as goal

-- the lines before are taken
abbrev pub invariant-loop-line : goal.invariant-loop-line
invariant-loop-line g l = record { run : IsRun l.self; taken : Taken (g.W.Sink.contents l.initial.writer) l.initial.self (g.W.Sink.contents l.writer) l.self l.piece l.rest }

abbrev pub decreases-loop-line : goal.decreases-loop-line
decreases-loop-line g l = length l.rest
