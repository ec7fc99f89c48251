use Rattle.std.proofs.Common.{◌≡◌, ℕ, List, [], ◌<◌, length, string_bytes}
use Rattle.std.specs.Io.KnownBytes.{Consumes}
use Rattle.fe_schedules.specs.Schedule.{IsReadMore}
use Rattle.fe_schedules.specs.Runs.{SoFar}
use Rattle.fe_schedules.proofs.schedule.run_all.Given as goal

-- what was read is taken, and all that is printed is written
abbrev pub invariant-loop-turn : goal.invariant-loop-turn
invariant-loop-turn g l = record {
  room : 0 < length l.piece;
  none_kept : string_bytes l.run.text ≡ [];
  reads : IsReadMore g.R.Source.was_read l.initial.reader l.reader l.turn;
  so : (read : List ℕ) × Consumes (g.R.Source.remaining l.initial.reader) (g.R.Source.remaining l.reader) read × SoFar read (g.W.Sink.contents l.initial.writer) (g.W.Sink.contents l.writer) l.run;
}
