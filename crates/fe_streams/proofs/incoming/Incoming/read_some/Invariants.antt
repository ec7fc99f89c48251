use Rattle.std.proofs.Common.{◌≡◌, length}
use Rattle.std.specs.Io.KnownBytes.{Keeps}
use Rattle.fe_streams.proofs.incoming.Incoming.read_some.Given as goal

-- nothing is read yet
abbrev pub invariant-loop : goal.invariant-loop
invariant-loop g l = record {
  began : l.self.began ≡ l.initial.self.began;
  kept : Keeps (g.R.Read.remaining l.initial.self.reader) (g.R.Read.remaining l.self.reader);
  room : length l.buffer ≡ length l.initial.buffer;
}
