use Rattle.std.proofs.Common.{◌≡◌, ◌≤◌, length, take}
use Rattle.std.specs.Io.KnownBytes.{Appends}
use Rattle.fe_text.specs.Counted.{HasBroken}
use Rattle.fe_text.specs.declared.fault.StreamFault.{StreamFault}
use Rattle.fe_text.proofs.counted_writer.CountedWriter.write_all.Given as goal

-- a prefix of the text is written, and each turn made a write; what was flushed is so still if nothing is written
abbrev pub invariant-loop-turn : goal.invariant-loop-turn
invariant-loop-turn g l = record {
  within : l.done ≤ length l.text;
  written : Appends (g.W.Write.contents l.initial.self.calls.stream) (g.W.Write.contents l.self.calls.stream) (take l.done l.text);
  counts : l.turn ≤ l.self.calls.count;
  flushed : l.done ≡ 0 → l.self.calls.is_flushed ≡ l.initial.self.calls.is_flushed;
  stays : (fault : StreamFault) → HasBroken l.initial.self.calls fault → HasBroken l.self.calls fault;
}
