use Rattle.std.proofs.Common.{◌≡◌, ◌+◌, ◌-◌, ◌^◌}
use Rattle.fe_client.specs.Ends.{Cause}
use Rattle.fe_client.specs.Input.{kept_of}
use Rattle.fe_client.proofs.Taken.{Taking}
use Rattle.fe_client.proofs.input.Input.next_line.Given as goal

-- a front of the line is taken
abbrev pub invariant-loop-self : goal.invariant-loop-self
invariant-loop-self g l = record {
  number : l.self.number ≡ l.fn.self.number + 1;
  counted : g.E.Streams.because l.streams (Cause.ReadTimes l.self.reads);
  taking : Taking g.E.Streams.leads l.fn.streams l.streams (kept_of l.fn.self) l.self.line.items (kept_of l.self);
}

abbrev pub decreases-loop-self : goal.decreases-loop-self
decreases-loop-self g l = 2 ^ 40 - l.self.reads
