use Rattle.std.proofs.Common.{◌-◌, ◌^◌}
use Rattle.fe_client.specs.Ends.{Cause}
use Rattle.fe_client.specs.Input.{kept_of}
use Rattle.fe_client.proofs.Calls.{SoFar}
use Rattle.fe_client.proofs.calling.converse.Given as goal

-- what the lines that were taken ask is done
abbrev pub invariant-loop-talk : goal.invariant-loop-talk
invariant-loop-talk g l = record {
  so_far : SoFar g.E.Streams.leads l.initial.streams l.streams (kept_of l.input) l.input.number l.talk.reads;
  counted : g.E.Streams.because l.streams (Cause.ReadTimes l.input.reads);
}

abbrev pub decreases-loop-talk : goal.decreases-loop-talk
decreases-loop-talk g l = 2 ^ 64 - l.input.number
