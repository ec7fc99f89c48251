use Rattle.std.proofs.Common.{◌≤◌, ◌+◌, ◌-◌, length, take}
use Rattle.fe_client.specs.Events.{received}
use Rattle.fe_client.proofs.receiving.receive_all.Given as goal

-- a front is received
abbrev pub invariant-loop-done : goal.invariant-loop-done
invariant-loop-done g l = record {
  within : l.done ≤ length l.buffer;
  received : g.E.Streams.leads l.initial.streams (received (take l.done l.buffer)) l.streams;
  few : l.reads ≤ l.initial.reads + l.done;
}

abbrev pub decreases-loop-done : goal.decreases-loop-done
decreases-loop-done g l = length l.buffer - l.done
