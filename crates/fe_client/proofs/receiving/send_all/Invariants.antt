use Rattle.std.proofs.Common.{◌≤◌, ◌-◌, length, take}
use Rattle.fe_client.specs.Events.{sent}
use Rattle.fe_client.proofs.receiving.send_all.Given as goal

-- a front is sent
abbrev pub invariant-loop-done : goal.invariant-loop-done
invariant-loop-done g l = record {
  within : l.done ≤ length l.bytes;
  sent : g.E.Streams.leads l.initial.streams (sent (take l.done l.bytes)) l.streams;
}

abbrev pub decreases-loop-done : goal.decreases-loop-done
decreases-loop-done g l = length l.bytes - l.done
