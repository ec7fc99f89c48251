use Rattle.std.proofs.Common.{◌-◌, ◌≡◌, ◌<◌, ◌≤◌, ℕ}
use Rattle.fe_desk.specs.within.Desk.{port_bit}
use Rattle.fe_desk.proofs.port_set.PortSet.next.Given as goal

-- the set has no port from the first index on to this one
abbrev pub invariant-loop-at : goal.invariant-loop-at
invariant-loop-at l = record { reached : l.fn.from ≤ l.at; within : l.at ≤ l.end; passed : (i : ℕ) → l.fn.from ≤ i → i < l.at → port_bit l.self i ≡ 0 }

abbrev pub decreases-loop-at : goal.decreases-loop-at
decreases-loop-at l = l.end - l.at
