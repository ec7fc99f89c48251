use Rattle.std.proofs.Common.{◌-◌, ◌<◌}
use Rattle.fe_journal.specs.Store.{Reaches}
use Rattle.fe_journal.proofs.scan.scan.Given as goal

abbrev pub invariant-loop-at : goal.invariant-loop-at
invariant-loop-at l = record { within : l.at < 1048576; reaches : Reaches l.format l.area l.at }

abbrev pub decreases-loop-at : goal.decreases-loop-at
decreases-loop-at l = 1048576 - l.at
