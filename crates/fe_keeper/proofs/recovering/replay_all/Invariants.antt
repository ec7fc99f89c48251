use Rattle.std.proofs.Common.{ℕ, ◌+◌, ◌-◌, List}
use Rattle.fe_journal.specs.Contents.{Lists}
use Rattle.fe_journal.specs.Layout.{area_bytes}
use Rattle.fe_keeper.specs.Opened.{IsListing}
use Rattle.fe_keeper.proofs.Going.{IsGoingOn}
use Rattle.fe_keeper.proofs.recovering.replay_all.Given as goal

abbrev pub invariant-loop-payload : goal.invariant-loop-payload
invariant-loop-payload l = record {
  listing : IsListing l.groups;
  going : (payloads : List (List ℕ)) → Lists l.fn.groups payloads → IsGoingOn l.format payloads (l.fn.groups.start + l.fn.groups.at) l.groups l.fn.state l.state;
}

abbrev pub decreases-loop-payload : goal.decreases-loop-payload
decreases-loop-payload l = area_bytes - l.groups.at
