use Rattle.std.proofs.Common.{◌≡◌, ◌⊎◌, false, None}
use Rattle.std.specs.Prelude.{◌↔◌}
use Rattle.fe_keeper.specs.Stands.{EachStandsFor}
use Rattle.fe_hall.specs.Commits.{AppendsAreNoted, Commits}
use Rattle.fe_keeper.specs.Ends.{IsStill}
use Rattle.fe_hall.proofs.committing.commit_side.Given as goal

abbrev pub invariant-loop : goal.invariant-loop
invariant-loop g l =
    record {
      commits : (all : Commits g.D.Disk l.initial.keeper l.keeper None) × AppendsAreNoted g.D.Disk all.appends None l.initial.seat l.seat;
      stands : g.D.Disk.honest l.keeper.store.disk → l.keeper.store.has_failed ≡ false → EachStandsFor g.D.Disk l.keeper.store.disk l.keeper.state;
      still : IsStill g.D.Disk l.initial.keeper l.keeper;
      begun : (l.keeper ≡ l.initial.keeper) ⊎ (l.keeper.store.has_failed ≡ false);
      honesty : g.D.Disk.honest l.keeper.store.disk ↔ g.D.Disk.honest l.initial.keeper.store.disk;
      next : (goal.iterator-loop g).can_next l.iterator';
      finite : (goal.iterator-loop g).is_finite l.iterator';
    }
