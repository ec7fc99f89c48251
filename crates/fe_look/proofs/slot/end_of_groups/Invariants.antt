use Rattle.std.proofs.Common.{◌-◌, ◌<◌, ◌≡◌, ℕ, List}
use Rattle.fe_disk.specs.Disk.{Rises}
use Rattle.fe_look.specs.Reading.{HasRead, KeepsDisk, SyncsJust}
use Rattle.fe_look.specs.Slot.{EndsAt, GatesEnd}
use Rattle.fe_look.proofs.slot.end_of_groups.Given as goal

abbrev pub invariant-loop-at : goal.invariant-loop-at
invariant-loop-at g l = record {
  leads : g.D.Disk.honest l.fn.disk → (ns : List ℕ) (end : ℕ) → GatesEnd (g.D.Disk.seen l.fn.disk) l.area l.at ns end → EndsAt (g.D.Disk.seen l.fn.disk) l.area end;
  follows : g.D.Disk.honest l.fn.disk → (end : ℕ) → EndsAt (g.D.Disk.seen l.fn.disk) l.area end → (ns : List ℕ) × GatesEnd (g.D.Disk.seen l.fn.disk) l.area l.at ns end;
  still : g.D.Disk.failures l.disk ≡ g.D.Disk.failures l.fn.disk;
  works : 0 < l.at → Rises (g.D.Disk.failures l.fn.disk) (g.D.Disk.failures l.disk) → ⊥;
  read : 0 < l.at → HasRead 1 (g.D.Disk.calls l.fn.disk) (g.D.Disk.calls l.disk);
  unsynced : SyncsJust 0 (g.D.Disk.calls l.fn.disk) (g.D.Disk.calls l.disk);
  kept : KeepsDisk g.D.Disk l.fn.disk l.disk;
}

abbrev pub decreases-loop-at : goal.decreases-loop-at
decreases-loop-at g l = 1048576 - l.at
