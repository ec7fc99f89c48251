use Rattle.std.proofs.Common.{◌<◌, ◌≡◌, ◌+◌, ◌*◌, true, false}
use Rattle.fe_journal.specs.Damage.{IsUnformatted}
use Rattle.fe_look.specs.Reading.{HasRead, KeepsDisk, ReadsJust, SyncsJust}
use Rattle.fe_look.proofs.reading.read_bytes.Given as goal

abbrev pub invariant-loop-k : goal.invariant-loop-k
invariant-loop-k g l = record {
  never : g.D.Disk.honest l.fn.disk → l.is_formatted ≡ true → ⊥;
  tells : g.D.Disk.honest l.fn.disk → 0 < l._k → IsUnformatted (g.D.Disk.seen l.fn.disk);
  still : g.D.Disk.failures l.disk ≡ g.D.Disk.failures l.fn.disk;
  read : HasRead (4 * l._k) (g.D.Disk.calls l.fn.disk) (g.D.Disk.calls l.disk);
  headers : l.is_formatted ≡ false → ReadsJust (4 * l._k) (g.D.Disk.calls l.fn.disk) (g.D.Disk.calls l.disk);
  slots : l.is_formatted ≡ true → HasRead (4 * l._k + 5) (g.D.Disk.calls l.fn.disk) (g.D.Disk.calls l.disk);
  unsynced : SyncsJust 0 (g.D.Disk.calls l.fn.disk) (g.D.Disk.calls l.disk);
  kept : KeepsDisk g.D.Disk l.fn.disk l.disk;
}
