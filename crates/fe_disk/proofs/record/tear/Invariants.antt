use Rattle.std.proofs.Common.{◌≡◌, ◌≤◌, length}
use Rattle.fe_disk.specs.Disk.{IsImage}
use Rattle.fe_disk.specs.Memory.{AreWithin, image_with_tears}
use Rattle.fe_disk.specs.within.Record.{newest_first}
use Rattle.fe_disk.proofs.record.tear.Given as goal

abbrev pub invariant-loop-rest : goal.invariant-loop-rest
invariant-loop-rest l = record {
  shorter : length l.rest ≤ length l.writes;
  bytes : IsImage (length l.fn.image) l.image;
  within : AreWithin (length l.image) (newest_first l.rest);
  same : image_with_tears l.torn l.image (newest_first l.rest) ≡ image_with_tears l.fn.torn l.fn.image (newest_first l.writes);
}

abbrev pub decreases-loop-rest : goal.decreases-loop-rest
decreases-loop-rest l = length l.rest
