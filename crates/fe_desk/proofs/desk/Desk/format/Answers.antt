use Rattle.std.proofs.Common.{◌≡◌}
use Rattle.fe_journal.specs.Layout.{device_bytes}
use Rattle.fe_desk.proofs.Openings.{size_faulty}
use Rattle.fe_desk.proofs.desk.Desk.format.Goals as goal

pub returns-in-Ok-clause-unformatted : goal.returns-in-Ok-clause-unformatted
returns-in-Ok-clause-unformatted g c =
    size_faulty c.over.result c.in-Ok.keeper (g.D.Disk.size c.args.blank ≡ device_bytes) c.in-Ok.ensures.sized c.over.ensures.fault
