use Rattle.std.proofs.Common.{sym, subst}
use Rattle.fe_journal.proofs.FirstStore.{first_keeps}
use Rattle.fe_journal.proofs.journal.Journal.format_in.Goals as goal

pub returns-in-Ok-clause-formatted : goal.returns-in-Ok-clause-formatted
returns-in-Ok-clause-formatted g c = λ honest.
    let there = subst (λ (d : g.row.D.Denot). g.D.Disk.honest d) (sym c.into_disk-disk.ensures.disk) honest in
    first_keeps g.D.Disk c.opened.result c.write_store.new.disk c.args.format c.opened.ensures (c.in-Ok.ensures.holds there) (c.in-Ok.ensures.settled there)
