use Rattle.std.proofs.Common.{◌≡◌, length, ◌∙◌}
use Rattle.std.proofs.lemmas.Result.{on_ok_weaker}
use Rattle.fe_journal.proofs.FirstStore.{first_written}
use Rattle.fe_journal.proofs.formatting.write_first.Goals as goal

pub returns-clause-first : goal.returns-clause-first
returns-clause-first g c = λ honest cleared.
    let seen = g.D.Disk.seen c.args.disk.now in
    let whole : length seen ≡ g.D.Disk.size c.args.disk.now = (g.met.D.Disk.seen_is_image c.args.disk.now honest).whole in
    let honest_1 = c.write_at.ensures.device.honesty.1 honest in
    let one = c.in_ok-write_at.ensures.written honest in
    on_ok_weaker c.write_at-2.result (λ two.
    first_written c.args.format seen (g.D.Disk.seen c.write_at.new.self) (g.D.Disk.seen c.write_at-2.new.self) c.header_fields.result c.header_of.result c.image_of.result (whole ∙ c.requires.device) cleared c.header_of.ensures c.image_of.ensures c.header_fields.ensures one two)
    (c.write_at-2.ensures.written honest_1)
