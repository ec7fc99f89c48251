use Rattle.std.proofs.Common.{◌≡◌, ℕ, length, ◌∙◌, ap, arith}
use Rattle.fe_disk.specs.Disk.{bytes_at}
use Rattle.fe_journal.specs.Layout.{header_of}
use Rattle.fe_journal.proofs.Readings.{header_there}
use Rattle.fe_journal.proofs.store.read_header.Goals as goal

pub returns-clause-header : goal.returns-clause-header
returns-clause-header g c = λ honest.
    let disk = c.args.disk.now in
    let seen = g.D.Disk.seen disk in
    let whole : length seen ≡ g.D.Disk.size disk = (g.met.D.Disk.seen_is_image disk honest).whole in
    let at : c.header_of.result ≡ header_of c.args.slot = c.header_of.ensures in
    let there : c.read_at.new.buffer ≡ bytes_at seen (header_of c.args.slot) 4096 =
    c.in_ok-read_at.ensures.read honest ∙ ap (λ (k : ℕ). bytes_at seen k (length c.args.bytes.now)) at ∙ ap (λ (n : ℕ). bytes_at seen (header_of c.args.slot) n) c.requires.header in
    header_there seen (header_of c.args.slot) c.read_at.new.buffer c.header_in.result there (omega (arith, whole, c.requires.device, c.requires.is_slot)) c.header_in.ensures
