use Rattle.std.proofs.Common.{◌≡◌, ℕ, ◌-◌, List, take, drop, sym, ◌∙◌, arith}
use Rattle.byteorder.specs.Endian.{big_number}
use Rattle.byteorder.specs.Numbers.{big_from-take}
use Rattle.fe_journal.proofs.Openings.{number_read}
use Rattle.fe_look.proofs.header.HeaderBytes.generation.Goals as goal

pub returns : goal.returns
returns c =
    let fields : List ℕ = c.args.self.now.fields in
    let read : c.read_u64.result ≡ big_number 8 (take (20 - 8) (drop 8 fields)) = c.read_u64.ensures in
    read ∙ big_from-take 0 8 12 (drop 8 fields) (omega arith) ∙ sym (number_read fields 8 8)
