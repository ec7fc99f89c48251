use Rattle.std.proofs.Common.{◌≡◌, ℕ, List, length, ◌∙◌, rules}
use Rattle.fe_look.proofs.Slots.{header_put}
use Rattle.fe_look.proofs.slot.read_slot.Goals as goal

pub returns-clause-copied : goal.returns-clause-copied
returns-clause-copied g c = λ honest.
    let fields : List ℕ = c.args.header.now.fields in
    let long : length fields ≡ 20 = search rules in
    header_put (g.D.Disk.seen c.args.disk.now) c.args.bytes.now c.read_parts.new.bytes c.put.new.bytes fields c.args.slot c.header_of.result c.image_of.result c.requires.is_slot (c.read_parts.ensures.same ∙ c.requires.room) long c.header_of.ensures c.image_of.ensures c.put.ensures (c.in_ok-read_parts.ensures.parts honest)
