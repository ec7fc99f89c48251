use Rattle.std.proofs.Common.{◌≡◌, ℕ, ◌<◌, List, Option, length, ◌∙◌, subst}
use Rattle.std.specs.Prelude.{IfSome}
use Rattle.fe_look.specs.Slot.{EndsAt}
use Rattle.fe_look.proofs.Slots.{parts_read}
use Rattle.fe_look.proofs.slot.read_parts.Goals as goal

pub returns-in-Some-clause-parts : goal.returns-in-Some-clause-parts
returns-in-Some-clause-parts g c = λ honest.
    let seen = g.D.Disk.seen c.args.disk.now in
    let whole : length seen ≡ g.D.Disk.size c.args.disk.now = (g.met.D.Disk.seen_is_image c.args.disk.now honest).whole in
    let honest_1 = c.in_ok-read_part.ensures.device.kept.honesty.1 honest in
    let honest_2 = c.in_ok-end.ensures.device.kept.honesty.1 honest_1 in
    let same = (c.in_ok-read_part.ensures.device.kept.reads honest).same in
    let same_2 = (c.in_ok-end.ensures.device.kept.reads honest_1).same ∙ same in
    let parts = parts_read seen (g.D.Disk.seen c.end_of_groups.new.disk) c.args.bytes.now c.read_part.new.bytes c.read_part-2.new.bytes c.args.slot c.image_of-image.result c.area_of-area.result c.requires.is_slot (whole ∙ c.requires.device) c.requires.room same_2 c.image_of-image.ensures c.area_of-area.ensures (c.in_ok-read_part.ensures.part honest) (c.in_ok-read_part-2.ensures.part honest_2) in
    let ends = subst (λ (o : Option ℕ). IfSome o (EndsAt (g.D.Disk.seen c.read_part.new.disk) c.area_of-area.result)) c.in-Some.is (c.in_ok-end.ensures.ends honest_1) in
    let within = subst (λ (o : Option ℕ). IfSome o (λ end. end < 1048576)) c.in-Some.is c.in_ok-end.ensures.within in
    parts.1 c.in-Some.end within (subst (λ (l : List ℕ). EndsAt l c.area_of-area.result c.in-Some.end) same ends)

pub returns-in_default-clause-parts : goal.returns-in_default-clause-parts
returns-in_default-clause-parts g c = λ honest.
    let seen = g.D.Disk.seen c.args.disk.now in
    let whole : length seen ≡ g.D.Disk.size c.args.disk.now = (g.met.D.Disk.seen_is_image c.args.disk.now honest).whole in
    let honest_1 = c.in_ok-read_part.ensures.device.kept.honesty.1 honest in
    let honest_2 = c.in_ok-end.ensures.device.kept.honesty.1 honest_1 in
    let same = (c.in_ok-read_part.ensures.device.kept.reads honest).same in
    let same_2 = (c.in_ok-end.ensures.device.kept.reads honest_1).same ∙ same in
    let parts = parts_read seen (g.D.Disk.seen c.end_of_groups.new.disk) c.args.bytes.now c.read_part.new.bytes c.read_part-2.new.bytes c.args.slot c.image_of-image.result c.area_of-area.result c.requires.is_slot (whole ∙ c.requires.device) c.requires.room same_2 c.image_of-image.ensures c.area_of-area.ensures (c.in_ok-read_part.ensures.part honest) (c.in_ok-read_part-2.ensures.part honest_2) in
    parts.0
