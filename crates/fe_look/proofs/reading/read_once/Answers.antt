use Rattle.std.proofs.Common.{◌≡◌, ℕ, List, ◌++◌, length, take, drop, slice_index, Option, ◌∙◌, sym, subst}
use Rattle.fe_look.specs.Slot.{Counts, IsSlotCopy}
use Rattle.fe_look.specs.declared.header.HeaderBytes.{HeaderBytes}
use Rattle.fe_look.specs.Reading.{IsCopyOf}
use Rattle.fe_look.proofs.Copies.{copy_is}
use Rattle.fe_look.proofs.Slots.{lent_whole}
use Rattle.fe_look.proofs.reading.read_once.Goals as goal

pub returns-then-branch-clause-tells : goal.returns-then-branch-clause-tells
returns-then-branch-clause-tells g c = λ honest.
    let seen = g.D.Disk.seen c.args.disk.now in
    let whole : length seen ≡ g.D.Disk.size c.args.disk.now = (g.met.D.Disk.seen_is_image c.args.disk.now honest).whole in
    let found = subst (λ (o : Option (ℕ × HeaderBytes)). Counts seen o) c.in-Some.is (c.in_ok-slot.ensures.counts honest) in
    let same = (c.in_ok-slot.ensures.device.kept.reads honest).same in
    let copied = c.in_ok-read_slot.ensures.copied (c.in_ok-slot.ensures.device.kept.honesty.1 honest) in
    let start = c.as_mut_slice.result.now in
    let items : start ≡ c.in_ok-bytes.bytes.items = c.as_mut_slice.ensures.value in
    let room : length start ≡ 4202496 = subst (λ (l : List ℕ). length l ≡ 4202496) (sym items) c.in_ok-bytes.ensures.size in
    let zero : (i : ℕ) → slice_index start i ≡ 0 = subst (λ (l : List ℕ). (i : ℕ) → slice_index l i ≡ 0) (sym items) c.in_ok-bytes.ensures.zeros in
    let new = c.read_slot.new.bytes in
    let all : take c.in_ok-bytes.bytes.len (new ++ drop (length new) c.in_ok-bytes.bytes.items) ≡ new = lent_whole new c.in_ok-bytes.bytes.items c.in_ok-bytes.bytes.len (c.read_slot.ensures.same ∙ c.as_mut_slice.ensures.len) in
    let slot_copy = subst (λ (l : List ℕ). IsSlotCopy l c.in-Some.slot c.in-Some.header.fields start new) same copied in
    subst (λ (l : List ℕ). IsCopyOf seen l) (sym all) (copy_is seen start new c.in-Some.slot c.in-Some.header (whole ∙ c.requires.device) room zero found slot_copy)
