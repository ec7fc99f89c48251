use Rattle.std.proofs.Common.{◌+◌, drop, refl, arith}
use Rattle.std.proofs.lemmas.List.{drop_more}
use Rattle.fe_codec.proofs.GroupLaws.{puts_one}
use Rattle.fe_codec.proofs.groups.put_group.Goals as goal

pub loop-entry-init : goal.loop-entry-init
loop-entry-init c =
    let e = c.in_ok-reserve.ensures in
    record { items = rw e.items refl; each = c.requires.each; room = rw c.record_bytes.ensures.value at e.ok; grows = e.capacity; fits = λ g. g }

pub loop-entry-preserved : goal.loop-entry-preserved
loop-entry-preserved c =
    let left = drop_more c.args.entries.now c.loop-entry.entry-index c.entry-item.result (omega arith) in
    let e = c.put_entry.ensures in
    puts_one c.args.format _ _ _ _ _ (drop (c.loop-entry.entry-index + 1) c.args.entries.now) c.entry-item.result _ _ _ _ _ c.put_entry.result
    (rw (← c.entry-item.is) at left) e.ok e.room c.loop-entry.out.ok.0 c.put_entry.new.out.ok.0 e.capacity e.fits c.loop-entry.invariant
