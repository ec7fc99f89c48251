use Rattle.std.proofs.Common.{◌≡◌, ℕ, ◌+◌, ◌≤◌, List, length, take, drop, sym, ◌∙◌, ap, arith, length-take}
use Rattle.std.proofs.lemmas.List.{take-take}
use Rattle.fe_disk.specs.Disk.{bytes_at}
use Rattle.fe_journal.specs.Layout.{image_of, area_of}
use Rattle.fe_journal.proofs.Readings.{call_reads, reads_again}
use Rattle.fe_journal.proofs.store.rely_on.Goals as goal

-- the first bytes of what was read are bytes of the disk
front : (seen part : List ℕ) (at at' n k : ℕ) → part ≡ bytes_at seen at n → at' ≡ at → k ≤ length part → take k part ≡ bytes_at seen at' (length (take k part))
front seen part at at' n k is same low =
    let long : length (take k part) ≡ k = length-take k part ∙ omega (arith, low) in
    let within : k ≤ n = omega (arith, low, ap length is, length-take n (drop at seen)) in
    ap (take k) is ∙ take-take k n (drop at seen) within ∙ ap (λ (m : ℕ). take m (drop at seen)) (sym long) ∙ ap (λ (a : ℕ). take (length (take k part)) (drop a seen)) (sym same)

pub rely_on-requires-clause-right : goal.rely_on-requires-clause-right
rely_on-requires-clause-right g c = λ honest.
    let seen = g.D.Disk.seen c.args.disk.now in
    let store = c.args.store.now in
    let part = c.deref.result.now in
    let is = c.requires.store honest in
    let here : part ≡ bytes_at seen (image_of store.slot) store.header.image_length = c.deref.ensures.value ∙ is.read.image_is in
    let head : c.min-head.result ≤ length part = omega (arith, c.min-head.ensures, c.len.ensures, ap length c.deref.ensures.value) in
    front seen part (image_of store.slot) c.image_of.result store.header.image_length c.min-head.result here c.image_of.ensures head

pub rely_on-requires-2-clause-right : goal.rely_on-requires-2-clause-right
rely_on-requires-2-clause-right g c = λ honest.
    let first = c.args.disk.now in
    let before = c.rely_on.ensures.device.honesty.0 honest in
    let seen = g.D.Disk.seen c.rely_on.new.self in
    let same : seen ≡ g.D.Disk.seen first = c.rely_on.ensures.same before in
    let store = c.args.store.now in
    let part = c.deref-2.result.now in
    let is = c.requires.store before in
    let there : part ≡ bytes_at (g.D.Disk.seen first) (area_of store.slot) 1048576 = c.deref-2.ensures.value ∙ is.read.area_is in
    let here : part ≡ bytes_at seen (area_of store.slot) 1048576 = there ∙ ap (λ (l : List ℕ). bytes_at l (area_of store.slot) 1048576) (sym same) in
    let whole = c.requires.whole.parts_whole in
    let low : store.parts.used + 1 ≤ length part = omega (arith, whole.area_whole, whole.within, ap length c.deref-2.ensures.value, c.deref-2.ensures.len) in
    front seen part (area_of store.slot) c.area_of.result 1048576 (store.parts.used + 1) here c.area_of.ensures low

pub returns-clause-reads : goal.returns-clause-reads
returns-clause-reads g c = λ honest.
    let old = c.args.disk.now in
    let mid = c.rely_on.new.self in
    let new = c.rely_on-2.new.self in
    let then_honest = c.rely_on.ensures.device.honesty.1 honest in
    let one = call_reads g.D.Disk old mid (λ image left. g.met.D.Disk.only_now old image honest left) (c.rely_on.ensures.same honest) (c.rely_on.ensures.stop honest) (c.rely_on.ensures.time honest) in
    let two = call_reads g.D.Disk mid new (λ image left. g.met.D.Disk.only_now mid image then_honest left) (c.rely_on-2.ensures.same then_honest) (c.rely_on-2.ensures.stop then_honest) (c.rely_on-2.ensures.time then_honest) in
    reads_again g.D.Disk old mid new one two
