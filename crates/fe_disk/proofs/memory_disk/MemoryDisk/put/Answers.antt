use Rattle.std.proofs.Common.{rules, ap, ◌∙◌, ◌∷◌, length, List, ℕ, ◌+◌, ◌≤◌, ◌≡◌, arith}
use Rattle.std.proofs.lemmas.List.{with_items_is}
use Rattle.fe_disk.specs.Disk.{after_write, bytes_at}
use Rattle.fe_disk.specs.Memory.{MemoryState, Write}
use Rattle.fe_disk.proofs.Images.{length-after_write}
use Rattle.fe_disk.proofs.Outcomes.{at_ok}
use Rattle.fe_disk.proofs.Stops.{put_keeps}
use Rattle.fe_disk.proofs.memory_disk.MemoryDisk.put.Goals as goal

pub invariant_of-self-2 : goal.invariant_of-self-2
invariant_of-self-2 c =
    let recorded = at_ok c.wrote.result (search rules) c.wrote.ensures.ok
    ∙ ap (λ (l : List ℕ). Write c.args.at (bytes_at l c.args.at (length c.args.bytes.now)) ∷ c.self.inside.record) c.deref.ensures.value in
    let old = c.self.inside.bytes.items in
    let now = c.replace.ensures ∙ ap (λ (l : List ℕ). after_write l c.args.at c.args.bytes.now) c.deref_mut.ensures.value in
    let fits : c.args.at + length c.args.bytes.now ≤ length old = omega (arith, c.requires, ap (λ (s : MemoryState). length s.image) c.self.view_is) in
    let long : length c.replace.new.image ≡ c.self.inside.bytes.len =
    omega (arith, ap length now, length-after_write old c.args.at c.args.bytes.now fits, c.deref_mut.ensures.len, ap length c.deref_mut.ensures.value) in
    let items = with_items_is c.self.inside.bytes c.replace.new.image long in
    let keeps = put_keeps old _ c.self.inside.record _ c.args.at c.args.bytes.now fits (λ i. omega (arith, c.type_inv.bytes i)) c.self.invariant.image c.self.invariant.within (items ∙ now) recorded in
    record { image = keeps.0; within = keeps.1 }
