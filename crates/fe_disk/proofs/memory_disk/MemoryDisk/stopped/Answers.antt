use Rattle.std.proofs.Common.{ap, subst, sym, ◌∙◌, List, ℕ, length}
use Rattle.fe_disk.specs.Disk.{IsImage, LeavesJust}
use Rattle.fe_disk.specs.Memory.{DiskEvent, MemoryState, MayLeave, IsLeftBy, AreWithin, image_with_tears}
use Rattle.fe_disk.proofs.Tears.{left_by_tear, allowed_tear, just_left}
use Rattle.fe_disk.proofs.memory_disk.MemoryDisk.stopped.Goals as goal

pub invariant_of-result : goal.invariant_of-result
invariant_of-result c =
    let none = c.new.ensures in
    let new = c.in_ok-torn_copy.field-0.items in
    let bytes = subst (λ (l : List ℕ). IsImage (length l) new) c.deref.ensures.value c.in_ok-torn_copy.ensures.bytes in
    record {
      image = subst (λ (n : ℕ). IsImage n new) (sym bytes.whole) bytes;
      within = subst (λ (l : List DiskEvent). AreWithin (length new) l) (sym none) tt;
    }

pub returns-clause-left : goal.returns-clause-left
returns-clause-left c =
    let torn = c.args.torn in
    let is = c.in_ok-torn_copy.ensures.torn ∙ ap (λ (l : List ℕ). image_with_tears torn l c.self.inside.record) c.deref.ensures.value in
    let left = subst (λ (l : List ℕ). IsLeftBy torn c.self.inside.bytes.items c.self.inside.record l) (sym is)
    (left_by_tear torn c.self.inside.bytes.items c.self.inside.record c.self.invariant.within) in
    subst (λ (s : MemoryState). IsLeftBy torn s.image s.events c.in_ok-torn_copy.field-0.items) c.self.view_is left

pub returns-clause-allowed : goal.returns-clause-allowed
returns-clause-allowed c =
    let torn = c.args.torn in
    let old = c.self.inside.bytes.items in
    let events = c.self.inside.record in
    let is = c.in_ok-torn_copy.ensures.torn ∙ ap (λ (l : List ℕ). image_with_tears torn l c.self.inside.record) c.deref.ensures.value in
    let bytes = subst (λ (l : List ℕ). IsImage (length l) c.in_ok-torn_copy.field-0.items) c.deref.ensures.value c.in_ok-torn_copy.ensures.bytes in
    let left = allowed_tear torn old events c.in_ok-torn_copy.field-0.items c.self.invariant.within is bytes in
    subst (λ (s : MemoryState). MayLeave (length s.image) s.image s.events c.in_ok-torn_copy.field-0.items) c.self.view_is left

pub returns-clause-honest : goal.returns-clause-honest
returns-clause-honest c = (invariant_of-result c).image

pub returns-clause-durable : goal.returns-clause-durable
returns-clause-durable c =
    let none = c.new.ensures in
    let new = c.in_ok-torn_copy.field-0.items in
    subst (λ (l : List DiskEvent). LeavesJust new (MayLeave (length new) new l)) (sym none) (just_left new)
