use Rattle.std.proofs.Common.{rules, ap, subst, sym, ◌∙◌, ◌≡◌, length, List, ℕ, arith}
use Rattle.std.proofs.lemmas.List.{with_items_is}
use Rattle.fe_disk.specs.Memory.{DiskEvent, AreWithin, image_with_tears}
use Rattle.fe_disk.specs.within.Record.{newest_first, since_sync}
use Rattle.fe_disk.proofs.Unsynced.{tears_since, within_since}
use Rattle.fe_disk.proofs.record.Record.torn_copy.Goals as goal

pub tear-requires-clause-within : goal.tear-requires-clause-within
tear-requires-clause-within c =
    let copied : c.in_ok-copy.copy.items ≡ c.args.image.now = search rules in
    let image = c.deref_mut.ensures.value ∙ copied in
    let writes = ap newest_first c.deref.ensures.value ∙ sym c.self.invariant ∙ ap since_sync c.self.view_is in
    let within = within_since (length c.args.image.now) c.args.self.now c.requires.within in
    subst (λ (l : List ℕ). AreWithin (length l) (newest_first c.deref.result.now)) (sym image)
    (subst (λ (l : List DiskEvent). AreWithin (length c.args.image.now) l) (sym writes) within)

pub returns-clause-torn : goal.returns-clause-torn
returns-clause-torn c =
    let torn = c.args.torn in
    let copied : c.in_ok-copy.copy.items ≡ c.args.image.now = search rules in
    let image = c.deref_mut.ensures.value ∙ copied in
    let writes = ap newest_first c.deref.ensures.value ∙ sym c.self.invariant ∙ ap since_sync c.self.view_is in
    let long : length c.tear.new.image ≡ c.in_ok-copy.copy.len = omega (arith, c.tear.ensures.bytes.whole, c.deref_mut.ensures.len, ap length c.deref_mut.ensures.value) in
    with_items_is c.in_ok-copy.copy c.tear.new.image long ∙ c.tear.ensures.torn
    ∙ ap (λ (l : List ℕ). image_with_tears torn l (newest_first c.deref.result.now)) image
    ∙ ap (λ (l : List DiskEvent). image_with_tears torn c.args.image.now l) writes ∙ tears_since torn c.args.image.now c.args.self.now
