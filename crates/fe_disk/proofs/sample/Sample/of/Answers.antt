use Rattle.std.proofs.Common.{◌≡◌, ◌∙◌, ℕ, ◌+◌, ◌-◌, length, min, take, drop, ap, arith, length-take, length-drop}
use Rattle.std.proofs.lemmas.List.{take_at}
use Rattle.fe_disk.proofs.sample.Sample.of.Goals as goal

pub returns : goal.returns
returns c =
    let bytes = c.args.bytes.now in
    let new = c.copy_from_slice.new.self in
    let count = c.min-length.result in
    let first = length bytes - count in
    let most : count ≡ min (length bytes) 96 = c.min-length.ensures in
    let back : first + count - first ≡ count = omega arith in
    let after : new ≡ take count (drop first bytes) = c.copy_from_slice.ensures.after ∙ ap (λ (k : ℕ). take k (drop first bytes)) back in
    let long : length new ≡ count = ap length after ∙ length-take count (drop first bytes) ∙ omega (arith, most, length-drop first bytes) in
    record { end = omega (arith, most); count = most; same = take_at new _ count long ∙ after }
