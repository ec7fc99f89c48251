-- An image holds at most one contents.
use Rattle.std.proofs.Common.{◌≡◌, ℕ, ◌+◌, List, [], ◌∷◌, length, sym, ◌∙◌, ap, subst, refl, arith}
use Rattle.fe_disk.specs.Disk.{bytes_at}
use Rattle.fe_journal.specs.Layout.{area_of, image_of, IsGateOpen, IsGateShut}
use Rattle.fe_journal.specs.Contents.{HoldsGroups, end_of_groups, Contents, Holds, generation_at, image_length_at}
use Rattle.fe_format.specs.declared.format.Format.{Format}
use Rattle.fe_journal.proofs.Founds.{slot_same, format_same}

none_and_some : (format : Format) (image : List ℕ) (area at : ℕ) (payload : List ℕ) (rest : List (List ℕ)) → HoldsGroups format image area at [] → HoldsGroups format image area at (payload ∷ rest) → ⊥
none_and_some format image area at payload rest none some =
    let same_at : at ≡ at + 0 = omega arith in
    none.ended (subst (λ (k : ℕ). IsGateOpen image (area + k)) same_at some.stand.0.is_open)

rest_of : (format : Format) (image : List ℕ) (area at : ℕ) (payload : List ℕ) (rest : List (List ℕ)) → HoldsGroups format image area at (payload ∷ rest) → HoldsGroups format image area (at + (5 + length payload)) rest
rest_of format image area at payload rest holds =
    let there : area + (at + (5 + length payload + end_of_groups rest)) ≡ area + (at + (5 + length payload) + end_of_groups rest) = omega arith in
    record { stand = holds.stand.1; ended = subst (λ (k : ℕ). IsGateShut image k) there holds.ended }

one_groups : (format : Format) (image : List ℕ) (area at : ℕ) (xs ys : List (List ℕ)) → HoldsGroups format image area at xs → HoldsGroups format image area at ys → xs ≡ ys
one_groups format image area at [] [] a b = refl
one_groups format image area at [] (y ∷ ys) a b = absurd (none_and_some format image area at y ys a b)
one_groups format image area at (x ∷ xs) [] a b = absurd (none_and_some format image area at x xs b a)
one_groups format image area at (x ∷ xs) (y ∷ ys) a b =
    let same : length x ≡ length y = sym a.stand.0.length_is ∙ b.stand.0.length_is in
    let first : x ≡ y = sym a.stand.0.payload_is ∙ ap (λ (n : ℕ). bytes_at image (area + at + 5) n) same ∙ b.stand.0.payload_is in
    let behind = subst (λ (n : ℕ). HoldsGroups format image area (at + (5 + n)) ys) (sym same) (rest_of format image area at y ys b) in
    let rest : xs ≡ ys = one_groups format image area (at + (5 + length x)) xs ys (rest_of format image area at x xs a) behind in
    cc

abbrev made : ℕ → Format → ℕ → List ℕ → List (List ℕ) → Contents
made slot format generation image groups = record { slot = slot; format = format; generation = generation; image = image; groups = groups }

same_contents : (a b : Contents) → a.slot ≡ b.slot → a.format ≡ b.format → a.generation ≡ b.generation → a.image ≡ b.image → a.groups ≡ b.groups → a ≡ b
same_contents a b s f g i p =
    ap (λ (k : ℕ). made k a.format a.generation a.image a.groups) s
    ∙ ap (λ (k : Format). made b.slot k a.generation a.image a.groups) f
    ∙ ap (λ (k : ℕ). made b.slot b.format k a.image a.groups) g
    ∙ ap (λ (k : List ℕ). made b.slot b.format b.generation k a.groups) i
    ∙ ap (λ (k : List (List ℕ)). made b.slot b.format b.generation b.image k) p

pub one_contents : (c d : Contents) (image : List ℕ) → Holds c image → Holds d image → c ≡ d
one_contents c d image one two =
    let slot : d.slot ≡ c.slot = slot_same c image one d.slot d.format two.counts in
    let format : d.format ≡ c.format = format_same c image one d.slot d.format two.counts in
    let generation : c.generation ≡ d.generation = sym one.generation_is ∙ ap (λ (k : ℕ). generation_at image k) (sym slot) ∙ two.generation_is in
    let long : length c.image ≡ length d.image = sym one.length_is ∙ ap (λ (k : ℕ). image_length_at image k) (sym slot) ∙ two.length_is in
    let image_is : c.image ≡ d.image = sym one.image_is ∙ ap (λ (n : ℕ). bytes_at image (image_of c.slot) n) long ∙ ap (λ (k : ℕ). bytes_at image (image_of k) (length d.image)) (sym slot) ∙ two.image_is in
    let there = subst (λ (k : ℕ). HoldsGroups d.format image (area_of k) 0 d.groups) slot two.groups_are in
    let groups : c.groups ≡ d.groups = one_groups c.format image (area_of c.slot) 0 c.groups d.groups one.groups_are (subst (λ (f : Format). HoldsGroups f image (area_of c.slot) 0 d.groups) format there) in
    same_contents c d (sym slot) (sym format) generation image_is groups
