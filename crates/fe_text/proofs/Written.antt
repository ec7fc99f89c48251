-- The contents of a writer after one more part of a text.
use Rattle.std.proofs.Common.{◌≡◌, ℕ, Bool, ◌+◌, ◌-◌, ◌≤◌, List, ◌++◌, Option, length, take, drop, sym, ap, subst, ◌∙◌, arith}
use Rattle.std.proofs.lemmas.List.{take-take, take-append-drop, drop-take}
use Rattle.std.proofs.KnownBytes.{Appends-trans}
use Rattle.std.specs.Io.KnownBytes.{Appends}

pub written_more : (a b c : Option (List ℕ)) (text rest : List ℕ) (done n : ℕ) → rest ≡ take (length text - done) (drop done text) → n ≤ length text - done → Appends a b (take done text) → Appends b c (take n rest) → Appends a c (take (done + n) text)
written_more a b c text rest done n is within p q =
    let front : take done (take (done + n) text) ≡ take done text = take-take done (done + n) text (omega arith) in
    let whole : take (done + n) text ≡ take done text ++ take n (drop done text) = sym (take-append-drop done (take (done + n) text)) ∙ (λ k. front k ++ drop-take done n text k) in
    let part : take n rest ≡ take n (drop done text) = ap (take n) is ∙ take-take n (length text - done) (drop done text) within in
    subst (λ (t : List ℕ). Appends a c t) (sym whole) (Appends-trans a b c (take done text) (take n (drop done text)) p (subst (λ (t : List ℕ). Appends b c t) part q))

-- what was flushed is so still while nothing is written
pub still_flushed : (done n : ℕ) (first mid last : Bool) → (done ≡ 0 → mid ≡ first) → (n ≡ 0 → last ≡ mid) → done + n ≡ 0 → last ≡ first
still_flushed done n first mid last before now none = now (omega (arith, none)) ∙ before (omega (arith, none))
