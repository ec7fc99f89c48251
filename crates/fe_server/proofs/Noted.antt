-- Bytes that are noted one after another.
use Rattle.std.proofs.Common.{◌≡◌, ℕ, ◌+◌, ◌<◌, ◌≤◌, List, [], ◌∷◌, ◌++◌, length, take, ap, sym, ◌∙◌, slice_index_or}
use Rattle.std.proofs.lemmas.List.{append_assoc, take_all, take_more}

-- one more byte was noted
pub one_noted : (old now next bytes : List ℕ) (i : ℕ) → i < length bytes → now ≡ old ++ take i bytes → next ≡ now ++ slice_index_or bytes i 0 ∷ [] → next ≡ old ++ take (i + 1) bytes
one_noted old now next bytes i lt is more =
    more ∙ ap (λ (s : List ℕ). s ++ slice_index_or bytes i 0 ∷ []) is ∙ append_assoc old (take i bytes) (slice_index_or bytes i 0 ∷ [])
    ∙ ap (λ (t : List ℕ). old ++ t) (sym (take_more bytes i 0 lt))

-- all were noted
pub all_noted : (old now bytes : List ℕ) (i : ℕ) → length bytes ≤ i → now ≡ old ++ take i bytes → now ≡ old ++ bytes
all_noted old now bytes i le is = is ∙ ap (λ (t : List ℕ). old ++ t) (take_all i bytes le)
