-- The keys of a map, and the entries that they stand for.
use Rattle.std.proofs.Common.{◌≡◌, ℕ, zero, suc, ◌<◌, List, [], ◌∷◌, map, length, true, slice_get, Option, Some, None, IsSome, is_some, true≢false, refl, sym, ap, subst, ◌∙◌, arith}
use Rattle.std.specs.Option.{option_map}
use Rattle.std.specs.Ordering.{nat_cmp}
use Rattle.std.specs.FinMap.{FinMap, entries, keys, len, len-entries}

some_is : (a b : ℕ) → Some a ≡ Some b → a ≡ b
some_is a b h = cc

module _ {X : Type 0} where
  key_in : (es : List (ℕ × X)) (i key : ℕ) → slice_get (map (λ e. e.0) es) i ≡ Some key → (x : X) × (slice_get es i ≡ Some (key, x))
  key_in [] i key h = absurd (true≢false (ap is_some (sym h)))
  key_in (e ∷ es) zero key h = (e.1, ap (λ k. Some (k, e.1)) (some_is e.0 key h))
  key_in (e ∷ es) (suc i) key h = key_in es i key h

  there_in : (es : List (ℕ × X)) (i : ℕ) → i < length es → IsSome (slice_get (map (λ e. e.0) es) i)
  there_in [] i lt = absurd (omega arith)
  there_in (e ∷ es) zero lt = refl
  there_in (e ∷ es) (suc i) lt = there_in es i (omega arith)

  sized : (es : List (ℕ × X)) (i : ℕ) → i < length es → is_some (slice_get es i) ≡ true
  sized [] i lt = absurd (omega arith)
  sized (e ∷ es) zero lt = refl
  sized (e ∷ es) (suc i) lt = sized es i (omega arith)

  -- the entry whose key stands at a position
  pub entry_of_key : (m : FinMap nat_cmp X) (i key : ℕ) → slice_get (keys m) i ≡ Some key → (x : X) × (slice_get (entries m) i ≡ Some (key, x))
  entry_of_key m i key h = key_in (entries m) i key h

  -- there is a key at every position below the length
  pub key_there : (m : FinMap nat_cmp X) (i : ℕ) → i < len m → IsSome (slice_get (keys m) i)
  key_there m i lt = there_in (entries m) i (subst (λ n. i < n) (len-entries m) lt)

  -- there is an entry at every position below the length, however it is shown
  module _ {A : Type 0} (shown : A → ℕ × X) where
    is_some-shown : (o : Option A) → is_some (option_map shown o) ≡ is_some o
    is_some-shown None = refl
    is_some-shown (Some x) = refl

    pub entry_there : (m : FinMap nat_cmp X) (i : ℕ) (r : Option A) → option_map shown r ≡ slice_get (entries m) i → i < len m → IsSome r
    entry_there m i r is lt = sym (is_some-shown r) ∙ ap is_some is ∙ sized (entries m) i (subst (λ n. i < n) (len-entries m) lt)
