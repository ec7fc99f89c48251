-- A key at a position: its value, and the map with a new value there.
use Rattle.std.proofs.Common.{◌≡◌, ℕ, zero, suc, List, [], ◌∷◌, get_or, set, map, slice_get, Option, Some, None, IsSome, is_some, true≢false, refl, sym, ap, ◌∙◌}
use Rattle.std.proofs.lemmas.Option.{unwrap_or-slice_get}
use Rattle.std.specs.FinMap.{FinMap, get, insert, keys, entries, entries_sorted}
use Rattle.std.specs.Option.{option_map, option_map_or, unwrap_or}
use Rattle.std.specs.Ordering.{nat_cmp}
use Rattle.fe_table.specs.Table.{IsAt, put_at}
use Rattle.fe_table.proofs.TableLemmas.{from_sorted-entries, get_found, entries_written}
use Rattle.fe_table.proofs.TableCopyLemmas.{is_some-slice_get}

keys_set : {X : Type 0} (es : List (ℕ × X)) (i : ℕ) (e : ℕ × X) (x : X) → e ≡ get_or es i e → map (λ e. e.0) (set es i (e.0, x)) ≡ map (λ e. e.0) es
keys_set [] i e x read = refl
keys_set (f ∷ es) zero e x read = ap (λ k. k ∷ map (λ e. e.0) es) (ap (λ e. e.0) read)
keys_set (f ∷ es) (suc i) e x read = ap (λ l. f.0 ∷ l) (keys_set es i e x read)

module _ {X : Type 0} (m : FinMap nat_cmp X) (k i : ℕ) (at : IsAt (entries m) k i) where
  module _ (e : ℕ × X) (here : slice_get (entries m) i ≡ Some e) where
    read : e ≡ get_or (entries m) i e
    read = sym (ap (λ o. unwrap_or o e) here) ∙ unwrap_or-slice_get (entries m) i e

    pub get_here : get m k ≡ Some e.1
    get_here = get_found (entries m) m (entries_sorted m) (from_sorted-entries (entries m) m refl) k i e read at

    written : (x : X) → (put_at m i x ≡ insert m k x) × (keys (insert m k x) ≡ keys m)
    written x = (
      ap (λ o. option_map_or (λ e. insert m e.0 x) o m) here ∙ ap (λ q. insert m q x) (ap (λ e. e.0) read ∙ at.has_key e),
      ap (map (λ e. e.0)) (sym (entries_written (entries m) m (entries_sorted m) (from_sorted-entries (entries m) m refl) k i e x read at)) ∙ keys_set (entries m) i e x read,
    )

  there : (o : Option (ℕ × X)) → slice_get (entries m) i ≡ o → IsSome o
  there o is = sym (ap is_some is) ∙ is_some-slice_get (entries m) i at.in_range

  -- a new value at the position is a new value for the key, and keeps the order
  pub put_here : (x : X) → (put_at m i x ≡ insert m k x) × (keys (put_at m i x) ≡ keys m)
  put_here x = by (slice_get (entries m) i) refl
    where
      by : (o : Option (ℕ × X)) → slice_get (entries m) i ≡ o → (put_at m i x ≡ insert m k x) × (keys (put_at m i x) ≡ keys m)
      by None h = absurd (true≢false (sym (there None h)))
      by (Some e) h = let w = written e h x in (w.0, ap keys w.0 ∙ w.1)

  -- the value at the position is the key's
  pub get_lent : (x : X) → option_map (λ e. e.1) (slice_get (entries m) i) ≡ Some x → get m k ≡ Some x
  get_lent x lent = by (slice_get (entries m) i) refl
    where
      by : (o : Option (ℕ × X)) → slice_get (entries m) i ≡ o → get m k ≡ Some x
      by None h = absurd (true≢false (sym (there None h)))
      by (Some e) h = get_here e h ∙ sym (ap (option_map (λ e. e.1)) h) ∙ lent
