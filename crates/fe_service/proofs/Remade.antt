-- A map that is made again, with other values, from the entries of one, key by key.
use Rattle.std.proofs.Common.{◌≡◌, ◌≢◌, ◌⊎◌, ℕ, ◌+◌, ◌≤◌, inl, inr, Some, None, sym, ap, ◌∙◌, arith}
use Rattle.std.specs.Prelude.{slice_get}
use Rattle.std.specs.Option.{option_map}
use Rattle.std.specs.Ordering.{nat_cmp}
use Rattle.std.specs.FinMap.{FinMap, empty, get, insert, len, entries, get-empty, len-empty}
use Rattle.fe_state.proofs.Maps.{get_inserted, get_beside, same_or_other}
use Rattle.fe_table.proofs.TableCopyLemmas.{made, get-made, made-next, len-insert_absent}

module _ {X Y : Type 0} (m : FinMap nat_cmp X) (f : X → Y) (n : FinMap nat_cmp Y) where
  -- it has the entries before a position
  abbrev pub IsTied : ℕ → Type 0
  IsTied k = (q : ℕ) → get n q ≡ option_map f (get (made m k) q)

  pub tied_first : n ≡ empty → IsTied 0
  tied_first none q = ap (λ n. get n q) none ∙ get-empty nat_cmp q ∙ sym (ap (option_map f) (get-empty nat_cmp q))

  pub first_len : n ≡ empty → len n ≤ 0
  first_len none = let size = ap len none ∙ len-empty nat_cmp Y in omega (arith, size)

  module _ (k : ℕ) (e : ℕ × X) (here : slice_get (entries m) k ≡ Some e) (tied : IsTied k) where
    pub tied_new : get n e.0 ≡ None
    tied_new = tied e.0 ∙ ap (option_map f) (get-made m k e here)

    pub tied_len : len n ≤ k → len (insert n e.0 (f e.1)) ≤ k + 1
    tied_len few = let one = len-insert_absent n e.0 (f e.1) tied_new in omega (arith, one, few)

    pub tied_next : (q : ℕ) → get (insert n e.0 (f e.1)) q ≡ option_map f (get (made m (k + 1)) q)
    tied_next q = by_key (same_or_other q e.0) ∙ ap (λ m. option_map f (get m q)) (made-next m k e here)
      where
        by_key : (q ≡ e.0) ⊎ (q ≢ e.0) → get (insert n e.0 (f e.1)) q ≡ option_map f (get (insert (made m k) e.0 e.1) q)
        by_key (inl same) = ap (get (insert n e.0 (f e.1))) same ∙ get_inserted n e.0 (f e.1) ∙ sym (ap (option_map f) (get_inserted (made m k) e.0 e.1)) ∙ ap (λ i. option_map f (get (insert (made m k) e.0 e.1) i)) (sym same)
        by_key (inr other) = get_beside n e.0 (f e.1) q other ∙ tied q ∙ sym (ap (option_map f) (get_beside (made m k) e.0 e.1 q other))
