-- What a change of one key does to the sum over a finite map.
use Rattle.std.proofs.Common.{◌≡◌, ℕ, ◌+◌, Some, None, true, Ordering, inl, inr, List, [], ◌∷◌, refl, sym, ap, ◌∙◌, arith, cond}
use Rattle.std.specs.Prelude.{sum_by}
use Rattle.std.specs.declared.cmp.Ordering.TheVariants.{Less, Equal, Greater}
use Rattle.std.specs.Ordering.{nat_cmp, is_eq}
use Rattle.std.specs.Cmp.{nat_cmp_total}
use Rattle.std.specs.FinMap.{FinMap, entries, get, find, put, insert, remove, get-entries, entries-insert, same_map, nat_cmp-IsAntisymmetric}
use Rattle.std.specs.FinMap.Entries.{by_order}
use Rattle.std.proofs.lemmas.List.Sums.{sum_by-cons}
use Rattle.fe_state.proofs.Maps.{get_inserted, get_beside, get_removed, get_left, same_or_other}
use Rattle.fe_state.specs.Directory.{total}

module _ {X : Type 0} (f : X → ℕ) where
  sum_put : (k : ℕ) (v : X) (es : List (ℕ × X)) → find nat_cmp k es ≡ None → sum_by (λ e. f e.1) (put nat_cmp k v es) ≡ sum_by (λ e. f e.1) es + f v
  sum_put k v [] none = omega arith
  sum_put k v (e ∷ es) none = by (nat_cmp k e.0) refl (λ n. sum_put k v es n)
    where
      by : (o : Ordering) → nat_cmp k e.0 ≡ o → (find nat_cmp k es ≡ None → sum_by (λ p. f p.1) (put nat_cmp k v es) ≡ sum_by (λ p. f p.1) es + f v) → sum_by (λ p. f p.1) (by_order o ((k, v) ∷ e ∷ es) ((e.0, v) ∷ es) (e ∷ put nat_cmp k v es)) ≡ sum_by (λ p. f p.1) (e ∷ es) + f v
      by Less is rest = simp (sum_by-cons {X = ℕ × X} (λ p. f p.1)) (omega arith)
      by Equal is rest = absurd (there (ap is_eq is) none)
        where
          there : is_eq (nat_cmp k e.0) ≡ true → cond (is_eq (nat_cmp k e.0)) (Some e.1) (find nat_cmp k es) ≡ None → ⊥
          there t n = cc
      by Greater is rest = simp (sum_by-cons {X = ℕ × X} (λ p. f p.1)) (omega (arith, rest (rw is at none)))

  pub total_added : (m : FinMap nat_cmp X) (k : ℕ) (v : X) → get m k ≡ None → total f (insert m k v) ≡ total f m + f v
  total_added m k v none = rw (entries-insert nat_cmp_total) (sum_put k v (entries m) (sym (get-entries m k) ∙ none))

  -- a value that is there is as if it was just put
  again : (m : FinMap nat_cmp X) (k : ℕ) (w : X) → get m k ≡ Some w → insert (remove m k) k w ≡ m
  again m k w is = same_map nat_cmp_total nat_cmp-IsAntisymmetric _ _ (λ q.
      elim (same_or_other q k) [
        | inl e ↦ rw (e, get_inserted) (sym is)
        | inr ne ↦ get_beside (remove m k) k w q ne ∙ get_left m k q ne
      ])

  pub total_removed : (m : FinMap nat_cmp X) (k : ℕ) (w : X) → get m k ≡ Some w → total f (remove m k) + f w ≡ total f m
  total_removed m k w is = sym (total_added (remove m k) k w (get_removed m k)) ∙ ap (total f) (again m k w is)

  over : (m : FinMap nat_cmp X) (k : ℕ) (v : X) → insert (remove m k) k v ≡ insert m k v
  over m k v = same_map nat_cmp_total nat_cmp-IsAntisymmetric _ _ (λ q.
      elim (same_or_other q k) [
        | inl e ↦ rw (e, get_inserted (remove m k) k v, get_inserted m k v) refl
        | inr ne ↦ get_beside (remove m k) k v q ne ∙ get_left m k q ne ∙ sym (get_beside m k v q ne)
      ])

  pub total_replaced : (m : FinMap nat_cmp X) (k : ℕ) (v w : X) → get m k ≡ Some w → total f (insert m k v) + f w ≡ total f m + f v
  total_replaced m k v w is =
      let one : total f (insert m k v) ≡ total f (remove m k) + f v = sym (ap (total f) (over m k v)) ∙ total_added (remove m k) k v (get_removed m k) in
      omega (arith, total_removed m k w is)
