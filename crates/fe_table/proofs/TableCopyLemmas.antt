-- A map built again from its entries, one by one in the order of their keys.
use Rattle.std.proofs.Common.{◌≡◌, ℕ, zero, suc, ◌+◌, ◌<◌, ◌≤◌, true, cond, List, [], ◌∷◌, ◌++◌, length, take, slice_get, Option, Some, None, IsSome, is_some, true≢false, T, refl, sym, ap, subst, ◌∙◌, arith, add-one}
use Rattle.std.proofs.lemmas.Cmp.{ranked}
use Rattle.std.specs.Borrow.{Bor}
use Rattle.std.specs.Cmp.{nat_cmp_total}
use Rattle.std.specs.FinMap.{FinMap, is_sorted, find, get, insert, entries, entries_sorted, get-entries, len, len-entries, len-insert, from_entries, get-from_entries, from_entries_push, same_map, nat_cmp-IsAntisymmetric}
use Rattle.std.specs.FinMap.Entries.{below_all}
use Rattle.std.specs.Option.{option_map}
use Rattle.std.specs.Ordering.{nat_cmp, is_eq}
use Rattle.std.specs.declared.cmp.Ordering.TheVariants.{Less}
use Rattle.fe_table.specs.Table.{shown_entry}
use Rattle.fe_table.proofs.TableLemmas.{first, second, less, above}

not_there : {A X : Type 0} (e : X) → None ≡ Some e → A
not_there e h = absurd (true≢false (ap is_some (sym h)))

-- the first n entries of a list, and the next one
pub take-push : {X : Type 0} (es : List X) (i : ℕ) (e : X) → slice_get es i ≡ Some e → take (suc i) es ≡ take i es ++ e ∷ []
take-push [] i e h = not_there e h
take-push (x ∷ es) zero e h = cc
take-push (x ∷ es) (suc i) e h = ap (λ l. x ∷ l) (take-push es i e h)

module _ {X : Type 0} where
  pub is_some-slice_get : (es : List (ℕ × X)) (i : ℕ) → i < length es → is_some (slice_get es i) ≡ true
  is_some-slice_get [] i lt = absurd (omega arith)
  is_some-slice_get (e ∷ es) zero lt = refl
  is_some-slice_get (e ∷ es) (suc i) lt = is_some-slice_get es i (omega arith)

  is_some-shown : (r : Option (ℕ × Bor X)) → is_some (option_map shown_entry r) ≡ is_some r
  is_some-shown None = refl
  is_some-shown (Some p) = refl

  pub take-past : (es : List (ℕ × X)) (i : ℕ) → length es ≤ i → take i es ≡ es
  take-past [] zero le = refl
  take-past [] (suc i) le = refl
  take-past (e ∷ es) zero le = absurd (omega arith)
  take-past (e ∷ es) (suc i) le = ap (λ l. e ∷ l) (take-past es i (omega arith))

  below_slice_get : (k : ℕ) (es : List (ℕ × X)) (i : ℕ) (e : ℕ × X) → T (below_all nat_cmp k es) → slice_get es i ≡ Some e → k < e.0
  below_slice_get k [] i e b h = not_there e h
  below_slice_get k (x ∷ es) zero e b h =
      let same : x ≡ e = cc in
      subst (λ p. k < p.0) same (ranked k x.0 Less (sym (less _ (first _ _ b))))
  below_slice_get k (x ∷ es) (suc i) e b h = below_slice_get k es i e (second _ _ b) h

  -- no entry before this position has its key
  pub find-take : (es : List (ℕ × X)) (i : ℕ) (e : ℕ × X) → T (is_sorted nat_cmp es) → slice_get es i ≡ Some e → find nat_cmp e.0 (take i es) ≡ None
  find-take [] i e s h = not_there e h
  find-take (x ∷ es) zero e s h = refl
  find-take (x ∷ es) (suc i) e s h =
      ap (λ o. cond (is_eq o) (Some x.1) (find nat_cmp e.0 (take i es))) (above e.0 x.0 (below_slice_get x.0 es i e (first _ _ s) h)) ∙ find-take es i e (second _ _ s) h

  module _ (m : FinMap nat_cmp X) where
    -- the map of the entries before a position
    abbrev pub made : ℕ → FinMap nat_cmp X
    made i = from_entries (take i (entries m))

    pub made_all : (i : ℕ) → len m ≤ i → made i ≡ m
    made_all i le =
        ap from_entries (take-past (entries m) i (subst (λ n. n ≤ i) (len-entries m) le))
        ∙ same_map nat_cmp_total nat_cmp-IsAntisymmetric _ _ (λ q. get-from_entries nat_cmp_total (entries m) q ∙ sym (get-entries m q))

    module _ (i : ℕ) where
      -- there is an entry at every position below the length
      pub shown_there : (r : Option (ℕ × Bor X)) → option_map shown_entry r ≡ slice_get (entries m) i → i < len m → IsSome r
      shown_there r shows lt = sym (is_some-shown r) ∙ ap is_some shows ∙ is_some-slice_get (entries m) i (subst (λ n. i < n) (len-entries m) lt)

      module _ (e : ℕ × X) (here : slice_get (entries m) i ≡ Some e) where
        pub get-made : get (made i) e.0 ≡ None
        get-made = get-from_entries nat_cmp_total _ e.0 ∙ find-take (entries m) i e (entries_sorted m) here

        pub made-next : insert (made i) e.0 e.1 ≡ made (i + 1)
        made-next = sym (ap (λ n. from_entries (take n (entries m))) (add-one i) ∙ ap from_entries (take-push (entries m) i e here) ∙ from_entries_push nat_cmp_total nat_cmp-IsAntisymmetric (take i (entries m)) e.0 e.1 (find-take (entries m) i e (entries_sorted m) here))

  -- a new key increases the length by one
  pub len-insert_absent : (m : FinMap nat_cmp X) (k : ℕ) (v : X) → get m k ≡ None → len (insert m k v) ≡ len m + 1
  len-insert_absent m k v none = len-insert nat_cmp_total m k v ∙ ap (λ x. cond (is_some x) (len m) (len m + 1)) none
