-- The entries of a map that are found one after the other.
use Rattle.std.proofs.Common.{◌≡◌, ℕ, ◌+◌, ◌<◌, ◌≤◌, Bool, true, false, cond, List, [], ◌∷◌, zero, suc, Option, Some, None, IsSome, is_some, true≢false, refl, sym, ap, subst, ◌∙◌, arith, T}
use Rattle.std.specs.Ordering.{eq_by_cmp, match_ordering}
use Rattle.std.specs.declared.cmp.Ordering.{Ordering}
use Rattle.std.specs.declared.cmp.Ordering.TheVariants.{Less, Equal, Greater}
use Rattle.std.specs.Cmp.{IsTotalOrder}
use Rattle.std.specs.BTreeMap.{insert_entry}
use Rattle.std.specs.FinMap.{FinMap, IsAntisymmetric, find, is_sorted, get, len, empty, entries, entries_sorted, get-entries, get-empty, len-empty, empty_of_len, same_map}
use Rattle.std.specs.FinMap.Entries.{by_order, put, is_sorted-put, find-put, same_entries}
use Rattle.fe_report.specs.within.Rows.{ArePart}
use Rattle.fe_service.proofs.KeyLemmas.{hit}
use Rattle.fe_report.proofs.Listed.{not_none, tied}

same_choice : {A : Type 0} (r : Ordering) (a b c d : A) → c ≡ d → match_ordering r a b c ≡ by_order r a b d
same_choice Less a b c d e = refl
same_choice Equal a b c d e = refl
same_choice Greater a b c d e = e

insert_entry-put : {K X : Type 0} (R : K → K → Ordering) (es : List (K × X)) (k : K) (v : X) → insert_entry R es k v ≡ put R k v es
insert_entry-put R [] k v = refl
insert_entry-put R (e ∷ es) k v = same_choice (R k e.0) _ _ _ _ (ap (λ l. e ∷ l) (insert_entry-put R es k v))

some_of : {A : Type 0} (b : Bool) (x : A) (o : Option A) → IsSome o → IsSome (cond b (Some x) o)
some_of true x o h = refl
some_of false x o h = h

pub one_more_at_most : (b : Bool) (n m k : ℕ) → n ≡ m + cond b 0 1 → m ≤ k → n ≤ k + 1
one_more_at_most true n m k e h = omega (arith, e, h)
one_more_at_most false n m k e h = omega (arith, e, h)

module _ {K X : Type 0} {R : K → K → Ordering} (o : IsTotalOrder R) (same : IsAntisymmetric R) where
  find_inserted : (es : List (K × X)) (k : K) (v : X) (q : K) → find R q (insert_entry R es k v) ≡ cond (eq_by_cmp R q k) (Some v) (find R q es)
  find_inserted es k v q = ap (find R q) (insert_entry-put R es k v) ∙ find-put R o q k v es

  -- what is found stays found
  pub still_there : (es fs : List (K × X)) (k : K) (v : X) → fs ≡ insert_entry R es k v → (q : K) → IsSome (find R q es) → IsSome (find R q fs)
  still_there es fs k v made q h = ap (λ l. is_some (find R q l)) made ∙ ap is_some (find_inserted es k v q) ∙ some_of (eq_by_cmp R q k) v (find R q es) h

  -- and so is what came last
  pub now_there : (es fs : List (K × X)) (k : K) (v : X) → fs ≡ insert_entry R es k v → (q : K) → q ≡ k → IsSome (find R q fs)
  now_there es fs k v made q e = ap (λ l. is_some (find R q l)) made ∙ ap is_some (find_inserted es k v q) ∙ ap (λ b. is_some (cond b (Some v) (find R q es))) (hit o q k e)

  module _ (m : FinMap R X) where
    pub no_part : (es : List (K × X)) → es ≡ [] → ArePart m es
    no_part es none = record {
      sorted = subst (λ l. T (is_sorted R l)) (sym none) tt;
      sound = λ q x is. not_none x (sym (ap (find R q) none) ∙ is);
    }

    pub more : (es fs : List (K × X)) (k : K) (v : X) → fs ≡ insert_entry R es k v → ArePart m es → get m k ≡ Some v → ArePart m fs
    more es fs k v made part new = record {
      sorted = subst (λ l. T (is_sorted R l)) (sym (made ∙ insert_entry-put R es k v)) (is_sorted-put R o k v es part.sorted);
      sound = λ q x is. by_key q x (eq_by_cmp R q k) refl (sym (ap (find R q) made ∙ find_inserted es k v q) ∙ is);
    }
      where
        by_key : (q : K) (x : X) (b : Bool) → eq_by_cmp R q k ≡ b → cond b (Some v) (find R q es) ≡ Some x → get m q ≡ Some x
        by_key q x true t is = ap (get m) (same q k (tied _ t)) ∙ new ∙ is
        by_key q x false t is = part.sound q x is

    -- a part in which each key is found is the whole
    pub whole : (es : List (K × X)) → ArePart m es → ((q : K) → IsSome (get m q) → IsSome (find R q es)) → es ≡ entries m
    whole es part there =
        same_entries R o same es (entries m) part.sorted (entries_sorted m) (λ q. alike q (find R q es) refl (get m q) refl ∙ get-entries m q)
      where
        alike : (q : K) (a : Option X) → find R q es ≡ a → (b : Option X) → get m q ≡ b → find R q es ≡ get m q
        alike q (Some x) f b g = f ∙ sym (part.sound q x f)
        alike q None f (Some x) g = absurd (true≢false (sym (there q (ap is_some g)) ∙ ap is_some f))
        alike q None f None g = f ∙ sym g

    -- ---- lengths

    pub none_there : ((q : K) → get m q ≡ None) → len m ≡ 0
    none_there none = ap len (same_map o same m empty (λ q. none q ∙ sym (get-empty R q))) ∙ len-empty R X

    pub one_there : (q : K) → IsSome (get m q) → 0 < len m
    one_there q h = by_len (len m) refl
      where
        by_len : (n : ℕ) → len m ≡ n → 0 < len m
        by_len zero e = absurd (true≢false (sym h ∙ ap is_some (ap (λ n. get n q) (empty_of_len m e) ∙ get-empty R q)))
        by_len (suc n) e = omega (arith, e)
