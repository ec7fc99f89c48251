-- A list of entries in ascending order of their keys, and the finite map it represents: where the list has a key, and
-- what a change of the list does to the map.
use Rattle.std.proofs.Common.{◌≡◌, ℕ, zero, suc, ◌<◌, ◌≤◌, Bool, true, false, cond, not, ◌&&◌, List, [], ◌∷◌, length, get_or, set, slice_get, Some, None, Result, Ok, Err, IfOk, IfErr, IsOk, IsErr, IsSome, is_some, true≢false, eqb-true, T, refl, sym, ap, subst, ◌∙◌, arith, add-one}
use Rattle.std.proofs.lemmas.Cmp.{ranked}
use Rattle.std.proofs.lemmas.List.Sorted.{searchable_from_sorted}
use Rattle.std.specs.Cmp.{nat_cmp_total, nat_cmp_is, eq_by_cmp_equiv, unsigned_tied}
use Rattle.std.specs.FinMap.{FinMap, is_sorted, put, find, empty, get-empty, get, insert as map_insert, remove as map_remove, get-entries, get-remove, entries-insert, same_map, nat_cmp-IsAntisymmetric, entries, entries_sorted, same_entries_map, len, len-entries, from_sorted, entries-from_sorted, get-from_sorted}
use Rattle.std.specs.FinMap.Entries.{below_all, where_key, find-where_key, is_sorted-where_key}
use Rattle.std.proofs.lemmas.Slice.Zip.{get_or-zip}
use Rattle.std.specs.List.{insert, remove, zip}
use Rattle.std.specs.List.Sorted.{IsSearchInRange, IsBinarySearchResult, IsNonDecreasingBy}
use Rattle.std.specs.Ordering.{nat_cmp, eq_by_cmp, is_lt, is_eq, ordering_index}
use Rattle.std.specs.declared.cmp.Ordering.{Ordering}
use Rattle.std.specs.declared.cmp.Ordering.TheVariants.{Less, Equal, Greater}
use Rattle.std.proofs.lemmas.List.{get_or_default}
use Rattle.fe_table.specs.Table.{IsAt, IsGapFor}

pub first : (a b : Bool) → T (a && b) → T a
first true b p = tt
first false b p = p

pub second : (a b : Bool) → T (a && b) → T b
second true b p = p
second false b p = absurd p

pub less : (o : Ordering) → T (is_lt o) → o ≡ Less
less Less p = refl
less Equal p = absurd p
less Greater p = absurd p

below : (k q : ℕ) → k < q → nat_cmp k q ≡ Less
below k q h = sym (nat_cmp_is k q Less h)

tied : (k q : ℕ) → k ≡ q → nat_cmp k q ≡ Equal
tied k q h = sym (nat_cmp_is k q Equal h)

pub above : (k q : ℕ) → q < k → nat_cmp k q ≡ Greater
above k q h = sym (nat_cmp_is k q Greater h)

turned : {A : Type 0} (b : Bool) (x y : A) → cond (not b) x y ≡ cond b y x
turned true x y = refl
turned false x y = refl

same_key : (q k : ℕ) → eq_by_cmp nat_cmp q k ≡ true → q ≡ k
same_key q k e = eqb-true q k (sym (unsigned_tied q k) ∙ e)

-- all keys except one
abbrev pub but : ℕ → ℕ → Bool
but k q = not (eq_by_cmp nat_cmp k q)

module _ {X : Type 0} where
  pub length-pairs : (ks : List ℕ) (vs : List X) → length vs ≡ length ks → length (zip ks vs) ≡ length ks
  length-pairs [] vs same = refl
  length-pairs (k ∷ ks) [] same = absurd (omega (arith, same))
  length-pairs (k ∷ ks) (v ∷ vs) same = ap suc (length-pairs ks vs (omega (arith, same)))

  -- ---- ascending keys, by position

  below_at : (x : ℕ) (es : List (ℕ × X)) (i : ℕ) (d : ℕ × X) → T (below_all nat_cmp x es) → i < length es → x < (get_or es i d).0
  below_at x [] i d h lt = absurd (omega arith)
  below_at x (e ∷ es) zero d h lt = ranked x e.0 Less (sym (less _ (first _ _ h)))
  below_at x (e ∷ es) (suc i) d h lt = below_at x es i d (second _ _ h) (omega arith)

  rises_at : (es : List (ℕ × X)) (i : ℕ) (d : ℕ × X) → T (is_sorted nat_cmp es) → suc i < length es → (get_or es i d).0 < (get_or es (suc i) d).0
  rises_at [] i d h lt = absurd (omega arith)
  rises_at (e ∷ es) zero d h lt = below_at e.0 es 0 d (first _ _ h) (omega arith)
  rises_at (e ∷ es) (suc i) d h lt = rises_at es i d (second _ _ h) (omega arith)

  -- the keys, as they appear in the entries
  key_at : (ks : List ℕ) (vs : List X) → length vs ≡ length ks → (i : ℕ) (d : ℕ × X) → i < length ks → (get_or (zip ks vs) i d).0 ≡ get_or ks i d.0
  key_at ks vs paired i d lt = ap (λ e. e.0) (get_or-zip ks vs i d lt (omega (arith, paired)))

  module _ (ks : List ℕ) (vs : List X) (paired : length vs ≡ length ks) (h : T (is_sorted nat_cmp (zip ks vs))) where
    long : length (zip ks vs) ≡ length ks
    long = length-pairs ks vs paired

    -- a value, if there is one
    keys_rise : (i d : ℕ) → suc i < length ks → get_or ks i d < get_or ks (suc i) d
    keys_rise i d lt = by vs refl
      where
        by : (ws : List X) → vs ≡ ws → get_or ks i d < get_or ks (suc i) d
        by [] none = let size = ap length none in absurd (omega (arith, size, paired, lt))
        by (w ∷ ws) some =
            let rise = rises_at (zip ks vs) i (d, w) h (omega (arith, long, lt)) in
            let low = key_at ks vs paired i (d, w) (omega (arith, lt)) in
            let high = key_at ks vs paired (suc i) (d, w) lt in
            omega (arith, rise, low, high)

    -- what a binary search requires of the keys
    comparisons_rise : (k : ℕ) → IsNonDecreasingBy (λ x. ordering_index (nat_cmp x k)) ks
    comparisons_rise k = searchable_from_sorted nat_cmp_total (λ x. x) ks k (λ i d low high. rw (add-one) (ap is_lt (above _ _ (keys_rise i d (omega arith)))))

    -- the search ends at the key, or at the gap for it
    pub searched : (k : ℕ) (r : Result ℕ ℕ) → IsSearchInRange r (length ks) → IsBinarySearchResult (λ x. nat_cmp x k) ks r → record { found : IfOk r (IsAt (zip ks vs) k); absent : IfErr r (IsGapFor (zip ks vs) k) }
    searched k (Ok i) in_range equal = record {
      found = record {
        in_range = omega (arith, long, in_range);
        has_key = λ e. key_at ks vs paired i e in_range ∙ ranked _ k Equal (sym (equal e.0));
      };
      absent = tt;
    }
    searched k (Err i) in_range parted = record {
      found = tt;
      absent = record {
        in_range = omega (arith, long, in_range);
        smaller_before = λ j e lt.
            let key = key_at ks vs paired j e (omega (arith, lt, in_range)) in
            let less = ranked _ k Less (sym ((parted (comparisons_rise k)).0 j e.0 (omega arith) lt)) in
            omega (arith, key, less);
        greater_after = λ j e le lt.
            let key = key_at ks vs paired j e (omega (arith, long, lt)) in
            let greater = ranked _ k Greater (sym ((parted (comparisons_rise k)).1 j e.0 le (omega (arith, long, lt)))) in
            omega (arith, key, greater);
      };
    }

  -- ---- what the search finds

  is_at_tail : (e : ℕ × X) (es : List (ℕ × X)) (k i : ℕ) → IsAt (e ∷ es) k (suc i) → IsAt es k i
  is_at_tail e es k i a = record { in_range = omega (arith, a.in_range); has_key = a.has_key }

  gap_tail : (e : ℕ × X) (es : List (ℕ × X)) (k i : ℕ) → IsGapFor (e ∷ es) k (suc i) → IsGapFor es k i
  gap_tail e es k i g = record {
    in_range = omega (arith, g.in_range);
    smaller_before = λ j d lt. g.smaller_before (suc j) d (omega arith);
    greater_after = λ j d le lt. g.greater_after (suc j) d (omega arith) (omega arith);
  }

  -- a key further on is greater than the first
  head_below : (e : ℕ × X) (es : List (ℕ × X)) (k i : ℕ) → T (is_sorted nat_cmp (e ∷ es)) → IsAt (e ∷ es) k (suc i) → e.0 < k
  head_below e es k i h a = subst (λ q. e.0 < q) (a.has_key e) (below_at e.0 es i e (first _ _ h) (omega (arith, a.in_range)))

  pub find_at : (es : List (ℕ × X)) (k i : ℕ) (d : ℕ × X) → T (is_sorted nat_cmp es) → IsAt es k i → find nat_cmp k es ≡ Some (get_or es i d).1
  find_at [] k i d h a = absurd (omega (arith, a.in_range))
  find_at (e ∷ es) k zero d h a = ap (λ o. cond (is_eq o) (Some e.1) (find nat_cmp k es)) (tied k e.0 (sym (a.has_key e)))
  find_at (e ∷ es) k (suc i) d h a = ap (λ o. cond (is_eq o) (Some e.1) (find nat_cmp k es)) (above k e.0 (head_below e es k i h a)) ∙ find_at es k i d (second _ _ h) (is_at_tail e es k i a)

  not_missed : (es : List (ℕ × X)) (k i : ℕ) → T (is_sorted nat_cmp es) → IsAt es k i → find nat_cmp k es ≡ None → ⊥
  not_missed [] k i h a none = absurd (omega (arith, a.in_range))
  not_missed (e ∷ es) k i h a none = true≢false (ap is_some (sym (find_at (e ∷ es) k i e h a) ∙ none))

  find_above : (es : List (ℕ × X)) (k : ℕ) → IsGapFor es k 0 → find nat_cmp k es ≡ None
  find_above [] k g = refl
  find_above (e ∷ es) k g =
      let rest : IsGapFor es k 0 = record { in_range = omega arith; smaller_before = λ j d lt. absurd (omega arith); greater_after = λ j d le lt. g.greater_after (suc j) d (omega arith) (omega arith) } in
      ap (λ o. cond (is_eq o) (Some e.1) (find nat_cmp k es)) (below k e.0 (g.greater_after 0 e (omega arith) (omega arith))) ∙ find_above es k rest

  pub find_gap : (es : List (ℕ × X)) (k i : ℕ) → IsGapFor es k i → find nat_cmp k es ≡ None
  find_gap [] k i g = refl
  find_gap (e ∷ es) k zero g = find_above (e ∷ es) k g
  find_gap (e ∷ es) k (suc i) g = ap (λ o. cond (is_eq o) (Some e.1) (find nat_cmp k es)) (above k e.0 (g.smaller_before 0 e (omega arith))) ∙ find_gap es k i (gap_tail e es k i g)

  -- ---- the list after a change at the position that was found

  pub insert-put : (es : List (ℕ × X)) (k i : ℕ) (v : X) → IsGapFor es k i → insert es i (k, v) ≡ put nat_cmp k v es
  insert-put [] k zero v g = refl
  insert-put [] k (suc i) v g = absurd (omega (arith, g.in_range))
  insert-put (e ∷ es) k zero v g = rw (below k e.0 (g.greater_after 0 e (omega arith) (omega arith))) refl
  insert-put (e ∷ es) k (suc i) v g = rw (above k e.0 (g.smaller_before 0 e (omega arith))) (ap (λ l. e ∷ l) (insert-put es k i v (gap_tail e es k i g)))

  pub set-put : (es : List (ℕ × X)) (k i : ℕ) (v : X) → T (is_sorted nat_cmp es) → IsAt es k i → set es i (k, v) ≡ put nat_cmp k v es
  set-put [] k i v h a = absurd (omega (arith, a.in_range))
  set-put (e ∷ es) k zero v h a = rw (tied k e.0 (sym (a.has_key e))) (ap (λ q. (q, v) ∷ es) (sym (a.has_key e)))
  set-put (e ∷ es) k (suc i) v h a = rw (above k e.0 (head_below e es k i h a)) (ap (λ l. e ∷ l) (set-put es k i v (second _ _ h) (is_at_tail e es k i a)))

  where_key-all : (es : List (ℕ × X)) (k : ℕ) → T (below_all nat_cmp k es) → where_key nat_cmp (but k) es ≡ es
  where_key-all [] k h = refl
  where_key-all (e ∷ es) k h = ap (λ o. cond (not (is_eq o)) (e ∷ where_key nat_cmp (but k) es) (where_key nat_cmp (but k) es)) (less _ (first _ _ h)) ∙ ap (λ l. e ∷ l) (where_key-all es k (second _ _ h))

  pub remove-where_key : (es : List (ℕ × X)) (k i : ℕ) → T (is_sorted nat_cmp es) → IsAt es k i → remove es i ≡ where_key nat_cmp (but k) es
  remove-where_key [] k i h a = absurd (omega (arith, a.in_range))
  remove-where_key (e ∷ es) k zero h a =
      let here = a.has_key e in
      sym (ap (λ o. cond (not (is_eq o)) (e ∷ where_key nat_cmp (but k) es) (where_key nat_cmp (but k) es)) (tied k e.0 (sym here)) ∙ where_key-all es k (subst (λ q. T (below_all nat_cmp q es)) here (first _ _ h)))
  remove-where_key (e ∷ es) k (suc i) h a =
      sym (ap (λ o. cond (not (is_eq o)) (e ∷ where_key nat_cmp (but k) es) (where_key nat_cmp (but k) es)) (above k e.0 (head_below e es k i h a)) ∙ ap (λ l. e ∷ l) (sym (remove-where_key es k i (second _ _ h) (is_at_tail e es k i a))))

  -- ---- by position

  pub slice_get-inside : (es : List (ℕ × X)) (i : ℕ) (e : ℕ × X) → i < length es → e ≡ get_or es i e → slice_get es i ≡ Some e
  slice_get-inside [] i e lt read = absurd (omega arith)
  slice_get-inside (x ∷ es) zero e lt read = ap Some (sym read)
  slice_get-inside (x ∷ es) (suc i) e lt read = slice_get-inside es i e (omega arith) read

  pub slice_get-past : (es : List (ℕ × X)) (i : ℕ) → length es ≤ i → slice_get es i ≡ None
  slice_get-past [] i le = refl
  slice_get-past (x ∷ es) zero le = absurd (omega arith)
  slice_get-past (x ∷ es) (suc i) le = slice_get-past es i (omega arith)

  -- ---- the list as a map

  -- the entries of a map represent that map, and their keys ascend
  pub from_sorted-entries : (es : List (ℕ × X)) (m : FinMap nat_cmp X) → es ≡ entries m → from_sorted es ≡ m
  from_sorted-entries es m is = same_entries_map (from_sorted es) m (entries-from_sorted nat_cmp es (subst (λ l. T (is_sorted nat_cmp l)) (sym is) (entries_sorted m)) ∙ is)

  pub ascending_entries : (es : List (ℕ × X)) (m : FinMap nat_cmp X) → es ≡ entries m → T (is_sorted nat_cmp es)
  ascending_entries es m is = subst (λ l. T (is_sorted nat_cmp l)) (sym is) (entries_sorted m)

  pub ascending_where_key : (p : ℕ → Bool) (es fs : List (ℕ × X)) → fs ≡ where_key nat_cmp p es → T (is_sorted nat_cmp es) → T (is_sorted nat_cmp fs)
  ascending_where_key p es fs is h = subst (λ l. T (is_sorted nat_cmp l)) (sym is) (is_sorted-where_key nat_cmp p es h)

  get_where_key : (p : ℕ → Bool) (es : List (ℕ × X)) (q : ℕ) → T (is_sorted nat_cmp es) → get (from_sorted {R = nat_cmp} (where_key nat_cmp p es)) q ≡ cond (p q) (get (from_sorted {R = nat_cmp} es) q) None
  get_where_key p es q h = get-from_sorted nat_cmp _ q (is_sorted-where_key nat_cmp p es h) ∙ find-where_key nat_cmp p q (λ x t. ap p (sym (nat_cmp-IsAntisymmetric q x t))) es ∙ ap (λ x. cond (p q) x None) (sym (get-from_sorted nat_cmp es q h))

  pub from_sorted-remove : (es fs : List (ℕ × X)) (k : ℕ) (m : FinMap nat_cmp X) → T (is_sorted nat_cmp es) → from_sorted es ≡ m → fs ≡ where_key nat_cmp (but k) es → from_sorted fs ≡ map_remove m k
  from_sorted-remove es fs k m h seen is = same_map nat_cmp_total nat_cmp-IsAntisymmetric _ _ (λ q.
      ap (λ l. get (from_sorted {R = nat_cmp} l) q) is ∙ get_where_key (but k) es q h ∙ turned (eq_by_cmp nat_cmp k q) _ _ ∙ ap (λ n. cond (eq_by_cmp nat_cmp k q) None (get n q)) seen
      ∙ ap (λ b. cond b None (get m q)) ((eq_by_cmp_equiv nat_cmp_total).symm k q) ∙ sym (get-remove nat_cmp_total m k q))

  -- what a table's value says about the list, and vice versa
  module _ (es : List (ℕ × X)) (m : FinMap nat_cmp X) (h : T (is_sorted nat_cmp es)) (seen : from_sorted es ≡ m) where
    pub entries_seen : entries m ≡ es
    entries_seen = ap entries (sym seen) ∙ entries-from_sorted nat_cmp es h

    pub len_seen : len m ≡ length es
    len_seen = len-entries m ∙ ap length entries_seen

    pub get_seen : (k : ℕ) → get m k ≡ find nat_cmp k es
    get_seen k = get-entries m k ∙ ap (find nat_cmp k) entries_seen

    module _ (k i : ℕ) where
      pub at_seen : IsAt (entries m) k i → IsAt es k i
      at_seen = subst (λ l. IsAt l k i) entries_seen

      gap_seen : IsGapFor (entries m) k i → IsGapFor es k i
      gap_seen = subst (λ l. IsGapFor l k i) entries_seen

      pub position_below : IsAt (entries m) k i → i < length es
      position_below a = (at_seen a).in_range

      pub gap_within : IsGapFor (entries m) k i → i ≤ length es
      gap_within g = (gap_seen g).in_range

      pub get_found : (e : ℕ × X) → e ≡ get_or es i e → IsAt (entries m) k i → get m k ≡ Some e.1
      get_found e read a = get_seen k ∙ find_at es k i e h (at_seen a) ∙ ap (λ e. Some e.1) (sym read)

      pub get_absent : IsGapFor (entries m) k i → get m k ≡ None
      get_absent g = get_seen k ∙ find_gap es k i (gap_seen g)

      -- the list after each change
      pub entries_written : (e : ℕ × X) (v : X) → e ≡ get_or es i e → IsAt (entries m) k i → set es i (e.0, v) ≡ entries (map_insert m k v)
      entries_written e v read a = ap (λ q. set es i (q, v)) (ap (λ e. e.0) read ∙ (at_seen a).has_key e) ∙ set-put es k i v h (at_seen a) ∙ ap (put nat_cmp k v) (sym entries_seen) ∙ sym (entries-insert nat_cmp_total m k v)

      pub entries_inserted : (v : X) → IsGapFor (entries m) k i → insert es i (k, v) ≡ entries (map_insert m k v)
      entries_inserted v g = insert-put es k i v (gap_seen g) ∙ ap (put nat_cmp k v) (sym entries_seen) ∙ sym (entries-insert nat_cmp_total m k v)

      pub entries_removed : IsAt (entries m) k i → remove es i ≡ where_key nat_cmp (but k) es
      entries_removed a = remove-where_key es k i h (at_seen a)

    -- the entry at a position, and the map with a new value there
    module _ (i : ℕ) (e : ℕ × X) (within : i < length es) (read : e ≡ get_or es i e) where
      pub at_itself : IsAt (entries m) e.0 i
      at_itself = subst (λ l. IsAt l e.0 i) (sym entries_seen) (record { in_range = within; has_key = λ d. ap (λ e. e.0) (get_or_default es i d e within ∙ sym read) })

    -- a search for a present key finds it, and a search for an absent key finds its gap
    pub search_finds : (k : ℕ) (r : Result ℕ ℕ) → IfErr r (IsGapFor (entries m) k) → IsSome (get m k) → IsOk r
    search_finds k (Ok i) gap there = refl
    search_finds k (Err i) gap there = absurd (true≢false (sym there ∙ ap is_some (get_absent k i gap)))

    pub search_misses : (k : ℕ) (r : Result ℕ ℕ) → IfOk r (IsAt (entries m) k) → get m k ≡ None → IsErr r
    search_misses k (Ok i) at none = absurd (not_missed es k i h (at_seen k i at) (sym (get_seen k) ∙ none))
    search_misses k (Err i) at none = refl

  -- the empty list represents the empty map
  pub from_sorted-nil : from_sorted {K = ℕ} {X = X} {R = nat_cmp} [] ≡ empty
  from_sorted-nil = same_map nat_cmp_total nat_cmp-IsAntisymmetric _ _ (λ q. get-from_sorted nat_cmp [] q tt ∙ sym (get-empty nat_cmp q))

  -- and the empty map has no entries
  pub entries-empty : entries {K = ℕ} {X = X} {R = nat_cmp} empty ≡ []
  entries-empty = sym (ap entries from_sorted-nil) ∙ entries-from_sorted nat_cmp [] tt

  -- removing an absent key changes nothing
  pub remove_absent : (m : FinMap nat_cmp X) (k : ℕ) → get m k ≡ None → m ≡ map_remove m k
  remove_absent m k none = same_map nat_cmp_total nat_cmp-IsAntisymmetric _ _ (λ q. same q (eq_by_cmp nat_cmp q k) refl ∙ sym (get-remove nat_cmp_total m k q))
    where
      same : (q : ℕ) (b : Bool) → eq_by_cmp nat_cmp q k ≡ b → get m q ≡ cond (eq_by_cmp nat_cmp q k) None (get m q)
      same q true e = ap (get m) (same_key q k e) ∙ none ∙ sym (ap (λ b. cond b None (get m q)) e)
      same q false e = sym (ap (λ b. cond b None (get m q)) e)
