-- The keys and the values of a table as one list of entries: what a search finds, and the list after a change of
-- both.
use Rattle.std.proofs.Common.{◌≡◌, ℕ, zero, suc, ◌<◌, ◌≤◌, List, [], ◌∷◌, length, get_or, set, slice_get, Some, None, refl, sym, ap, subst, ◌∙◌, arith, T}
use Rattle.std.proofs.lemmas.List.{get_or_default}
use Rattle.std.proofs.lemmas.Slice.Zip.{get_or-zip}
use Rattle.std.specs.FinMap.{FinMap, is_sorted, get, insert as map_insert, entries, len, from_sorted}
use Rattle.std.specs.FinMap.Entries.{where_key}
use Rattle.std.specs.List.{insert, remove, zip}
use Rattle.std.specs.Option.{option_map_or}
use Rattle.std.specs.Ordering.{nat_cmp}
use Rattle.fe_table.specs.Table.{IsAt, IsGapFor, put_at}
use Rattle.fe_table.proofs.TableLemmas.{but, length-pairs, find_at, get_seen, len_seen, at_seen, entries_seen, position_below, gap_within, entries_inserted, entries_removed, entries_written, at_itself, slice_get-inside, slice_get-past}

module _ {X : Type 0} where
  pub pairs-inserted : (ks : List ℕ) (vs : List X) (i k : ℕ) (v : X) → length vs ≡ length ks → i ≤ length ks → zip (insert ks i k) (insert vs i v) ≡ insert (zip ks vs) i (k, v)
  pairs-inserted [] [] zero k v same le = refl
  pairs-inserted [] [] (suc i) k v same le = absurd (omega (arith, le))
  pairs-inserted [] (w ∷ vs) i k v same le = absurd (omega (arith, same))
  pairs-inserted (q ∷ ks) [] i k v same le = absurd (omega (arith, same))
  pairs-inserted (q ∷ ks) (w ∷ vs) zero k v same le = refl
  pairs-inserted (q ∷ ks) (w ∷ vs) (suc i) k v same le = ap (λ l. (q, w) ∷ l) (pairs-inserted ks vs i k v (omega (arith, same)) (omega (arith, le)))

  pub pairs-removed : (ks : List ℕ) (vs : List X) (i : ℕ) → length vs ≡ length ks → i < length ks → zip (remove ks i) (remove vs i) ≡ remove (zip ks vs) i
  pairs-removed [] vs i same lt = absurd (omega (arith, lt))
  pairs-removed (q ∷ ks) [] i same lt = absurd (omega (arith, same))
  pairs-removed (q ∷ ks) (w ∷ vs) zero same lt = refl
  pairs-removed (q ∷ ks) (w ∷ vs) (suc i) same lt = ap (λ l. (q, w) ∷ l) (pairs-removed ks vs i (omega (arith, same)) (omega (arith, lt)))

  pub pairs-set : (ks : List ℕ) (vs : List X) (i : ℕ) (d : ℕ) (v : X) → length vs ≡ length ks → i < length ks → zip ks (set vs i v) ≡ set (zip ks vs) i (get_or ks i d, v)
  pairs-set [] vs i d v same lt = absurd (omega (arith, lt))
  pairs-set (q ∷ ks) [] i d v same lt = absurd (omega (arith, same))
  pairs-set (q ∷ ks) (w ∷ vs) zero d v same lt = refl
  pairs-set (q ∷ ks) (w ∷ vs) (suc i) d v same lt = ap (λ l. (q, w) ∷ l) (pairs-set ks vs i d v (omega (arith, same)) (omega (arith, lt)))

  -- the entry at a position consists of the key and the value at that position
  pub pair_at : (ks : List ℕ) (vs : List X) (i : ℕ) (d : ℕ × X) → length vs ≡ length ks → i < length ks → get_or (zip ks vs) i d ≡ (get_or ks i d.0, get_or vs i d.1)
  pair_at ks vs i d same lt = get_or-zip ks vs i d lt (omega (arith, same))

  module _ (ks : List ℕ) (vs : List X) (m : FinMap nat_cmp X) (paired : length vs ≡ length ks) (h : T (is_sorted nat_cmp (zip ks vs))) (seen : from_sorted (zip ks vs) ≡ m) where
    pub len_keys : len m ≡ length ks
    len_keys = len_seen (zip ks vs) m h seen ∙ length-pairs ks vs paired

    pub key_below : (k i : ℕ) → IsAt (entries m) k i → i < length ks
    key_below k i a = let size = length-pairs ks vs paired in omega (arith, size, position_below (zip ks vs) m h seen k i a)

    pub gap_below : (k i : ℕ) → IsGapFor (entries m) k i → i ≤ length ks
    gap_below k i g = let size = length-pairs ks vs paired in omega (arith, size, gap_within (zip ks vs) m h seen k i g)

    -- the value at the position of a key
    pub value_found : (k i : ℕ) (v : X) → v ≡ get_or vs i v → IsAt (entries m) k i → get m k ≡ Some v
    value_found k i v read a =
        get_seen (zip ks vs) m h seen k ∙ find_at (zip ks vs) k i (k, v) h (at_seen (zip ks vs) m h seen k i a)
        ∙ ap Some (ap (λ e. e.1) (pair_at ks vs i (k, v) paired (key_below k i a)) ∙ sym read)

    -- the key read at a position is at that position
    pub key_stands : (i k : ℕ) → i < length ks → k ≡ get_or ks i k → IsAt (entries m) k i
    key_stands i k lt read =
        let size = length-pairs ks vs paired in
        subst (λ l. IsAt l k i) (sym (entries_seen (zip ks vs) m h seen)) (record {
          in_range = omega (arith, size, lt);
          has_key = λ e. ap (λ e. e.0) (pair_at ks vs i e paired lt) ∙ get_or_default ks i e.0 k lt ∙ sym read;
        })

    pub pair_read : (i k : ℕ) (v : X) → i < length ks → k ≡ get_or ks i k → v ≡ get_or vs i v → (k, v) ≡ get_or (zip ks vs) i (k, v)
    pair_read i k v lt key value = (λ j. (key j, value j)) ∙ sym (pair_at ks vs i (k, v) paired lt)

    pub pair_there : (i k : ℕ) (v : X) → i < length ks → k ≡ get_or ks i k → v ≡ get_or vs i v → slice_get (entries m) i ≡ Some (k, v)
    pair_there i k v lt key value =
        let size = length-pairs ks vs paired in
        ap (λ l. slice_get l i) (entries_seen (zip ks vs) m h seen) ∙ slice_get-inside (zip ks vs) i (k, v) (omega (arith, size, lt)) (pair_read i k v lt key value)

    pub pair_past : (i : ℕ) → length vs ≤ i → slice_get (entries m) i ≡ None
    pair_past i past =
        let size = length-pairs ks vs paired in
        ap (λ l. slice_get l i) (entries_seen (zip ks vs) m h seen) ∙ slice_get-past (zip ks vs) i (omega (arith, size, paired, past))

    -- the lists after each change
    pub pairs_more : (k i : ℕ) (v : X) → IsGapFor (entries m) k i → zip (insert ks i k) (insert vs i v) ≡ entries (map_insert m k v)
    pairs_more k i v g = pairs-inserted ks vs i k v paired (gap_below k i g) ∙ entries_inserted (zip ks vs) m h seen k i v g

    pub pairs_less : (k i : ℕ) → IsAt (entries m) k i → zip (remove ks i) (remove vs i) ≡ where_key nat_cmp (but k) (zip ks vs)
    pairs_less k i a = pairs-removed ks vs i paired (key_below k i a) ∙ entries_removed (zip ks vs) m h seen k i a

    -- the key at a position
    pub key_here : (i : ℕ) → i < length ks → get_or ks i 0 ≡ get_or ks i (get_or ks i 0)
    key_here i lt = get_or_default ks i 0 (get_or ks i 0) lt

    pub pairs_written : (i : ℕ) (v w : X) → i < length ks → v ≡ get_or vs i v → zip ks (set vs i w) ≡ entries (map_insert m (get_or ks i 0) w)
    pairs_written i v w lt read =
        let size = length-pairs ks vs paired in
        let k = get_or ks i 0 in
        let whole = pair_read i k v lt (key_here i lt) read in
        let a = at_itself (zip ks vs) m h seen i (k, v) (omega (arith, size, lt)) whole in
        pairs-set ks vs i 0 w paired lt ∙ entries_written (zip ks vs) m h seen k i (k, v) w whole a

    -- a new value at a position is a new value for its key
    pub put_at_key : (i : ℕ) (e : ℕ × X) (w : X) → slice_get (entries m) i ≡ Some e → put_at m i w ≡ map_insert m e.0 w
    put_at_key i e w there = ap (λ o. option_map_or (λ e. map_insert m e.0 w) o m) there
