-- A hash map with number keys as the finite map of its entries: its value at a key, and the map after a change of one
-- key.
use Rattle.std.proofs.Common.{◌≡◌, ℕ, cond, nat_eq, List, [], ◌∷◌, Option, Some, None, IsSome, refl, sym, ap, subst, ◌∙◌}
use Rattle.std.specs.Cmp.{nat_cmp_total, unsigned_tied, eq_by_cmp_equiv}
use Rattle.std.specs.FinMap.{FinMap, get, insert, remove, find, from_entries, get-from_entries, get-insert, get-remove, same_map, nat_cmp-IsAntisymmetric}
use Rattle.std.specs.Ordering.{nat_cmp, eq_by_cmp}
use Rattle.std.specs.Map.{lookup}
use Rattle.std.specs.Borrow.{MutBor}
use Rattle.std.specs.Option.{option_copied_mut}
use Rattle.indexmap.specs.IndexMap.{IndexMap, UpdatesBy, WritesThrough, get as hashed}

-- comparing two keys gives the same in either order
tied : (k q : ℕ) → nat_eq k q ≡ eq_by_cmp nat_cmp q k
tied k q = sym (unsigned_tied k q) ∙ (eq_by_cmp_equiv nat_cmp_total).symm k q

module _ {X : Type 0} where
  found : (es : List (ℕ × X)) (q : ℕ) → find nat_cmp q es ≡ lookup (nat_eq q) es
  found [] q = refl
  found (e ∷ es) q = λ i. cond (unsigned_tied q e.0 i) (Some e.1) (found es q i)

module _ {X S : Type 0} (m : IndexMap ℕ X S) where
  -- the finite map and the hash map have the same value at a key
  pub get_hashed : (q : ℕ) → get (from_entries {R = nat_cmp} m.entries) q ≡ hashed nat_eq m q
  get_hashed q = get-from_entries nat_cmp_total m.entries q ∙ found m.entries q

  module _ (seen : FinMap nat_cmp X) (is : from_entries m.entries ≡ seen) where
    -- the same for the map that the view shows
    pub get_seen : (q : ℕ) → get seen q ≡ hashed nat_eq m q
    get_seen q = sym (ap (λ s. get s q) is) ∙ get_hashed q

module _ {X S : Type 0} (m n : IndexMap ℕ X S) (seen : FinMap nat_cmp X) (is : from_entries m.entries ≡ seen) (k : ℕ) where
  after : (w : Option X) → UpdatesBy nat_eq (nat_eq k) m n w → (q : ℕ) → get (from_entries {R = nat_cmp} n.entries) q ≡ cond (eq_by_cmp nat_cmp q k) w (get seen q)
  after w updates q = get_hashed n q ∙ updates.0 q ∙ (λ i. cond (tied k q i) w (sym (get_seen m seen is q) i))

  -- a key is inserted, or gets another value
  pub seen_inserted : (x : X) → UpdatesBy nat_eq (nat_eq k) m n (Some x) → from_entries n.entries ≡ insert seen k x
  seen_inserted x updates = same_map nat_cmp_total nat_cmp-IsAntisymmetric _ _ (λ q. after (Some x) updates q ∙ sym (get-insert nat_cmp_total seen k x q))

  -- a key is removed
  pub seen_removed : UpdatesBy nat_eq (nat_eq k) m n None → from_entries n.entries ≡ remove seen k
  seen_removed updates = same_map nat_cmp_total nat_cmp-IsAntisymmetric _ _ (λ q. after None updates q ∙ sym (get-remove nat_cmp_total seen k q))

  -- a present key, after a `&mut` to its value has ended
  pub seen_written : (x : X) → WritesThrough nat_eq (nat_eq k) m x n → IsSome (get seen k) → from_entries n.entries ≡ insert seen k x
  seen_written x writes there = seen_inserted x (writes.3 (subst IsSome (get_seen m seen is k) there))

-- looking up a key for a `&mut` to its value
module _ {X S : Type 0} (m : IndexMap ℕ X S) (seen : FinMap nat_cmp X) (is : from_entries m.entries ≡ seen) (k : ℕ) (r : Option (MutBor X)) (value : option_copied_mut r ≡ hashed nat_eq m k) where
  -- it returns the value of a present key
  pub get_lent : (x : MutBor X) → r ≡ Some x → get seen k ≡ Some x.now
  get_lent x found = get_seen m seen is k ∙ sym value ∙ ap option_copied_mut found

  -- and None for an absent key
  pub get_not_lent : r ≡ None → get seen k ≡ None
  get_not_lent missed = get_seen m seen is k ∙ sym value ∙ ap option_copied_mut missed

  -- it finds a present key
  pub lent_some : IsSome (get seen k) → IsSome r
  lent_some there = by r (subst IsSome (get_seen m seen is k ∙ sym value) there)
    where
      by : (r : Option (MutBor X)) → IsSome (option_copied_mut r) → IsSome r
      by None h = h
      by (Some x) h = refl
