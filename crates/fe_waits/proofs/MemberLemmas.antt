-- The requests of the nodes as a finite map, when a node changes.
use Rattle.std.proofs.Common.{◌≡◌, ◌≢◌, ℕ, zero, suc, ◌<◌, ◌⊎◌, inl, inr, ◌+◌, ◌-◌, true, false, cond, not, List, [], ◌∷◌, length, set, replicate, Option, Some, None, is_some, refl, sym, ap, subst, ◌∙◌, arith}
use Rattle.std.specs.Prelude.{◌==◌}
use Rattle.std.specs.Ordering.{eq_by_cmp, is_eq}
use Rattle.std.specs.declared.cmp.Ordering.{Ordering}
use Rattle.std.specs.declared.cmp.Ordering.TheVariants.{Less, Equal, Greater}
use Rattle.std.specs.Cmp.{tied_itself}
use Rattle.std.specs.FinMap.{FinMap, empty, get, insert, remove, len, get-empty, get-insert, get-remove, get-retain_keys, len-empty, len-insert, len-remove, empty_of_len, same_map}
use Rattle.std.proofs.lemmas.Bool.{cases_eq, ne_eqb, eq-eqb}
use Rattle.fe_waits.specs.declared.row.Row.{Row}
use Rattle.fe_waits.specs.Waiting.{pair_cmp, pair_cmp_total, pair_cmp-IsAntisymmetric, WaitingAccess, key_of, waiting_access_of, of_slot, count_of, without_slot}
use Rattle.fe_waits.specs.within.Inner.{members_of, row_in, AreDifferent}

-- ---- keys that are pairs

pub key_cases : (q k : ℕ × ℕ) → (q ≡ k) ⊎ (q ≢ k)
key_cases q k =
    elim (cases_eq q.0 k.0) as (λ _. (q ≡ k) ⊎ (q ≢ k)) [
      | inl first ↦ elim (cases_eq q.1 k.1) as (λ _. (q ≡ k) ⊎ (q ≢ k)) [
        | inl second ↦ inl (λ i. (first i, second i))
        | inr other ↦ inr (λ e. other (ap (λ p. p.1) e))
      ]
      | inr other ↦ inr (λ e. other (ap (λ p. p.0) e))
    ]

hit : (q k : ℕ × ℕ) → q ≡ k → eq_by_cmp pair_cmp q k ≡ true
hit q k e = ap (λ p. eq_by_cmp pair_cmp q p) (sym e) ∙ ap is_eq (tied_itself pair_cmp_total q)

miss : (q k : ℕ × ℕ) → q ≢ k → eq_by_cmp pair_cmp q k ≡ false
miss q k n = by_answer (pair_cmp q k) (λ t. n (pair_cmp-IsAntisymmetric q k t))
  where
    by_answer : (o : Ordering) → (o ≢ Equal) → is_eq o ≡ false
    by_answer Less f = refl
    by_answer Equal f = absurd (f refl)
    by_answer Greater f = refl

module _ {X : Type 0} (m : FinMap pair_cmp X) (k : ℕ × ℕ) where
  pub get-insert_here : (v : X) → get (insert m k v) k ≡ Some v
  get-insert_here v = get-insert pair_cmp_total m k v k ∙ ap (λ b. cond b (Some v) (get m k)) (hit k k refl)

  pub get-insert_other : (v : X) (q : ℕ × ℕ) → q ≢ k → get (insert m k v) q ≡ get m q
  get-insert_other v q n = get-insert pair_cmp_total m k v q ∙ ap (λ b. cond b (Some v) (get m q)) (miss q k n)

  pub get-remove_here : get (remove m k) k ≡ None
  get-remove_here = get-remove pair_cmp_total m k k ∙ ap (λ b. cond b None (get m k)) (hit k k refl)

  pub get-remove_other : (q : ℕ × ℕ) → q ≢ k → get (remove m k) q ≡ get m q
  get-remove_other q n = get-remove pair_cmp_total m k q ∙ ap (λ b. cond b None (get m q)) (miss q k n)

  -- removing an absent key changes nothing
  pub remove_absent : get m k ≡ None → remove m k ≡ m
  remove_absent none = same_map pair_cmp_total pair_cmp-IsAntisymmetric _ _ (λ q. elim (key_cases q k) as (λ _. get (remove m k) q ≡ get m q) [
    | inl same ↦ ap (get (remove m k)) same ∙ get-remove_here ∙ sym none ∙ ap (get m) (sym same)
    | inr other ↦ get-remove_other q other
  ])

  -- inserting a new key and removing it changes nothing
  pub remove-insert : (v : X) → get m k ≡ None → remove (insert m k v) k ≡ m
  remove-insert v none = same_map pair_cmp_total pair_cmp-IsAntisymmetric _ _ (λ q. elim (key_cases q k) as (λ _. get (remove (insert m k v) k) q ≡ get m q) [
    | inl same ↦ ap (get (remove (insert m k v) k)) same ∙ get-remove_at (insert m k v) ∙ sym none ∙ ap (get m) (sym same)
    | inr other ↦ get-removed_other (insert m k v) q other ∙ get-insert_other v q other
  ])
    where
      get-remove_at : (n : FinMap pair_cmp X) → get (remove n k) k ≡ None
      get-remove_at n = get-remove pair_cmp_total n k k ∙ ap (λ b. cond b None (get n k)) (hit k k refl)

      get-removed_other : (n : FinMap pair_cmp X) (q : ℕ × ℕ) → q ≢ k → get (remove n k) q ≡ get n q
      get-removed_other n q other = get-remove pair_cmp_total n k q ∙ ap (λ b. cond b None (get n q)) (miss q k other)

  -- two changes at different keys commute
  module _ (j : ℕ × ℕ) (apart : j ≢ k) where
    pub insert-insert : (v w : X) → insert (insert m k v) j w ≡ insert (insert m j w) k v
    insert-insert v w = same_map pair_cmp_total pair_cmp-IsAntisymmetric _ _ (λ q.
        get-insert pair_cmp_total (insert m k v) j w q ∙ ap (cond (eq_by_cmp pair_cmp q j) (Some w)) (get-insert pair_cmp_total m k v q)
        ∙ swapped q (key_cases q j)
        ∙ sym (get-insert pair_cmp_total (insert m j w) k v q ∙ ap (cond (eq_by_cmp pair_cmp q k) (Some v)) (get-insert pair_cmp_total m j w q)))
      where
        swapped : (q : ℕ × ℕ) → (q ≡ j) ⊎ (q ≢ j) → cond (eq_by_cmp pair_cmp q j) (Some w) (cond (eq_by_cmp pair_cmp q k) (Some v) (get m q)) ≡ cond (eq_by_cmp pair_cmp q k) (Some v) (cond (eq_by_cmp pair_cmp q j) (Some w) (get m q))
        swapped q (inl same) = rw (hit q j same, miss q k (λ e. apart (sym same ∙ e))) refl
        swapped q (inr other) = rw (miss q j other) refl

    pub insert-remove : (w : X) → insert (remove m k) j w ≡ remove (insert m j w) k
    insert-remove w = same_map pair_cmp_total pair_cmp-IsAntisymmetric _ _ (λ q.
        get-insert pair_cmp_total (remove m k) j w q ∙ ap (cond (eq_by_cmp pair_cmp q j) (Some w)) (get-remove pair_cmp_total m k q)
        ∙ swapped q (key_cases q j)
        ∙ sym (get-remove pair_cmp_total (insert m j w) k q ∙ ap (cond (eq_by_cmp pair_cmp q k) None) (get-insert pair_cmp_total m j w q)))
      where
        swapped : (q : ℕ × ℕ) → (q ≡ j) ⊎ (q ≢ j) → cond (eq_by_cmp pair_cmp q j) (Some w) (cond (eq_by_cmp pair_cmp q k) None (get m q)) ≡ cond (eq_by_cmp pair_cmp q k) None (cond (eq_by_cmp pair_cmp q j) (Some w) (get m q))
        swapped q (inl same) = rw (hit q j same, miss q k (λ e. apart (sym same ∙ e))) refl
        swapped q (inr other) = rw (miss q j other) refl

-- ---- the requests of the nodes

pub none_some : {X P : Type 0} {x : X} → None ≡ Some x → P
none_some e = cc

pub some_same : {X : Type 0} {x y : X} → Some x ≡ Some y → x ≡ y
some_same e = cc

-- no node has this key
abbrev pub IsNew : List (Option Row) → ℕ × ℕ → Type 0
IsNew nodes key = (node : ℕ) (row : Row) → row_in nodes node ≡ Some row → key_of row ≢ key

pub members-new : (nodes : List (Option Row)) (key : ℕ × ℕ) → IsNew nodes key → get (members_of nodes) key ≡ None
members-new [] key new = get-empty pair_cmp key
members-new (None ∷ nodes) key new = members-new nodes key (λ node row e. new (suc node) row e)
members-new (Some row ∷ nodes) key new =
    get-insert_other (members_of nodes) (key_of row) (waiting_access_of row) key (λ e. new 0 row refl (sym e)) ∙ members-new nodes key (λ node row e. new (suc node) row e)

-- a member is the request of a node
pub members-node : (nodes : List (Option Row)) (key : ℕ × ℕ) (waiter : WaitingAccess) → get (members_of nodes) key ≡ Some waiter → (node : ℕ) × (row : Row) × (row_in nodes node ≡ Some row) × (key_of row ≡ key) × (waiting_access_of row ≡ waiter)
members-node [] key waiter e = none_some (sym (get-empty pair_cmp key) ∙ e)
members-node (None ∷ nodes) key waiter e = let rest = members-node nodes key waiter e in (suc rest.0, rest.1, rest.2, rest.3, rest.4)
members-node (Some row ∷ nodes) key waiter e =
    elim (key_cases key (key_of row)) as (λ _. (node : ℕ) × (r : Row) × (row_in (Some row ∷ nodes) node ≡ Some r) × (key_of r ≡ key) × (waiting_access_of r ≡ waiter)) [
      | inl same ↦ (0, row, refl, sym same, some_same (sym (ap (get (members_of (Some row ∷ nodes))) same ∙ get-insert_here (members_of nodes) (key_of row) (waiting_access_of row)) ∙ e))
      | inr other ↦ let rest = members-node nodes key waiter (sym (get-insert_other (members_of nodes) (key_of row) (waiting_access_of row) key other) ∙ e) in (suc rest.0, rest.1, rest.2, rest.3, rest.4)
    ]

different-tail : (o : Option Row) (nodes : List (Option Row)) → AreDifferent (o ∷ nodes) → AreDifferent nodes
different-tail o nodes d node other row else p q same = let e = d (suc node) (suc other) row else p q same in omega arith

-- the request of a node is a member
pub members-row : (nodes : List (Option Row)) → AreDifferent nodes → (node : ℕ) (row : Row) → row_in nodes node ≡ Some row → get (members_of nodes) (key_of row) ≡ Some (waiting_access_of row)
members-row [] d node row e = none_some e
members-row (o ∷ nodes) d zero row e = subst (λ o. get (members_of (o ∷ nodes)) (key_of row) ≡ Some (waiting_access_of row)) (sym e) (get-insert_here (members_of nodes) (key_of row) (waiting_access_of row))
members-row (None ∷ nodes) d (suc node) row e = members-row nodes (different-tail None nodes d) node row e
members-row (Some first ∷ nodes) d (suc node) row e =
    get-insert_other (members_of nodes) (key_of first) (waiting_access_of first) (key_of row) (λ same. apart (d (suc node) 0 row first e refl same))
    ∙ members-row nodes (different-tail (Some first) nodes d) node row e
  where
    apart : suc node ≡ 0 → ⊥
    apart e = omega arith

-- a free node takes a new request
pub members-taken : (nodes : List (Option Row)) (node : ℕ) (row : Row) → node < length nodes → row_in nodes node ≡ None → IsNew nodes (key_of row) → members_of (set nodes node (Some row)) ≡ insert (members_of nodes) (key_of row) (waiting_access_of row)
members-taken [] node row below free new = absurd (omega arith)
members-taken (o ∷ nodes) zero row below free new = ap (λ o. insert (members_of (o ∷ nodes)) (key_of row) (waiting_access_of row)) (sym free)
members-taken (None ∷ nodes) (suc node) row below free new = members-taken nodes node row (omega arith) free (λ n r e. new (suc n) r e)
members-taken (Some first ∷ nodes) (suc node) row below free new =
    ap (λ m. insert m (key_of first) (waiting_access_of first)) (members-taken nodes node row (omega arith) free (λ n r e. new (suc n) r e))
    ∙ insert-insert (members_of nodes) (key_of row) (key_of first) (new 0 first refl) (waiting_access_of row) (waiting_access_of first)

-- a node becomes free
pub members-freed : (nodes : List (Option Row)) → AreDifferent nodes → (node : ℕ) (row : Row) → row_in nodes node ≡ Some row → members_of (set nodes node None) ≡ remove (members_of nodes) (key_of row)
members-freed [] d node row e = none_some e
members-freed (o ∷ nodes) d zero row e =
    sym (remove-insert (members_of nodes) (key_of row) (waiting_access_of row) (members-new nodes (key_of row) (λ n r f same. apart n (d (suc n) 0 r row f e same))))
    ∙ ap (λ o. remove (members_of (o ∷ nodes)) (key_of row)) (sym e)
  where
    apart : (n : ℕ) → suc n ≡ 0 → ⊥
    apart n e = omega arith
members-freed (None ∷ nodes) d (suc node) row e = members-freed nodes (different-tail None nodes d) node row e
members-freed (Some first ∷ nodes) d (suc node) row e =
    ap (λ m. insert m (key_of first) (waiting_access_of first)) (members-freed nodes (different-tail (Some first) nodes d) node row e)
    ∙ insert-remove (members_of nodes) (key_of row) (key_of first) (λ same. apart (d 0 (suc node) first row refl e same)) (waiting_access_of first)
  where
    apart : 0 ≡ suc node → ⊥
    apart e = omega arith

pub members-empty : (count : ℕ) → members_of (replicate count None) ≡ empty
members-empty zero = refl
members-empty (suc count) = members-empty count

-- ---- the requests of a slot

slot_test : (slot : ℕ) (q x : ℕ × ℕ) → pair_cmp q x ≡ Equal → (x.0 == slot) ≡ (q.0 == slot)
slot_test slot q x t = ap (λ p. p.0 == slot) (sym (pair_cmp-IsAntisymmetric q x t))

module _ (members : FinMap pair_cmp WaitingAccess) (slot : ℕ) where
  pub get-of_slot : (q : ℕ × ℕ) → get (of_slot members slot) q ≡ cond (q.0 == slot) (get members q) None
  get-of_slot q = get-retain_keys members (λ key. key.0 == slot) q (slot_test slot q)

  pub get-without_slot : (q : ℕ × ℕ) → get (without_slot members slot) q ≡ cond (not (q.0 == slot)) (get members q) None
  get-without_slot q = get-retain_keys members (λ key. not (key.0 == slot)) q (λ x t. ap not (slot_test slot q x t))

  pub of_slot-none : ((number : ℕ) (waiter : WaitingAccess) → get members (slot, number) ≡ Some waiter → ⊥) → of_slot members slot ≡ empty
  of_slot-none none = same_map pair_cmp_total pair_cmp-IsAntisymmetric _ _ (λ q. get-of_slot q ∙ elim (cases_eq q.0 slot) as (λ _. cond (q.0 == slot) (get members q) None ≡ get (empty {X = WaitingAccess} {R = pair_cmp}) q) [
    | inl same ↦ ap (λ b. cond b (get members q) None) (eq-eqb q.0 slot same) ∙ by_answer q same (get members q) refl
    | inr other ↦ ap (λ b. cond b (get members q) None) (ne_eqb q.0 slot other) ∙ sym (get-empty pair_cmp q)
  ])
    where
      by_answer : (q : ℕ × ℕ) → q.0 ≡ slot → (o : Option WaitingAccess) → get members q ≡ o → get members q ≡ get (empty {X = WaitingAccess} {R = pair_cmp}) q
      by_answer q same None e = e ∙ sym (get-empty pair_cmp q)
      by_answer q same (Some waiter) e = absurd (none q.1 waiter (ap (λ s. get members (s, q.1)) (sym same) ∙ e))

  -- removing the requests of a slot that has none changes nothing
  pub without-none : of_slot members slot ≡ empty → without_slot members slot ≡ members
  without-none none = same_map pair_cmp_total pair_cmp-IsAntisymmetric _ _ (λ q. get-without_slot q ∙ elim (cases_eq q.0 slot) as (λ _. cond (not (q.0 == slot)) (get members q) None ≡ get members q) [
    | inl same ↦
        let test = eq-eqb q.0 slot same in
        ap (λ b. cond (not b) (get members q) None) test ∙ sym (ap (λ b. cond b (get members q) None) (sym test) ∙ sym (get-of_slot q) ∙ ap (λ m. get m q) none ∙ get-empty pair_cmp q)
    | inr other ↦ ap (λ b. cond (not b) (get members q) None) (ne_eqb q.0 slot other)
  ])

pub len-insert_new : (m : FinMap pair_cmp WaitingAccess) (k : ℕ × ℕ) (v : WaitingAccess) → get m k ≡ None → len (insert m k v) ≡ len m + 1
len-insert_new m k v none = len-insert pair_cmp_total m k v ∙ ap (λ o. cond (is_some o) (len m) (len m + 1)) none

pub len-remove_old : (m : FinMap pair_cmp WaitingAccess) (k : ℕ × ℕ) (v : WaitingAccess) → get m k ≡ Some v → len (remove m k) ≡ len m - 1
len-remove_old m k v some = len-remove pair_cmp_total m k ∙ ap (λ o. cond (is_some o) (len m - 1) (len m)) some

module _ (m : FinMap pair_cmp WaitingAccess) (k : ℕ × ℕ) where
  of_slot-insert : (v : WaitingAccess) → of_slot (insert m k v) k.0 ≡ insert (of_slot m k.0) k v
  of_slot-insert v = same_map pair_cmp_total pair_cmp-IsAntisymmetric _ _ (λ q.
      get-of_slot (insert m k v) k.0 q ∙ ap (λ o. cond (q.0 == k.0) o None) (get-insert pair_cmp_total m k v q)
      ∙ by_key q (key_cases q k)
      ∙ sym (get-insert pair_cmp_total (of_slot m k.0) k v q ∙ ap (cond (eq_by_cmp pair_cmp q k) (Some v)) (get-of_slot m k.0 q)))
    where
      by_key : (q : ℕ × ℕ) → (q ≡ k) ⊎ (q ≢ k) → cond (q.0 == k.0) (cond (eq_by_cmp pair_cmp q k) (Some v) (get m q)) None ≡ cond (eq_by_cmp pair_cmp q k) (Some v) (cond (q.0 == k.0) (get m q) None)
      by_key q (inl same) = rw (hit q k same, eq-eqb q.0 k.0 (ap (λ p. p.0) same)) refl
      by_key q (inr other) = rw (miss q k other) refl

  of_slot-insert_other : (v : WaitingAccess) (slot : ℕ) → slot ≢ k.0 → of_slot (insert m k v) slot ≡ of_slot m slot
  of_slot-insert_other v slot n = same_map pair_cmp_total pair_cmp-IsAntisymmetric _ _ (λ q.
      get-of_slot (insert m k v) slot q ∙ by_slot q (cases_eq q.0 slot) ∙ sym (get-of_slot m slot q))
    where
      by_slot : (q : ℕ × ℕ) → (q.0 ≡ slot) ⊎ (q.0 ≢ slot) → cond (q.0 == slot) (get (insert m k v) q) None ≡ cond (q.0 == slot) (get m q) None
      by_slot q (inl same) = ap (λ o. cond (q.0 == slot) o None) (get-insert_other m k v q (λ e. n (sym same ∙ ap (λ p. p.0) e)))
      by_slot q (inr other) = rw (ne_eqb q.0 slot other) refl

  of_slot-remove : of_slot (remove m k) k.0 ≡ remove (of_slot m k.0) k
  of_slot-remove = same_map pair_cmp_total pair_cmp-IsAntisymmetric _ _ (λ q.
      get-of_slot (remove m k) k.0 q ∙ ap (λ o. cond (q.0 == k.0) o None) (get-remove pair_cmp_total m k q)
      ∙ by_key q (key_cases q k)
      ∙ sym (get-remove pair_cmp_total (of_slot m k.0) k q ∙ ap (cond (eq_by_cmp pair_cmp q k) None) (get-of_slot m k.0 q)))
    where
      by_key : (q : ℕ × ℕ) → (q ≡ k) ⊎ (q ≢ k) → cond (q.0 == k.0) (cond (eq_by_cmp pair_cmp q k) None (get m q)) None ≡ cond (eq_by_cmp pair_cmp q k) None (cond (q.0 == k.0) (get m q) None)
      by_key q (inl same) = rw (hit q k same, eq-eqb q.0 k.0 (ap (λ p. p.0) same)) refl
      by_key q (inr other) = rw (miss q k other) refl

  of_slot-remove_other : (slot : ℕ) → slot ≢ k.0 → of_slot (remove m k) slot ≡ of_slot m slot
  of_slot-remove_other slot n = same_map pair_cmp_total pair_cmp-IsAntisymmetric _ _ (λ q.
      get-of_slot (remove m k) slot q ∙ by_slot q (cases_eq q.0 slot) ∙ sym (get-of_slot m slot q))
    where
      by_slot : (q : ℕ × ℕ) → (q.0 ≡ slot) ⊎ (q.0 ≢ slot) → cond (q.0 == slot) (get (remove m k) q) None ≡ cond (q.0 == slot) (get m q) None
      by_slot q (inl same) = ap (λ o. cond (q.0 == slot) o None) (get-remove_other m k q (λ e. n (sym same ∙ ap (λ p. p.0) e)))
      by_slot q (inr other) = rw (ne_eqb q.0 slot other) refl

  get-of_slot_own : get (of_slot m k.0) k ≡ get m k
  get-of_slot_own = get-of_slot m k.0 k ∙ ap (λ b. cond b (get m k) None) (eq-eqb k.0 k.0 refl)

  -- the number of a slot's requests after one is added or removed
  pub count-insert : (v : WaitingAccess) → get m k ≡ None → count_of (insert m k v) k.0 ≡ count_of m k.0 + 1
  count-insert v none = ap len (of_slot-insert v) ∙ len-insert_new (of_slot m k.0) k v (get-of_slot_own ∙ none)

  pub count-insert_other : (v : WaitingAccess) (slot : ℕ) → slot ≢ k.0 → count_of (insert m k v) slot ≡ count_of m slot
  count-insert_other v slot n = ap len (of_slot-insert_other v slot n)

  pub count-remove : (v : WaitingAccess) → get m k ≡ Some v → count_of (remove m k) k.0 ≡ count_of m k.0 - 1
  count-remove v some = ap len of_slot-remove ∙ len-remove_old (of_slot m k.0) k v (get-of_slot_own ∙ some)

  pub count-remove_other : (slot : ℕ) → slot ≢ k.0 → count_of (remove m k) slot ≡ count_of m slot
  count-remove_other slot n = ap len (of_slot-remove_other slot n)

  -- the other slots keep their requests
  pub without-remove : without_slot (remove m k) k.0 ≡ without_slot m k.0
  without-remove = same_map pair_cmp_total pair_cmp-IsAntisymmetric _ _ (λ q.
      get-without_slot (remove m k) k.0 q ∙ by_slot q (cases_eq q.0 k.0) ∙ sym (get-without_slot m k.0 q))
    where
      by_slot : (q : ℕ × ℕ) → (q.0 ≡ k.0) ⊎ (q.0 ≢ k.0) → cond (not (q.0 == k.0)) (get (remove m k) q) None ≡ cond (not (q.0 == k.0)) (get m q) None
      by_slot q (inl same) = rw (eq-eqb q.0 k.0 same) refl
      by_slot q (inr other) = ap (λ o. cond (not (q.0 == k.0)) o None) (get-remove_other m k q (λ e. other (ap (λ p. p.0) e)))

-- a node is free, or it represents a member
pub free-or-full : (nodes : List (Option Row)) → AreDifferent nodes → ((node : ℕ) × (node < length nodes) × (row_in nodes node ≡ None)) ⊎ (len (members_of nodes) ≡ length nodes)
free-or-full [] d = inr (len-empty pair_cmp WaitingAccess)
free-or-full (None ∷ nodes) d = inl (0, omega arith, refl)
free-or-full (Some row ∷ nodes) d =
    elim (free-or-full nodes (different-tail (Some row) nodes d)) as (λ _. ((node : ℕ) × (node < length (Some row ∷ nodes)) × (row_in (Some row ∷ nodes) node ≡ None)) ⊎ (len (members_of (Some row ∷ nodes)) ≡ length (Some row ∷ nodes))) [
      | inl free ↦ let below : suc free.0 < length (Some row ∷ nodes) = omega (arith, free.1) in inl (suc free.0, below, free.2)
      | inr full ↦
          let more = len-insert_new (members_of nodes) (key_of row) (waiting_access_of row) (members-new nodes (key_of row) (λ n r e same. apart n (d (suc n) 0 r row e refl same))) in
          inr (more ∙ omega (arith, full))
    ]
  where
    apart : (n : ℕ) → suc n ≡ 0 → ⊥
    apart n e = omega arith

pub len-positive : (m : FinMap pair_cmp WaitingAccess) (k : ℕ × ℕ) (v : WaitingAccess) → get m k ≡ Some v → 0 < len m
len-positive m k v some =
    elim (cases_eq (len m) 0) as (λ _. 0 < len m) [
      | inl none ↦ none_some (sym (ap (λ n. get n k) (empty_of_len m none) ∙ get-empty pair_cmp k) ∙ some)
      | inr more ↦ omega arith
    ]

-- a slot loses one request
pub count-falls : (m : FinMap pair_cmp WaitingAccess) (k : ℕ × ℕ) (v : WaitingAccess) → get m k ≡ Some v → count_of (remove m k) k.0 < count_of m k.0
count-falls m k v some =
    let positive = len-positive (of_slot m k.0) k v (get-of_slot m k.0 k ∙ ap (λ b. cond b (get m k) None) (eq-eqb k.0 k.0 refl) ∙ some) in
    let less = count-remove m k v some in
    omega arith
