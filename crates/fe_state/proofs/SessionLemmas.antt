-- What the cells of a session hold for a number, and after a change.
use Rattle.std.proofs.Common.{◌≡◌, ◌≢◌, ℕ, zero, suc, ◌+◌, ◌-◌, ◌%◌, ◌≤◌, ◌<◌, ◌⊎◌, inl, inr, nat_le, Bool, true, false, cond, List, length, Option, Some, None, slice_index_or, slice_set, replicate, refl, sym, ap, subst, ◌∙◌, arith, rules}
use Rattle.std.specs.Prelude.{◌↔◌, IsTrue, not, is_some}
use Rattle.std.proofs.lemmas.Bool.{cases_lt}
use Rattle.std.proofs.lemmas.Bool.Decides.{nat_tests}
use Rattle.std.proofs.lemmas.List.{get_or-set_same, get_or-set_other, get_or-replicate}
use Rattle.std.specs.Ordering.{nat_cmp}
use Rattle.std.specs.FinMap.{FinMap, empty, get, insert, remove, retain_keys, len, contains_key, same_map, get-empty, len-empty, len-remove, nat_cmp-IsAntisymmetric}
use Rattle.std.specs.Cmp.{nat_cmp_total}
use Rattle.fe_state.specs.declared.kept.Kept.{Kept}
use Rattle.fe_state.specs.DroppedAnswers.{MayLower}
use Rattle.fe_state.specs.Sessions.{Session, IsInWindow, MayRise, raised, keeping, forgetting, IsUsable}
use Rattle.fe_state.specs.within.Arrays.{cell_of, with_cell, held, window_of}
use Rattle.fe_state.proofs.Maps.{get_inserted, get_beside, get_removed, get_left, same_or_other, get_retained}

-- two maps by numbers that answer alike are one
pub same_numbers : {X : Type 0} (m n : FinMap nat_cmp X) → ((q : ℕ) → get m q ≡ get n q) → m ≡ n
same_numbers m n is = same_map nat_cmp_total nat_cmp-IsAntisymmetric m n is

with_cell_beside : {X : Type 0} (m : FinMap nat_cmp X) (k : ℕ) (c : Option X) (q : ℕ) → q ≢ k → get (with_cell m k c) q ≡ get m q
with_cell_beside m k None q other = refl
with_cell_beside m k (Some x) q other = get_beside m k x q other

with_cell_here : {X : Type 0} (m : FinMap nat_cmp X) (k : ℕ) (c : Option X) → get m k ≡ None → get (with_cell m k c) k ≡ c
with_cell_here m k None none = none
with_cell_here m k (Some x) none = get_inserted m k x

-- nothing is held for a number that is not one of those
held_outside : {X : Type 0} (cells : List (Option X)) (floor n q : ℕ) → (q < floor) ⊎ (floor + n ≤ q) → get (held cells floor n) q ≡ None
unfolding held
held_outside cells floor zero q out = get-empty nat_cmp q
held_outside cells floor (suc n) q out =
    with_cell_beside (held cells floor n) (floor + n) (cell_of cells (floor + n)) q (omega arith) ∙ held_outside cells floor n q (elim out [ inl low ↦ inl low | inr high ↦ inr (omega arith) ])

-- for each of those, what its cell has
held_inside : {X : Type 0} (cells : List (Option X)) (floor n q : ℕ) → floor ≤ q → q < floor + n → get (held cells floor n) q ≡ cell_of cells q
unfolding held
held_inside cells floor zero q low high = absurd (omega arith)
held_inside cells floor (suc n) q low high =
    elim (same_or_other q (floor + n)) [
      | inl here ↦
          ap (get (with_cell (held cells floor n) (floor + n) (cell_of cells (floor + n)))) here
          ∙ with_cell_here (held cells floor n) (floor + n) (cell_of cells (floor + n)) (held_outside cells floor n (floor + n) (inr (omega arith)))
          ∙ ap (cell_of cells) (sym here)
      | inr other ↦
          with_cell_beside (held cells floor n) (floor + n) (cell_of cells (floor + n)) q other ∙ held_inside cells floor n q low (omega arith)
    ]

-- in the window a number has what its cell has
pub window_inside : {X : Type 0} (cells : List (Option X)) (floor q : ℕ) → IsInWindow floor q → get (window_of cells floor) q ≡ cell_of cells q
window_inside cells floor q h = held_inside cells floor 32 q h.not_below h.not_beyond

-- and outside nothing
pub window_outside : {X : Type 0} (cells : List (Option X)) (floor q : ℕ) → (q < floor) ⊎ (floor + 32 ≤ q) → get (window_of cells floor) q ≡ None
window_outside cells floor q out = held_outside cells floor 32 q out

-- a number is in the window or outside
pub inside_or_outside : (floor q : ℕ) → IsInWindow floor q ⊎ ((q < floor) ⊎ (floor + 32 ≤ q))
inside_or_outside floor q =
    elim (cases_lt q floor) [
      | inl below ↦ inr (inl below)
      | inr least ↦ elim (cases_lt q (floor + 32)) [ inl most ↦ inl (record { not_below = least; not_beyond = most }) | inr beyond ↦ inr (inr beyond) ]
    ]

-- a number that is not in the window
pub window_no : {X : Type 0} (cells : List (Option X)) (floor q : ℕ) → ¬ (IsInWindow floor q) → get (window_of cells floor) q ≡ None
window_no cells floor q beside = elim (inside_or_outside floor q) [ inl h ↦ absurd (beside h) | inr out ↦ window_outside cells floor q out ]

-- what is kept is kept for a number of the window
pub window_kept : {X : Type 0} (cells : List (Option X)) (floor q : ℕ) (x : X) → get (window_of cells floor) q ≡ Some x → IsInWindow floor q
window_kept cells floor q x is =
    elim (inside_or_outside floor q) [ inl h ↦ h | inr out ↦ let none = window_outside cells floor q out in cc ]

-- two numbers of a window have two cells
other_cell : (floor q k : ℕ) → IsInWindow floor q → IsInWindow floor k → q ≢ k → q % 32 ≢ k % 32
other_cell floor q k h i other e = other (omega arith)

-- a write to the cell of a number of the window changes what is held for it
window_written : {X : Type 0} (cells : List (Option X)) (floor k : ℕ) (c : Option X) → length cells ≡ 32 → IsInWindow floor k → get (window_of (slice_set cells (k % 32) c) floor) k ≡ c
window_written cells floor k c whole h =
    window_inside (slice_set cells (k % 32) c) floor k h ∙ get_or-set_same cells (k % 32) c None (omega arith)

-- and nothing else
window_beside : {X : Type 0} (cells : List (Option X)) (floor k : ℕ) (c : Option X) (q : ℕ) → IsInWindow floor k → q ≢ k → get (window_of (slice_set cells (k % 32) c) floor) q ≡ get (window_of cells floor) q
window_beside cells floor k c q h other =
    elim (inside_or_outside floor q) [
      | inl i ↦
          window_inside (slice_set cells (k % 32) c) floor q i
          ∙ get_or-set_other cells (k % 32) (q % 32) c None (other_cell floor q k i h other)
          ∙ sym (window_inside cells floor q i)
      | inr out ↦ window_outside (slice_set cells (k % 32) c) floor q out ∙ sym (window_outside cells floor q out)
    ]

pub window_insert : {X : Type 0} (cells : List (Option X)) (floor k : ℕ) (x : X) → length cells ≡ 32 → IsInWindow floor k → window_of (slice_set cells (k % 32) (Some x)) floor ≡ insert (window_of cells floor) k x
window_insert cells floor k x whole h =
    same_numbers _ _ (λ q. elim (same_or_other q k) [
      | inl here ↦ ap (get (window_of (slice_set cells (k % 32) (Some x)) floor)) here ∙ window_written cells floor k (Some x) whole h ∙ sym (ap (get (insert (window_of cells floor) k x)) here ∙ get_inserted (window_of cells floor) k x)
      | inr other ↦ window_beside cells floor k (Some x) q h other ∙ sym (get_beside (window_of cells floor) k x q other)
    ])

pub window_remove : {X : Type 0} (cells : List (Option X)) (floor k : ℕ) → length cells ≡ 32 → IsInWindow floor k → window_of (slice_set cells (k % 32) None) floor ≡ remove (window_of cells floor) k
window_remove cells floor k whole h =
    same_numbers _ _ (λ q. elim (same_or_other q k) [
      | inl here ↦ ap (get (window_of (slice_set cells (k % 32) None) floor)) here ∙ window_written cells floor k None whole h ∙ sym (ap (get (remove (window_of cells floor) k)) here ∙ get_removed (window_of cells floor) k)
      | inr other ↦ window_beside cells floor k None q h other ∙ sym (get_left (window_of cells floor) k q other)
    ])

-- cells that hold nothing
pub window_none : {X : Type 0} (floor : ℕ) → window_of (replicate 32 (let none : Option X = None in none)) floor ≡ empty
window_none {X} floor =
    same_numbers _ _ (λ q. elim (inside_or_outside floor q) [
      | inl h ↦ window_inside (replicate 32 None) floor q h ∙ get_or-replicate 32 (q % 32) None None (omega arith) ∙ sym (get-empty nat_cmp q)
      | inr out ↦ window_outside (replicate 32 None) floor q out ∙ sym (get-empty nat_cmp q)
    ])

-- below a floor that was raised nothing is kept
pub raised_below : {X : Type 0} (m : FinMap nat_cmp X) (floor q : ℕ) → q < floor → get (retain_keys m (nat_le floor)) q ≡ None
raised_below m floor q low =
    let e : nat_le floor q ≡ false = grind (arith, nat_tests) in
    get_retained m (nat_le floor) q ∙ ap (λ b. cond b (get m q) None) e

-- and from it on what was
pub raised_above : {X : Type 0} (m : FinMap nat_cmp X) (floor q : ℕ) → floor ≤ q → get (retain_keys m (nat_le floor)) q ≡ get m q
raised_above m floor q high =
    let e : nat_le floor q ≡ true = grind (arith, nat_tests) in
    get_retained m (nat_le floor) q ∙ ap (λ b. cond b (get m q) None) e

-- nothing is dropped where nothing is kept below the floor
pub raised_none : {X : Type 0} (m : FinMap nat_cmp X) (floor : ℕ) → ((q : ℕ) → q < floor → get m q ≡ None) → m ≡ retain_keys m (nat_le floor)
raised_none m floor none =
    same_numbers _ _ (λ q. elim (cases_lt q floor) [
      | inl low ↦ none q low ∙ sym (raised_below m floor q low)
      | inr high ↦ sym (raised_above m floor q high)
    ])

-- a floor that rises by one more drops one number more
pub raised_next : {X : Type 0} (m : FinMap nat_cmp X) (floor : ℕ) → remove (retain_keys m (nat_le floor)) floor ≡ retain_keys m (nat_le (floor + 1))
raised_next m floor =
    same_numbers _ _ (λ q. elim (same_or_other q floor) [
      | inl here ↦
          ap (get (remove (retain_keys m (nat_le floor)) floor)) here
          ∙ get_removed (retain_keys m (nat_le floor)) floor
          ∙ sym (raised_below m (floor + 1) q (omega arith))
      | inr other ↦
          get_left (retain_keys m (nat_le floor)) floor q other
          ∙ elim (cases_lt q floor) [
            | inl low ↦ raised_below m floor q low ∙ sym (raised_below m (floor + 1) q (omega arith))
            | inr high ↦ raised_above m floor q high ∙ sym (raised_above m (floor + 1) q (omega arith))
          ]
    ])

same_cell : (q : ℕ) → 32 ≤ q → q % 32 ≡ (q - 32) % 32
same_cell q high = omega arith

next_cell : (q : ℕ) → q % 32 ≡ (q + 32) % 32
next_cell q = omega arith

-- the same cells are those of a window further up, once nothing is kept below its floor
pub window_moved : {X : Type 0} (cells : List (Option X)) (old new : ℕ) → old ≤ new → new ≤ old + 32 → ((q : ℕ) → q < new → get (window_of cells old) q ≡ None) → window_of cells new ≡ window_of cells old
window_moved cells old new low high none =
    same_numbers _ _ (λ q. elim (inside_or_outside new q) [
      | inr out ↦ window_outside cells new q out ∙ sym (elim out [ inl below ↦ none q below | inr beyond ↦ window_outside cells old q (inr (omega arith)) ])
      | inl h ↦ window_inside cells new q h ∙ elim (cases_lt q (old + 32)) [
        | inl inside ↦ sym (window_inside cells old q (record { not_below = omega arith; not_beyond = inside }))
        | inr beyond ↦
            ap (λ (i : ℕ). slice_index_or cells i None) (same_cell q (omega arith))
            ∙ sym (window_inside cells old (q - 32) (record { not_below = omega arith; not_beyond = omega arith }))
            ∙ none (q - 32) (omega arith)
            ∙ sym (window_outside cells old q (inr beyond))
      ]
    ])

pub none_or_some : {X : Type 0} (o : Option X) → (o ≡ None) ⊎ ((x : X) × (o ≡ Some x))
none_or_some None = inl refl
none_or_some (Some x) = inr (x, refl)

-- without one number a map is shorter by one at the most
shorter : (b : Bool) (n m : ℕ) → m ≡ cond b (n - 1) n → n ≤ m + 1
shorter true n m e = omega arith
shorter false n m e = omega arith

few_between : {X : Type 0} (n floor : ℕ) (m : FinMap nat_cmp X) → ((q : ℕ) (x : X) → get m q ≡ Some x → (floor ≤ q) × (q < floor + n)) → len m ≤ n
few_between {X} zero floor m within =
    let none : (q : ℕ) → get m q ≡ get (empty {X = X} {R = nat_cmp}) q =
    λ q. elim (none_or_some (get m q)) [ inl no_one ↦ no_one ∙ sym (get-empty nat_cmp q) | inr some ↦ let w = within q some.0 some.1 in absurd (omega arith) ] in
    omega (arith, ap len (same_numbers m empty none), len-empty nat_cmp X)
few_between {X} (suc n) floor m within =
    let k : ℕ = floor + n in
    let rest : (q : ℕ) (x : X) → get (remove m k) q ≡ Some x → (floor ≤ q) × (q < floor + n) =
    λ q x is. elim (same_or_other q k) [
      | inl here ↦ let gone = ap (get (remove m k)) here ∙ get_removed m k in cc
      | inr other ↦ let w = within q x (sym (get_left m k q other) ∙ is) in (w.0, omega arith)
    ] in
    omega (arith, shorter (contains_key m k) (len m) (len (remove m k)) (len-remove nat_cmp_total m k), few_between n floor (remove m k) rest)

-- nor do they change for a window further down, where nothing is kept beyond it
pub window_lowered : {X : Type 0} (cells : List (Option X)) (low high : ℕ) → low ≤ high → high ≤ low + 32 → ((q : ℕ) (x : X) → get (window_of cells high) q ≡ Some x → q < low + 32)
    → window_of cells low ≡ window_of cells high
window_lowered cells low high up near within = sym (window_moved cells low high up near none)
  where
    none : (q : ℕ) → q < high → get (window_of cells low) q ≡ None
    none q below = elim (cases_lt q low) [
      | inl out ↦ window_outside cells low q (inl out)
      | inr in_low ↦
          let cell : get (window_of cells low) q ≡ get (window_of cells high) (q + 32) =
          window_inside cells low q (record { not_below = in_low; not_beyond = omega arith })
          ∙ ap (λ (i : ℕ). slice_index_or cells i None) (next_cell q)
          ∙ sym (window_inside cells high (q + 32) (record { not_below = omega arith; not_beyond = omega arith })) in
          elim (none_or_some (get (window_of cells high) (q + 32))) [
            | inl no_one ↦ cell ∙ no_one
            | inr some ↦ let near_low = within (q + 32) some.0 some.1 in absurd (omega arith)
          ]
    ]

-- in a window there are 32 numbers at the most
pub few_in_window : {X : Type 0} (floor : ℕ) (m : FinMap nat_cmp X) → ((q : ℕ) (x : X) → get m q ≡ Some x → IsInWindow floor q) → len m ≤ 32
few_in_window floor m within = few_between 32 floor m (λ q x is. let h = within q x is in (h.not_below, h.not_beyond))

-- the session that cells with a floor stand for
abbrev pub session_of : List (Option Kept) → ℕ → Session
session_of cells floor = record { floor = floor; kept = window_of cells floor }

module _ (cells : List (Option Kept)) (floor : ℕ) (s : Session) (is : session_of cells floor ≡ s) where
  -- what is kept is kept for a number of the window
  pub kept_in_window : (n : ℕ) (k : Kept) → get s.kept n ≡ Some k → IsInWindow s.floor n
  kept_in_window = subst (λ (x : Session). (n : ℕ) (k : Kept) → get x.kept n ≡ Some k → IsInWindow x.floor n) is (window_kept cells floor)

  pub kept_few : len s.kept ≤ 32
  kept_few = few_in_window s.floor s.kept kept_in_window

  -- what is kept for a number of the window is what its cell has
  pub kept_inside : (n : ℕ) → IsInWindow s.floor n → get s.kept n ≡ cell_of cells n
  kept_inside = subst (λ (x : Session). (n : ℕ) → IsInWindow x.floor n → get x.kept n ≡ cell_of cells n) is (window_inside cells floor)

  -- and nothing is for another
  pub kept_outside : (n : ℕ) → ¬ (IsInWindow s.floor n) → get s.kept n ≡ None
  kept_outside = subst (λ (x : Session). (n : ℕ) → ¬ (IsInWindow x.floor n) → get x.kept n ≡ None) is (window_no cells floor)

  -- a write to the cell of a number of the window
  pub kept_insert : (n : ℕ) (k : Kept) → length cells ≡ 32 → IsInWindow s.floor n → session_of (slice_set cells (n % 32) (Some k)) floor ≡ keeping s n k
  kept_insert n k whole =
      subst (λ (x : Session). IsInWindow x.floor n → session_of (slice_set cells (n % 32) (Some k)) floor ≡ keeping x n k) is
      (λ h. ap (λ (m : FinMap nat_cmp Kept). let t : Session = record { floor = floor; kept = m } in t) (window_insert cells floor n k whole h))

  pub kept_remove : (n : ℕ) → length cells ≡ 32 → IsInWindow s.floor n → session_of (slice_set cells (n % 32) None) floor ≡ forgetting s n
  kept_remove n whole =
      subst (λ (x : Session). IsInWindow x.floor n → session_of (slice_set cells (n % 32) None) floor ≡ forgetting x n) is
      (λ h. ap (λ (m : FinMap nat_cmp Kept). let t : Session = record { floor = floor; kept = m } in t) (window_remove cells floor n whole h))

  -- nothing is kept below the floor, so to raise it to where it is drops nothing
  pub kept_from_floor : s.kept ≡ retain_keys s.kept (nat_le floor)
  kept_from_floor =
      subst (λ (x : Session). x.kept ≡ retain_keys x.kept (nat_le floor)) is
      (raised_none (window_of cells floor) floor (λ q low. window_outside cells floor q (inl low)))

  -- once all below the new floor is dropped, the cells are those of the raised session
  pub kept_raised : (old : Session) (new : ℕ) → s.floor ≤ new → new ≤ s.floor + 32 → s.kept ≡ retain_keys old.kept (nat_le new) → session_of cells new ≡ raised old new
  kept_raised old new low high dropped =
      let here : floor ≡ s.floor = ap (λ (x : Session). x.floor) is in
      let left : window_of cells floor ≡ retain_keys old.kept (nat_le new) = ap (λ (x : Session). x.kept) is ∙ dropped in
      let moved : window_of cells new ≡ window_of cells floor =
      window_moved cells floor new (omega arith) (omega arith) (λ q below. ap (λ (m : FinMap nat_cmp Kept). get m q) left ∙ raised_below old.kept new q below) in
      ap (λ (m : FinMap nat_cmp Kept). let t : Session = record { floor = new; kept = m } in t) (moved ∙ left)

  -- once nothing is kept beyond the window of a lower floor, the cells are those of the lowered session
  pub kept_lowered : (new : ℕ) → MayLower s new → window_of cells new ≡ s.kept
  kept_lowered = subst (λ (x : Session). (new : ℕ) → MayLower x new → window_of cells new ≡ x.kept) is (λ new h. window_lowered cells new floor h.no_higher h.within_window h.in_window)

-- what is kept above a floor was kept
pub kept_above : {X : Type 0} (m : FinMap nat_cmp X) (floor q : ℕ) (x : X) → get (retain_keys m (nat_le floor)) q ≡ Some x → get m q ≡ Some x
kept_above m floor q x is =
    elim (cases_lt q floor) [
      | inl low ↦ let none = raised_below m floor q low in cc
      | inr high ↦ sym (raised_above m floor q high) ∙ is
    ]

-- a session that was raised may be lowered again
pub lowers_again : (old mid : Session) (floor : ℕ) → MayRise old.floor floor → 1 ≤ mid.floor → mid.floor ≡ old.floor → mid.kept ≡ retain_keys old.kept (nat_le floor)
    → ((n : ℕ) (k : Kept) → get mid.kept n ≡ Some k → IsInWindow mid.floor n) → MayLower (raised old floor) old.floor
lowers_again old mid floor rise least same dropped within = record {
  least = omega (arith, least, same);
  no_higher = rise.no_lower;
  within_window = rise.within_window;
  in_window = λ q k is. let w = within q k (ap (λ (m : FinMap nat_cmp Kept). get m q) dropped ∙ is) in omega (arith, w.not_beyond, same);
}

-- above its window a session keeps nothing
pub none_above : (s : Session) → ((n : ℕ) (k : Kept) → get s.kept n ≡ Some k → IsInWindow s.floor n) → retain_keys s.kept (nat_le (s.floor + 32)) ≡ empty
none_above s within =
    same_numbers _ _ (λ q. elim (none_or_some (get (retain_keys s.kept (nat_le (s.floor + 32))) q)) [
      | inl no_one ↦ no_one ∙ sym (get-empty nat_cmp q)
      | inr some ↦ elim (cases_lt q (s.floor + 32)) [
        | inl low ↦ raised_below s.kept (s.floor + 32) q low ∙ sym (get-empty nat_cmp q)
        | inr high ↦ let w = within q some.0 (kept_above s.kept (s.floor + 32) q some.0 some.1) in absurd (omega (arith, w.not_beyond))
      ]
    ])

-- a number of the window is usable where a look-up finds nothing
pub usable_when : (s : Session) (number : ℕ) (none : Bool) (here : Option Kept) → IsInWindow s.floor number → get s.kept number ≡ here → is_some here ≡ not none → (IsTrue none) ↔ (IsUsable s number)
usable_when s number true None within is found = (λ _. record { in_window = within; not_kept = is }, λ _. search rules)
usable_when s number false None within is found = absurd (cc)
usable_when s number true (Some k) within is found = absurd (cc)
usable_when s number false (Some k) within is found = (λ t. absurd (search rules), λ u. let none = u.not_kept in absurd (cc))
