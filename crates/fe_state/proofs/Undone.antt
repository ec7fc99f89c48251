-- A session that is put back is as it was.
use Rattle.std.proofs.Common.{◌≡◌, ℕ, ◌+◌, ◌-◌, ◌<◌, ◌≤◌, Option, Some, None, false, List, inl, inr, refl, sym, ap, ◌∙◌, arith}
use Rattle.std.specs.Prelude.{IsSomeAnd, is_some}
use Rattle.std.specs.Option.{option_map, option_copied}
use Rattle.std.specs.Borrow.{Bor}
use Rattle.std.specs.Ordering.{nat_cmp}
use Rattle.std.specs.Cmp.{nat_cmp_total}
use Rattle.std.specs.FinMap.{FinMap, get, insert, remove, len, same_map, nat_cmp-IsAntisymmetric, len-remove, len-insert}
use Rattle.fe_state.proofs.Maps.{get_inserted, get_beside, get_removed, get_left, same_or_other}
use Rattle.fe_state.specs.Sessions.{Session, forgetting, keeping, put_session}
use Rattle.fe_state.specs.UndoLog.{put_back}
use Rattle.fe_state.specs.declared.dropped.Dropped.{Dropped}
use Rattle.fe_state.specs.declared.kept.Kept.{Kept}
use Rattle.fe_state.specs.declared.undo.SessionChange.TheVariants as change

module _ {X : Type 0} (m : FinMap nat_cmp X) (k : ℕ) where
  -- what is put at a new key and removed again leaves no trace
  pub remove-insert : (v : X) → get m k ≡ None → remove (insert m k v) k ≡ m
  remove-insert v none = same_map nat_cmp_total nat_cmp-IsAntisymmetric _ _ (λ q.
      elim (same_or_other q k) [
        | inl e ↦ rw (e, get_removed (insert m k v) k) (sym none)
        | inr ne ↦ get_left (insert m k v) k q ne ∙ get_beside m k v q ne
      ])

  -- nor does what is removed and put at its key again
  pub insert-remove : (v : X) → get m k ≡ Some v → insert (remove m k) k v ≡ m
  insert-remove v is = same_map nat_cmp_total nat_cmp-IsAntisymmetric _ _ (λ q.
      elim (same_or_other q k) [
        | inl e ↦ rw (e, get_inserted (remove m k) k v) (sym is)
        | inr ne ↦ get_beside (remove m k) k v q ne ∙ get_left m k q ne
      ])

  -- nor does what is replaced for a while
  pub insert-insert : (v w : X) → get m k ≡ Some v → insert (insert m k w) k v ≡ m
  insert-insert v w is = same_map nat_cmp_total nat_cmp-IsAntisymmetric _ _ (λ q.
      elim (same_or_other q k) [
        | inl e ↦ rw (e, get_inserted (insert m k w) k v) (sym is)
        | inr ne ↦ get_beside (insert m k w) k v q ne ∙ get_beside m k w q ne
      ])

  -- a removal makes room
  pub len_removed : (v : X) (n : ℕ) → get m k ≡ Some v → len m ≤ n → len (remove m k) < n
  len_removed v n is few =
      let shorter : len (remove m k) ≡ len m - 1 = rw (len-remove nat_cmp_total, ap is_some is) refl in
      let some : 1 ≤ len m = one is in
      omega arith
    where
      one : get m k ≡ Some v → 1 ≤ len m
      one e =
          let back : len (insert (remove m k) k v) ≡ len m = ap len (insert-remove v e) in
          let more : len (insert (remove m k) k v) ≡ len (remove m k) + 1 = rw (len-insert nat_cmp_total, ap is_some (get_removed m k)) refl in
          omega arith

-- what a look-up that found nothing found
pub none_of : {X : Type 0} (found : Option (Bor X)) (here : Option X) → option_copied found ≡ here → is_some found ≡ false → here ≡ None
none_of None here e h = sym e
none_of (Some x) here e h = cc

-- what holds of the value that is there, where one is known to be
pub at_some : {X : Type 0} (P : X → Type 0) (here : Option X) (x : X) → IsSomeAnd here P → here ≡ Some x → P x
at_some P here x h e = rw e at h

-- a session that keeps an answer and forgets it is as it was
forgotten : (x : Session) (n : ℕ) (k : Kept) → get x.kept n ≡ None → forgetting (keeping x n k) n ≡ x
forgotten x n k none = λ i. record { floor = x.floor; kept = remove-insert x.kept n k none i }

-- what the sessions are once an answer that was kept is forgotten
pub put_back-keeping : (m : FinMap nat_cmp Session) (dropped : List Dropped) (s n : ℕ) (x : Session) (k : Kept) → get m s ≡ Some x → get x.kept n ≡ None → put_back (change.Kept n) dropped (insert m s (keeping x n k)) s ≡ m
put_back-keeping m dropped s n x k is none =
    ap (λ here. put_session (insert m s (keeping x n k)) s (option_map (λ z. forgetting z n) here)) (get_inserted m s (keeping x n k))
    ∙ ap (insert (insert m s (keeping x n k)) s) (forgotten x n k none)
    ∙ insert-insert m s x (keeping x n k) is
