-- A number of a session is spent once it was finished: it is kept, or the floor has passed it.
use Rattle.std.proofs.Common.{◌≡◌, ◌≢◌, ℕ, ◌<◌, ◌≤◌, ◌⊎◌, inl, inr, Option, Some, None, IsSome, List, [], ◌∷◌, ◌++◌, refl, sym, ap, subst, arith, cond, Bool, true, false, Contains, append_assoc}
use Rattle.std.specs.Prelude.{IsSomeAnd, nat_le, is_some}
use Rattle.std.specs.Option.{option_map}
use Rattle.std.specs.List.{flat_map}
use Rattle.std.proofs.lemmas.List.Elements.{Contains-append_right}
use Rattle.std.specs.Ordering.{nat_cmp}
use Rattle.std.specs.FinMap.{FinMap, get, insert, contains_key}
use Rattle.fe_state.proofs.Maps.{get_inserted, get_beside, get_left, get_retained, same_or_other}
use Rattle.std.proofs.lemmas.Bool.Decides.{nat_tests}
use Rattle.fe_state.specs.Sessions.{MayRise, Session, raised, keeping, put_session, opened, first_session, IsUsable}
use Rattle.fe_state.specs.State.{ServerState, IsLegal, after, after_all}
use Rattle.fe_state.specs.History.{AreLegal, IsHistory}
use Rattle.fe_state.specs.declared.kept.Kept.{Kept}
use Rattle.fe_state.proofs.Histories.{legal-append}
use Rattle.fe_state.specs.declared.answer.Answer.{Answer}
use Rattle.fe_state.specs.declared.request.Request.{Request}
use Rattle.fe_state.specs.declared.entry.Entry.{Entry}
use Rattle.fe_state.specs.declared.entry.Entry.TheVariants.{Attached, Closed, Settled, Finished}

abbrev pub IsSpentIn : Option Session → ℕ → Type 0
IsSpentIn here number = IsSomeAnd here (λ x. (number < x.floor) ⊎ IsSome (get x.kept number))

abbrev pub IsSpent : ServerState → ℕ → ℕ → Type 0
IsSpent s session number = IsSpentIn (get s.sessions session) number

-- what is kept in a session, other than the number
kept_more : (x : Session) (n m : ℕ) (k : Kept) → IsSpentIn (Some x) n → IsSpentIn (Some (keeping x m k)) n
kept_more x n m k (inl h) = inl h
kept_more x n m k (inr h) =
    elim (same_or_other n m) [
      | inl e ↦ inr (rw (e, get_inserted) refl)
      | inr ne ↦ inr (rw (get_beside x.kept m k n ne) h)
    ]

floor_more : (x : Session) (n floor : ℕ) → x.floor ≤ floor → IsSpentIn (Some x) n → IsSpentIn (Some (raised x floor)) n
floor_more x n floor up (inl h) = inl (omega arith)
floor_more x n floor up (inr h) = by (nat_le floor n) refl
  where
    by : (b : Bool) → nat_le floor n ≡ b → IsSpentIn (Some (raised x floor)) n
    by true e = inr (rw (get_retained x.kept (nat_le floor) n, e) h)
    by false e = inl (grind (arith, nat_tests))

-- a change of a session that is there
put_spent : (sessions : FinMap nat_cmp Session) (other session n : ℕ) (f : Session → Session) → ((x : Session) → get sessions other ≡ Some x → IsSpentIn (Some x) n → IsSpentIn (Some (f x)) n) → IsSpentIn (get sessions session) n → IsSpentIn (get (put_session sessions other (option_map f (get sessions other))) session) n
put_spent sessions other session n f keeps h =
    elim (same_or_other session other) [
      | inl e ↦ rw e (same (get sessions other) refl (subst (λ k. IsSpentIn (get sessions k) n) e h))
      | inr ne ↦ beside (get sessions other) ne
    ]
  where
    same : (here : Option Session) → get sessions other ≡ here → IsSpentIn (get sessions other) n → IsSpentIn (get (put_session sessions other (option_map f here)) other) n
    same None e k = absurd (rw e at k)
    same (Some x) e k = rw get_inserted (keeps x e (rw e at k))

    beside : (here : Option Session) → session ≢ other → IsSpentIn (get (put_session sessions other (option_map f here)) session) n
    beside None ne = h
    beside (Some x) ne = rw (get_beside sessions other (f x) session ne) h

-- a session that is there stays as it is when a session is opened
open_spent : (sessions : FinMap nat_cmp Session) (other session n : ℕ) → IsSpentIn (get sessions session) n → IsSpentIn (get (opened sessions other) session) n
open_spent sessions other session n h = by (contains_key sessions other) refl
  where
    by : (b : Bool) → contains_key sessions other ≡ b → IsSpentIn (get (cond b sessions (insert sessions other first_session)) session) n
    by true e = h
    by false e =
        elim (same_or_other session other) [
          | inl is ↦ absurd (none (get sessions other) e (subst (λ k. IsSpentIn (get sessions k) n) is h))
          | inr ne ↦ rw (get_beside sessions other first_session session ne) h
        ]
      where
        none : (here : Option Session) → is_some here ≡ false → IsSpentIn here n → ⊥
        none None e k = k
        none (Some x) e k = cc

-- what an entry leaves of a session in which a number is spent, unless it closes the session
spent_after : (s : ServerState) (e : Entry) (session n : ℕ) → IsSpent s session n → IsLegal s e → (e ≡ Closed session) ⊎ IsSpent (after s e) session n
spent_after s (Attached other floor) session n h legal = inr (open_spent s.sessions other session n h)
spent_after s (Closed other) session n h legal =
    elim (same_or_other session other) [
      | inl e ↦ inl (ap Closed (sym e))
      | inr ne ↦ inr (rw (get_left s.sessions other session ne) h)
    ]
spent_after s (Settled other floor) session n h legal =
    inr (put_spent s.sessions other session n _ (λ x e k. floor_more x n floor (rises x e).no_lower k) h)
  where
    rises : (x : Session) → get s.sessions other ≡ Some x → MayRise x.floor floor
    rises x e = rw e at legal.allowed
spent_after s (Finished other m request answer) session n h legal =
    inr (put_spent s.sessions other session n _ (λ x e. kept_more x n m _) h)

-- a number that was finished is spent
finished_spent : (s : ServerState) (session n : ℕ) (request : Request) (answer : Answer) → IsLegal s (Finished session n request answer) → IsSpent (after s (Finished session n request answer)) session n
finished_spent s session n request answer legal = by (get s.sessions session) refl legal.allowed
  where
    by : (here : Option Session) → get s.sessions session ≡ here → IsSomeAnd here (λ x. IsUsable x n) → IsSpentIn (get (put_session s.sessions session (option_map (λ x. keeping x n (record { request = request; answer = answer; place = s.place })) here)) session) n
    by None e k = absurd k
    by (Some x) e k = rw get_inserted (inr (rw get_inserted refl))

-- and can't be finished
spent_not_finished : (s : ServerState) (session n : ℕ) (request : Request) (answer : Answer) → IsSpent s session n → IsLegal s (Finished session n request answer) → ⊥
spent_not_finished s session n request answer h legal = by (get s.sessions session) h legal.allowed
  where
    none : (kept : Option Kept) → IsSome kept → kept ≡ None → ⊥
    none kept is e = cc

    by : (here : Option Session) → IsSpentIn here n → IsSomeAnd here (λ x. IsUsable x n) → ⊥
    by None k u = k
    by (Some x) (inl k) u = omega (arith, u.in_window.not_below)
    by (Some x) (inr k) u = none _ k u.not_kept

legal-split : (s : ServerState) (xs ys : List Entry) → AreLegal s (xs ++ ys) → AreLegal s xs × AreLegal (after_all s xs) ys
legal-split s [] ys h = (tt, h)
legal-split s (x ∷ xs) ys h = let r = legal-split (after s x) xs ys h.1 in ((h.0, r.0), r.1)

-- the entries of a history are legal one after another
pub legal-flat : (s : ServerState) (groups : List (List Entry)) → IsHistory s groups → AreLegal s (flat_map (λ group. group) groups)
legal-flat s [] h = tt
legal-flat s (g ∷ gs) h = legal-append s g _ h.1 (legal-flat (after_all s g) gs h.2)

at_tail : (e : Entry) (es : List Entry) (x : Entry) → Contains es x → Contains (e ∷ es) x
at_tail e es x c = Contains-append_right (e ∷ []) es x c

closed_between : (s : ServerState) (between behind : List Entry) (session n : ℕ) (request : Request) (answer : Answer) → IsSpent s session n → AreLegal s (between ++ Finished session n request answer ∷ behind) → Contains between (Closed session)
closed_between s [] behind session n request answer h legal = absurd (spent_not_finished s session n request answer h legal.0)
closed_between s (e ∷ es) behind session n request answer h legal =
    elim (spent_after s e session n h legal.0) [
      | inl is ↦ (0, omega arith, is)
      | inr more ↦ at_tail e es _ (closed_between (after s e) es behind session n request answer more legal.1)
    ]

pub finishes_once : (s : ServerState) (before between behind : List Entry) (session n : ℕ) (first second : Request) (one other : Answer) → AreLegal s ((before ++ Finished session n first one ∷ between) ++ Finished session n second other ∷ behind) → Contains between (Closed session)
finishes_once s before between behind session n first second one other legal =
    let after_first = legal-split s before (Finished session n first one ∷ (between ++ Finished session n second other ∷ behind)) (rw append_assoc at legal) in
    closed_between _ between behind session n second other (finished_spent _ session n first one after_first.1.0) after_first.1.1
