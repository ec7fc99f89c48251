-- A legal entry keeps the state within the limits.
use Rattle.std.proofs.Common.{◌≡◌, ℕ, ◌+◌, ◌<◌, ◌≤◌, inl, inr, Option, Some, None, Bool, true, false, cond, refl, sym, ap, subst, ◌∙◌, arith}
use Rattle.std.specs.Prelude.{nat_le, is_some}
use Rattle.std.specs.Option.{option_map}
use Rattle.std.specs.Ordering.{nat_cmp}
use Rattle.std.specs.Cmp.{nat_cmp_total}
use Rattle.std.specs.FinMap.{FinMap, get, insert, remove, retain_keys, len, empty, get-empty, len-insert, len-remove}
use Rattle.std.proofs.lemmas.Bool.Decides.{nat_tests}
use Rattle.fe_state.proofs.Maps.{get_inserted, get_beside, get_removed, get_left, get_retained, same_or_other}
use Rattle.fe_state.proofs.Limits.{performed_kept, performed_next}
use Rattle.fe_state.specs.Directory.{Directory, IsDirectory}
use Rattle.fe_state.specs.Sessions.{MayRise, Session, IsInWindow, raised, keeping, put_session, opened, first_session, IsUsable, MayAttach, sessions_after}
use Rattle.fe_state.specs.State.{ServerState, IsWithinLimits, IsSession, IsLegal, after, directory_of, directory_after}
use Rattle.fe_state.specs.declared.kept.Kept.{Kept}
use Rattle.fe_state.specs.declared.entry.Entry.{Entry}
use Rattle.fe_state.specs.declared.entry.Entry.TheVariants.{Attached, Closed, Settled, Finished}

-- at a later place a session is within the limits as before
later : (place : ℕ) (x : Session) → IsSession place x → IsSession (place + 1) x
later place x h = record {
  floor = h.floor;
  most = h.most;
  kept = λ number k e. let old = h.kept number k e in (old.0, omega (arith, old.1));
}

-- a session that begins
begun : (place : ℕ) → IsSession (place + 1) first_session
begun place = record {
  floor = omega arith;
  most = omega arith;
  kept = λ number k e. let none : get (empty {X = Kept} {R = nat_cmp}) number ≡ None = get-empty nat_cmp number in cc;
}

-- a session whose floor rises
risen : (place : ℕ) (x : Session) (floor : ℕ) → IsSession place x → MayRise x.floor floor → IsSession (place + 1) (raised x floor)
risen place x floor h up = record {
  floor = omega (arith, h.floor, up.no_lower);
  most = up.within_limit;
  kept = λ number k e. by (nat_le floor number) number refl k e;
}
  where
    by : (b : Bool) (number : ℕ) → nat_le floor number ≡ b → (k : Kept) → get (retain_keys x.kept (nat_le floor)) number ≡ Some k → IsInWindow floor number × (k.place < place + 1)
    by true number is k e =
        let was : get x.kept number ≡ Some k = sym (get_retained x.kept (nat_le floor) number ∙ ap (λ b. cond b (get x.kept number) None) is) ∙ e in
        let old = h.kept number k was in (
          record {
            not_below = grind (arith, nat_tests);
            not_beyond = omega (arith, old.0.not_beyond, up.no_lower);
          },
          omega (arith, old.1),
        )
    by false number is k e =
        let gone : get (retain_keys x.kept (nat_le floor)) number ≡ None = get_retained x.kept (nat_le floor) number ∙ ap (λ b. cond b (get x.kept number) None) is in cc

-- a session that keeps an answer of an earlier place
pub keeping_within : (place : ℕ) (x : Session) (number : ℕ) (k : Kept) → IsSession place x → IsInWindow x.floor number → k.place < place → IsSession place (keeping x number k)
keeping_within place x number k h window earlier = record {
  floor = h.floor;
  most = h.most;
  kept = λ q j e. elim (same_or_other q number) [
    | inl is ↦ let new : get (insert x.kept number k) q ≡ Some k = rw (is, get_inserted) refl in
        let some : Some j ≡ Some k = sym e ∙ new in
        let same : j ≡ k = cc in
        (rw is window, rw same earlier)
    | inr ne ↦ h.kept q j (sym (get_beside x.kept number k q ne) ∙ e)
  ];
}

-- what holds of each session, where one is put at a number
pub insert_each : (P : Session → Type 0) (sessions : FinMap nat_cmp Session) (other : ℕ) (y : Session) → ((q : ℕ) (x : Session) → get sessions q ≡ Some x → P x) → P y → (q : ℕ) (x : Session) → get (insert sessions other y) q ≡ Some x → P x
insert_each P sessions other y each new q x e =
    elim (same_or_other q other) [
      | inl at ↦ let now : get (insert sessions other y) q ≡ Some y = rw (at, get_inserted) refl in
          let some : Some x ≡ Some y = sym e ∙ now in
          let same : x ≡ y = cc in
          subst P (sym same) new
      | inr ne ↦ each q x (sym (get_beside sessions other y q ne) ∙ e)
    ]

put_each : (P : Session → Type 0) (sessions : FinMap nat_cmp Session) (other : ℕ) (f : Session → Session) (here : Option Session) → get sessions other ≡ here → ((q : ℕ) (x : Session) → get sessions q ≡ Some x → P x) → ((x : Session) → here ≡ Some x → P (f x)) → (q : ℕ) (x : Session) → get (put_session sessions other (option_map f here)) q ≡ Some x → P x
put_each P sessions other f None is each new q x e = each q x e
put_each P sessions other f (Some y) is each new q x e = insert_each P sessions other (f y) each (new y refl) q x e

put_few : (sessions : FinMap nat_cmp Session) (other : ℕ) (f : Session → Session) (here : Option Session) → get sessions other ≡ here → len sessions ≤ 64 → len (put_session sessions other (option_map f here)) ≤ 64
put_few sessions other f None is few = few
put_few sessions other f (Some y) is few = rw (len-insert nat_cmp_total, ap is_some is) few

-- the sessions of a state, within the limits
record AreSessions (place : ℕ) (sessions : FinMap nat_cmp Session) : Type 0 where
  few : len sessions ≤ 64
  each : (session : ℕ) (x : Session) → get sessions session ≡ Some x → IsSession place x

opened_kept : (place : ℕ) (sessions : FinMap nat_cmp Session) (session floor : ℕ) → AreSessions place sessions → MayAttach sessions floor (get sessions session) → AreSessions (place + 1) (opened sessions session)
opened_kept place sessions session floor h may = by (get sessions session) refl may
  where
    by : (here : Option Session) → get sessions session ≡ here → MayAttach sessions floor here → AreSessions (place + 1) (cond (is_some here) sessions (insert sessions session first_session))
    by (Some y) e m = record { few = h.few; each = λ q x p. later place x (h.each q x p) }
    by None e m = record {
      few = rw (len-insert nat_cmp_total, ap is_some e) (omega (arith, m.1));
      each = λ q x p. elim (same_or_other q session) [
        | inl at ↦ let now : get (insert sessions session first_session) q ≡ Some first_session = rw (at, get_inserted) refl in
            let some : Some x ≡ Some first_session = sym p ∙ now in
            let same : x ≡ first_session = cc in
            rw same (begun place)
        | inr ne ↦ later place x (h.each q x (sym (get_beside sessions session first_session q ne) ∙ p))
      ];
    }

sessions_kept : (s : ServerState) (e : Entry) → AreSessions s.place s.sessions → IsLegal s e → AreSessions (s.place + 1) (sessions_after s.sessions s.place e)
sessions_kept s (Attached session floor) h legal = opened_kept s.place s.sessions session floor h legal.allowed
sessions_kept s (Closed session) h legal = record {
  few = grind (arith, len-remove nat_cmp_total s.sessions session, h.few);
  each = λ q x p. elim (same_or_other q session) [
    | inl at ↦ let gone : get (remove s.sessions session) q ≡ None = rw (at, get_removed) refl in cc
    | inr ne ↦ later s.place x (h.each q x (sym (get_left s.sessions session q ne) ∙ p))
  ];
}
sessions_kept s (Settled session floor) h legal = record {
  few = put_few s.sessions session _ (get s.sessions session) refl h.few;
  each = put_each (IsSession (s.place + 1)) s.sessions session _ (get s.sessions session) refl (λ q x p. later s.place x (h.each q x p)) (λ x p. risen s.place x floor (h.each session x p) (rises x p));
}
  where
    rises : (x : Session) → get s.sessions session ≡ Some x → MayRise x.floor floor
    rises x p = rw p at legal.allowed
sessions_kept s (Finished session number request answer) h legal = record {
  few = put_few s.sessions session _ (get s.sessions session) refl h.few;
  each = put_each (IsSession (s.place + 1)) s.sessions session _ (get s.sessions session) refl (λ q x p. later s.place x (h.each q x p)) (λ x p. keeping_within (s.place + 1) x number _ (later s.place x (h.each session x p)) (usable x p).in_window (omega arith));
}
  where
    usable : (x : Session) → get s.sessions session ≡ Some x → IsUsable x number
    usable x p = rw p at legal.allowed

directory_kept : (d : Directory) (e : Entry) → IsDirectory d → IsDirectory (directory_after d e)
directory_kept d (Attached session floor) h = h
directory_kept d (Closed session) h = h
directory_kept d (Settled session floor) h = h
directory_kept d (Finished session number request answer) h = performed_kept d request h

directory_next : (d : Directory) (e : Entry) → (directory_after d e).next_id ≤ d.next_id + 1
directory_next d (Attached session floor) = omega arith
directory_next d (Closed session) = omega arith
directory_next d (Settled session floor) = omega arith
directory_next d (Finished session number request answer) = performed_next d request

pub limits_kept : (s : ServerState) (e : Entry) → IsWithinLimits s → IsLegal s e → IsWithinLimits (after s e)
limits_kept s e h legal =
    let sessions = sessions_kept s e (record { few = h.few_sessions; each = h.each }) legal in
    record {
      place = omega (arith, legal.has_place);
      directory = directory_kept (directory_of s) e h.directory;
      next_id = omega (arith, directory_next (directory_of s) e, h.next_id);
      few_sessions = sessions.few;
      each = sessions.each;
    }
