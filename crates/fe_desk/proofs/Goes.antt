-- Calls that may store batches go one after the other.
use Rattle.std.proofs.Common.{◌≡◌, ℕ, ◌≤◌, false, List, Result, Ok, Err, refl, sym, ap, subst, ◌∙◌, arith}
use Rattle.std.specs.Prelude.{eqb, Bool, true, Option, None, Some, nat_eq, ⊤, IsErrAnd, MatchResult}
use Rattle.std.specs.Option.{option_eq, option_map_or}
use Rattle.std.proofs.lemmas.Bool.Decides.{nat_tests}
use Rattle.fe_memory.specs.Memory.{out_of_memory}
use Rattle.fe_disk.specs.Disk.{Rises}
use Rattle.fe_disk.specs.declared.disk.Disk.{Ghosts}
use Rattle.fe_keeper.specs.declared.fault.Fault.{Fault}
use Rattle.fe_keeper.specs.declared.fault.Fault.TheVariants.{Device, Failed, NoMemory, Mismatch, Damaged, Unformatted}
use Rattle.fe_desk.specs.declared.fault.DeskFault.{DeskFault}
use Rattle.fe_desk.specs.declared.fault.DeskFault.TheVariants as desk
use Rattle.fe_desk.specs.DeskRunState.{DeskRunState}
use Rattle.fe_desk.specs.Crash.{DeskState, disk_of}
use Rattle.fe_desk.specs.Ends.{Tears, HasCut}
use Rattle.fe_desk.specs.within.Desk.{HasStore, Stays, IsReady}
use Rattle.fe_desk.specs.within.Goes.{Stores, Faults, Goes, GoesPiece, PieceFaults, IsUnstored, IsShort, Is}
use Rattle.fe_desk.specs.Messages.{desk_fault_of}
use Rattle.fe_desk.proofs.Advancing.{store_itself, advances_as, advances_itself, advances_both, advances_then, advances_after, fine_both, fine_as}
use Rattle.fe_desk.proofs.Growing.{stores_none, stores_both}

-- what a stop since now leaves, a stop now may leave; and what a stop now may leave, a stop since before leaves
abbrev pub CountsNow : {D : Type 0} → Ghosts D → Type 0
CountsNow {D} k = (disk : D) (t : ℕ) (image : List ℕ) → k.honest disk → t ≤ k.moment disk → k.may_leave disk image → k.left_since disk t image

abbrev pub OnlyNow : {D : Type 0} → Ghosts D → Type 0
OnlyNow {D} k = (disk : D) (image : List ℕ) → k.honest disk → k.left_since disk (k.moment disk) image → k.may_leave disk image

module _ {D : Type 0} (k : Ghosts D) where
  stores_still : (a b : DeskState D) → a.keeper.store.has_failed ≡ false → HasStore a b → Stores k a b
  stores_still a b works same = record { fine = fine_as k a b works same; grows = stores_none a b same }

  both : (a b c : DeskState D) → Stores k a b → Stores k b c → Stores k a c
  both a b c ab bc = record { fine = fine_both k a b c ab.fine bc.fine; grows = stores_both a b c ab.grows bc.grows }

  -- a fault after a call that was done
  faults_then : (Short : DeskState D → Type 0) (Until : DeskRunState → Type 0) (a b c : DeskState D) (fault : Fault) → Stores k a b → Faults k Short Until b c fault → Faults k Short Until a c fault
  faults_then Short Until a b c Device ab bc = record {
    last = bc.last;
    until = bc.until;
    tears = bc.tears;
    failed = record { before = ab.fine.before; failed = bc.failed.failed; rises = subst (λ (n : ℕ). Rises n (k.failures (disk_of c))) ab.fine.still bc.failed.rises };
  }
  faults_then Short Until a b c Failed ab bc = bc
  faults_then Short Until a b c (NoMemory error) ab bc = (both a b c ab bc.0, bc.1)
  faults_then Short Until a b c (Mismatch place) ab bc = bc
  faults_then Short Until a b c (Damaged offset) ab bc = bc
  faults_then Short Until a b c Unformatted ab bc = bc

  ends_then : (Done : DeskRunState → Type 0) (Short : DeskState D → Type 0) (Until : DeskRunState → Type 0) (r : Result (Unit {0}) Fault) (a b c : DeskState D) → Stores k a b
      → MatchResult r (λ _. Stores k b c × Done c.run_state) (Faults k Short Until b c) → MatchResult r (λ _. Stores k a c × Done c.run_state) (Faults k Short Until a c)
  ends_then Done Short Until (Ok x) a b c ab bc = (both a b c ab bc.0, bc.1)
  ends_then Done Short Until (Err fault) a b c ab bc = faults_then Short Until a b c fault ab bc

  faults_weaker : (Short Less : DeskState D → Type 0) (Until Before : DeskRunState → Type 0) (a b : DeskState D) (fault : Fault) → (Short b → Less b) → ((last : DeskRunState) → Until last → Tears last b → Before last)
      → Faults k Short Until a b fault → Faults k Less Before a b fault
  faults_weaker Short Less Until Before a b Device short until h = record { last = h.last; until = until h.last h.until h.tears; tears = h.tears; failed = h.failed }
  faults_weaker Short Less Until Before a b Failed short until h = h
  faults_weaker Short Less Until Before a b (NoMemory error) short until h = (h.0, short h.1)
  faults_weaker Short Less Until Before a b (Mismatch place) short until h = h
  faults_weaker Short Less Until Before a b (Damaged offset) short until h = h
  faults_weaker Short Less Until Before a b Unformatted short until h = h

  -- the fault that is given where a piece is read
  faults_given : (Short : DeskState D → Type 0) (Less : Bool → DeskRunState → Type 0) (Until Before : DeskRunState → Type 0) (a b : DeskState D) (fault : Fault) (fed : Bool) → (Short b → Less fed b.run_state) → ((last : DeskRunState) → Until last → Before last)
      → Faults k Short Until a b fault → PieceFaults k Less Before a b (desk_fault_of fault fed)
  faults_given Short Less Until Before a b Device fed short until h = (refl, record { last = h.last; until = until h.last h.until; tears = h.tears; failed = h.failed })
  faults_given Short Less Until Before a b Failed fed short until h = absurd h
  faults_given Short Less Until Before a b (NoMemory error) fed short until h = (h.0, short h.1)
  faults_given Short Less Until Before a b (Mismatch place) fed short until h = absurd h
  faults_given Short Less Until Before a b (Damaged offset) fed short until h = absurd h
  faults_given Short Less Until Before a b Unformatted fed short until h = absurd h

-- ---- where memory was short

short_weaker : {D : Type 0} {R Until : DeskRunState → Type 0} {b : DeskState D} → ((last : DeskRunState) → R last → Until last) → IsShort R b → IsShort Until b
short_weaker {D} {R} {Until} {b} until h = record { until = until b.run_state h.until; at_hand = h.at_hand }

-- nothing was done
pub unstored_short : {D : Type 0} {a b : DeskState D} → IsUnstored a b → IsShort (Is a.run_state) b
unstored_short {D} {a} {b} h = record { until = ap (λ (d : DeskState D). d.run_state) h.same; at_hand = subst (λ (d : DeskState D). HasCut d.run_state) (sym h.same) h.at_hand }

-- ---- calls one after the other

pub stays_itself : {D : Type 0} {k : Ghosts D} {d : DeskState D} → Stays k d d
stays_itself {D} {k} {d} = record { desk = λ desk. desk; store = store_itself d; owes = refl }

pub stays_same : {D : Type 0} {k : Ghosts D} {a b : DeskState D} → b ≡ a → Stays k a b
stays_same {D} {k} {a} {b} same = subst (λ (d : DeskState D). Stays k a d) (sym same) stays_itself

module _ {D : Type 0} {k : Ghosts D} where
  -- a call that was done, and one after it
  pub then : {P : DeskRunState → Type 0} {Q : DeskState D → Type 0} {R : DeskRunState → Type 0} {x : Unit {0}} {Done : DeskRunState → Type 0} {Short : DeskState D → Type 0} {Until : DeskRunState → Type 0} {r : Result (Unit {0}) Fault} {a b c : DeskState D}
      → Goes k P Q R (Ok x) a b → Goes k Done Short Until r b c → Goes k Done Short Until r a c
  then {P} {Q} {R} {x} {Done} {Short} {Until} {r} {a} {b} {c} ab bc = record {
    desk = bc.desk;
    owes = bc.owes ∙ ab.owes;
    advances = advances_both k a b c ab.ends.0.fine.after ab.advances bc.advances;
    ends = ends_then k Done Short Until r a b c ab.ends.0 bc.ends;
  }

  -- what does not touch the store
  pub stays : {P : DeskRunState → Type 0} {Q : DeskState D → Type 0} {R : DeskRunState → Type 0} {a b : DeskState D} → OnlyNow k
      → IsReady k a → Stays k a b → P b.run_state → Goes k P Q R (Ok tt) a b
  stays {P} {Q} {R} {a} {b} only_now ready same p = record {
    desk = same.desk ready.desk;
    owes = same.owes;
    advances = advances_as k only_now a b ready.desk same.store;
    ends = (stores_still k a b ready.works same.store, p);
  }

  -- memory was short for the batch at hand, and nothing was done
  pub unstored : {Done Until : DeskRunState → Type 0} {fault : Fault} {a b : DeskState D} → OnlyNow k → fault ≡ NoMemory out_of_memory → IsReady k a
      → HasCut a.run_state → b ≡ a → Goes k Done (IsUnstored a) Until (Err fault) a b
  unstored {Done} {Until} {fault} {a} {b} only_now is ready cut same =
      let still : Stays k a b = stays_same same in
      record {
        desk = still.desk ready.desk;
        owes = still.owes;
        advances = advances_as k only_now a b ready.desk still.store;
        ends = subst (Faults k (IsUnstored a) Until a b) (sym is) (stores_still k a b ready.works still.store, record { at_hand = cut; same = same });
      }

  -- what does not touch the store, before a call or after one that was done
  pub before : {Done : DeskRunState → Type 0} {Short : DeskState D → Type 0} {Until : DeskRunState → Type 0} {r : Result (Unit {0}) Fault} {a b c : DeskState D} → a.keeper.store.has_failed ≡ false → HasStore a b → b.run_state.owes ≡ a.run_state.owes
      → Goes k Done Short Until r b c → Goes k Done Short Until r a c
  before {Done} {Short} {Until} {r} {a} {b} {c} works same owes bc = record {
    desk = bc.desk;
    owes = bc.owes ∙ owes;
    advances = advances_after k a b c same bc.advances;
    ends = ends_then k Done Short Until r a b c (stores_still k a b works same) bc.ends;
  }

  pub after : {P : DeskRunState → Type 0} {Q : DeskState D → Type 0} {R : DeskRunState → Type 0} {x y : Unit {0}} {Done : DeskRunState → Type 0} {Short : DeskState D → Type 0} {Until : DeskRunState → Type 0} {a b c : DeskState D}
      → Goes k P Q R (Ok x) a b → Stays k b c → Done c.run_state → Goes k Done Short Until (Ok y) a c
  after {P} {Q} {R} {x} {y} {Done} {Short} {Until} {a} {b} {c} ab same d = record {
    desk = same.desk ab.desk;
    owes = same.owes ∙ ab.owes;
    advances = advances_then k a b c ab.advances same.store;
    ends = (both k a b c ab.ends.0 (stores_still k b c ab.ends.0.fine.after same.store), d);
  }

  -- ---- the same call, said otherwise

  pub weaker : {P : DeskRunState → Type 0} {Q : DeskState D → Type 0} {R Done : DeskRunState → Type 0} {Short : DeskState D → Type 0} {Until : DeskRunState → Type 0} {r : Result (Unit {0}) Fault} {a b : DeskState D}
      → (P b.run_state → Done b.run_state) → (Q b → Short b) → ((last : DeskRunState) → R last → Tears last b → Until last) → Goes k P Q R r a b → Goes k Done Short Until r a b
  weaker {P} {Q} {R} {Done} {Short} {Until} {r} {a} {b} more short until h = by r h
    where
      by : (r : Result (Unit {0}) Fault) → Goes k P Q R r a b → Goes k Done Short Until r a b
      by (Ok x) h = record { desk = h.desk; owes = h.owes; advances = h.advances; ends = (h.ends.0, more h.ends.1) }
      by (Err f) h = record { desk = h.desk; owes = h.owes; advances = h.advances; ends = faults_weaker k Q Short R Until a b f short until h.ends }

  -- it is done, which comes to this
  pub done : {P : DeskRunState → Type 0} {Q : DeskState D → Type 0} {R : DeskRunState → Type 0} {x y : Unit {0}} {Done : DeskRunState → Type 0} {Short : DeskState D → Type 0} {Until : DeskRunState → Type 0} {a b : DeskState D}
      → (P b.run_state → Done b.run_state) → Goes k P Q R (Ok x) a b → Goes k Done Short Until (Ok y) a b
  done more h = record { desk = h.desk; owes = h.owes; advances = h.advances; ends = (h.ends.0, more h.ends.1) }

  -- it is at fault, which `?` passes on
  pub passed : {P : DeskRunState → Type 0} {Q : DeskState D → Type 0} {R Done : DeskRunState → Type 0} {Short : DeskState D → Type 0} {Until : DeskRunState → Type 0} {fault : Fault} {r : Result (Unit {0}) Fault} {a b : DeskState D}
      → IsErrAnd r (λ f. f ≡ fault) → (Q b → Short b) → ((last : DeskRunState) → R last → Tears last b → Until last) → Goes k P Q R (Err fault) a b → Goes k Done Short Until r a b
  passed {P} {Q} {R} {Done} {Short} {Until} {fault} {r} {a} {b} is short until h = by r is
    where
      by : (r : Result (Unit {0}) Fault) → IsErrAnd r (λ f. f ≡ fault) → Goes k Done Short Until r a b
      by (Ok x) is = absurd is
      by (Err f) is = record { desk = h.desk; owes = h.owes; advances = h.advances; ends = faults_weaker k Q Short R Until a b f short until (subst (Faults k Q R a b) (sym is) h.ends) }

  -- where it stops for either fault alike
  pub passed_on : {P R Done Until : DeskRunState → Type 0} {fault : Fault} {r : Result (Unit {0}) Fault} {a b : DeskState D}
      → IsErrAnd r (λ f. f ≡ fault) → ((last : DeskRunState) → R last → Until last) → Goes k P (IsShort R) R (Err fault) a b → Goes k Done (IsShort Until) Until r a b
  passed_on is until h = passed is (short_weaker until) (λ last here tears. until last here) h

  pub weaker_on : {P R Done Until : DeskRunState → Type 0} {r : Result (Unit {0}) Fault} {a b : DeskState D}
      → (P b.run_state → Done b.run_state) → ((last : DeskRunState) → R last → Until last) → Goes k P (IsShort R) R r a b → Goes k Done (IsShort Until) Until r a b
  weaker_on more until h = weaker more (short_weaker until) (λ last here tears. until last here) h

  -- ---- where a piece is read

  pub unread : {Done : DeskRunState → Type 0} {Short : Bool → DeskRunState → Type 0} {Until : DeskRunState → Type 0} {a : DeskState D} → OnlyNow k
      → IsReady k a → Done a.run_state → GoesPiece k Done Short Until (Ok tt) a a
  unread {Done} {Short} {Until} {a} only_now ready done = record {
    desk = ready.desk;
    owes = refl;
    advances = advances_itself k only_now a ready.desk;
    ends = (stores_still k a a ready.works (store_itself a), done);
  }

  pub piece_done : {P : DeskRunState → Type 0} {Q : DeskState D → Type 0} {R : DeskRunState → Type 0} {x y : Unit {0}} {Done : DeskRunState → Type 0} {Short : Bool → DeskRunState → Type 0} {Until : DeskRunState → Type 0} {a b c : DeskState D}
      → Goes k P Q R (Ok x) a b → Stays k b c → Done c.run_state → GoesPiece k Done Short Until (Ok y) a c
  piece_done {P} {Q} {R} {x} {y} {Done} {Short} {Until} {a} {b} {c} ab same d =
      let all : Goes k Done (λ e. ⊤) (λ s. ⊤) (Ok tt) a c = after ab same d in
      record { desk = all.desk; owes = all.owes; advances = all.advances; ends = all.ends }

  -- memory was short after it was done
  pub piece_short : {P : DeskRunState → Type 0} {Q : DeskState D → Type 0} {R : DeskRunState → Type 0} {x : Unit {0}} {Done : DeskRunState → Type 0} {Short : Bool → DeskRunState → Type 0} {Until : DeskRunState → Type 0} {a b : DeskState D} {fed : Bool}
      → Goes k P Q R (Ok x) a b → Short fed b.run_state → GoesPiece k Done Short Until (Err (desk.NoMemory out_of_memory fed)) a b
  piece_short h is = record { desk = h.desk; owes = h.owes; advances = h.advances; ends = (h.ends.0, is) }

  pub piece_faulty : {P : DeskRunState → Type 0} {Q : DeskState D → Type 0} {R Done : DeskRunState → Type 0} {Short : Bool → DeskRunState → Type 0} {Until : DeskRunState → Type 0} {fault : Fault} {written_out : DeskFault} {a b : DeskState D} (fed : Bool)
      → written_out ≡ desk_fault_of fault fed → (Q b → Short fed b.run_state) → ((last : DeskRunState) → R last → Until last) → Goes k P Q R (Err fault) a b → GoesPiece k Done Short Until (Err written_out) a b
  piece_faulty {P} {Q} {R} {Done} {Short} {Until} {fault} {written_out} {a} {b} fed is short until h =
      record { desk = h.desk; owes = h.owes; advances = h.advances; ends = subst (PieceFaults k Short Until a b) (sym is) (faults_given k Q Short R Until a b fault fed short until h.ends) }

-- ---- room that was begun

pub making_there : (m : Option ℕ) (conn : ℕ) (b : Bool) → b ≡ option_eq eqb m (Some conn) → b ≡ true → option_map_or (nat_eq conn) m false ≡ true
making_there None conn b is on = cc
making_there (Some n) conn b is on = let e : nat_eq n conn ≡ true = sym is ∙ on in grind (arith, nat_tests)

pub making_not : (m : Option ℕ) (conn : ℕ) (b : Bool) → b ≡ option_eq eqb m (Some conn) → b ≡ false → option_map_or (nat_eq conn) m false ≡ false
making_not None conn b is off = refl
making_not (Some n) conn b is off = let e : nat_eq n conn ≡ false = sym is ∙ off in grind (arith, nat_tests)
