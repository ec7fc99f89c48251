-- What a step does before the boxes are emptied, from the call that it makes.
use Rattle.std.proofs.Common.{◌≡◌, ℕ, Vec, Global, Bool, true, false, List, Result, Ok, Err, refl, sym, ap, subst, ◌∙◌}
use Rattle.std.specs.Prelude.{OnOk, MatchResult}
use Rattle.fe_memory.specs.Memory.{out_of_memory}
use Rattle.fe_disk.specs.declared.disk.Disk.{Ghosts}
use Rattle.fe_keeper.specs.Ends as keeper
use Rattle.fe_keeper.specs.Keeper.{KeeperState}
use Rattle.fe_keeper.specs.declared.fault.Fault.{Fault}
use Rattle.fe_keeper.specs.declared.fault.Fault.TheVariants.{Device, Failed, NoMemory, Mismatch, Damaged, Unformatted}
use Rattle.fe_desk.specs.declared.fault.DeskFault.{DeskFault}
use Rattle.fe_desk.specs.declared.fault.DeskFault.TheVariants as desk
use Rattle.fe_desk.specs.declared.step.Step.{Step}
use Rattle.fe_desk.specs.declared.step.Step.TheVariants as step
use Rattle.fe_desk.specs.DeskRunState.{DeskRunState, stored}
use Rattle.fe_desk.specs.Steps.{Acts}
use Rattle.fe_desk.specs.Messages.{desk_fault_of}
use Rattle.fe_desk.specs.Crash.{DeskState, Advances}
use Rattle.fe_desk.specs.Ends.{Checks, Lacks, StopsShort, StoresMore, Tears, TearsStep, BreaksOff}
use Rattle.fe_desk.specs.within.Desk.{IsDesk, IsReady, Stays}
use Rattle.fe_desk.specs.within.Goes.{Goes, GoesAct, GoesPiece, Is, IsUnstored, StopsStream, TakesStream}
use Rattle.fe_desk.proofs.Advancing.{advances_as, fine_as}
use Rattle.fe_desk.proofs.Goes.{CountsNow, OnlyNow, stays_same}
use Rattle.fe_desk.proofs.Making.{advances_checked, desk_checked}

-- what a call answered, in the words of a step
abbrev pub IsTold : {T : Type 0} → Result T Fault → Result (Unit {0}) DeskFault → Type 0
IsTold r q = MatchResult r (λ _. q ≡ Ok tt) (λ f. q ≡ Err (desk_fault_of f false))

-- a step of a kind
pub act_at : {D : Type 0} {k : Ghosts D} {x y : Step} {q : Result (Unit {0}) DeskFault} {a b : DeskState D} → x ≡ y → GoesAct k a y q b → GoesAct k a x q b
act_at {D} {k} {x} {y} {q} {a} {b} is h = subst (λ (z : Step). GoesAct k a z q b) (sym is) h

module _ {D : Type 0} {k : Ghosts D} {y : Step} {a b : DeskState D} where
  -- the store is not touched
  pub act_still : OnlyNow k → IsReady k a → Stays k a b → Acts a.run_state y b.run_state → Checks y a b → GoesAct k a y (Ok tt) b
  act_still only_now ready same acts checked = record {
    desk = same.desk ready.desk;
    owes = same.owes;
    advances = advances_as k only_now a b ready.desk same.store;
    ends = record { acts = acts; checked = checked; fine = fine_as k a b ready.works same.store };
  }

  pub act_short : OnlyNow k → IsReady k a → b ≡ a → Lacks false y a b → GoesAct k a y (Err (desk.NoMemory out_of_memory false)) b
  act_short only_now ready same lacks =
      let still : Stays k a b = stays_same same in
      record { desk = still.desk ready.desk; owes = still.owes; advances = advances_as k only_now a b ready.desk still.store; ends = (lacks, fine_as k a b ready.works still.store) }

-- ---- bytes

module _ {D : Type 0} {k : Ghosts D} {a b : DeskState D} where
  pub act_bytes : {q : Result (Unit {0}) DeskFault} (conn : ℕ) (piece : Vec ℕ Global) (slice : List ℕ) → slice ≡ piece.items
      → GoesPiece k (TakesStream a.run_state conn slice) (λ fed t. StopsShort fed a.run_state conn slice t) (StopsStream a.run_state conn slice) q a b → GoesAct k a (step.Bytes conn piece) q b
  act_bytes {q} conn piece slice same h =
      by q (subst (λ (xs : List ℕ). GoesPiece k (TakesStream a.run_state conn xs) (λ fed t. StopsShort fed a.run_state conn xs t) (StopsStream a.run_state conn xs) q a b) same h)
    where
      lacks : (fed : Bool) → StopsShort fed a.run_state conn piece.items b.run_state → StoresMore a b → Lacks fed (step.Bytes conn piece) a b
      lacks false stops grows = (stops, grows)
      lacks true stops grows = (stops, grows)

      by : (q : Result (Unit {0}) DeskFault) → GoesPiece k (TakesStream a.run_state conn piece.items) (λ fed t. StopsShort fed a.run_state conn piece.items t) (StopsStream a.run_state conn piece.items) q a b → GoesAct k a (step.Bytes conn piece) q b
      by (Ok x) h = record { desk = h.desk; owes = h.owes; advances = h.advances; ends = record { acts = h.ends.1; checked = h.ends.0.grows; fine = h.ends.0.fine } }
      by (Err (desk.Store cause)) h = record {
        desk = h.desk;
        owes = h.owes;
        advances = h.advances;
        ends = (h.ends.0, record { last = h.ends.1.last; stops = h.ends.1.until; tears = h.ends.1.tears }, h.ends.1.failed);
      }
      by (Err (desk.NoMemory error fed)) h = record { desk = h.desk; owes = h.owes; advances = h.advances; ends = (lacks fed h.ends.1 h.ends.0.grows, h.ends.0.fine) }
      by (Err (desk.Unwritten error)) h = absurd h.ends

  -- ---- the batch at hand is stored

  pub act_append : {r : Result (Unit {0}) Fault} {q : Result (Unit {0}) DeskFault} → IsTold r q → Goes k (Is (stored a.run_state)) (IsUnstored a) (Is a.run_state) r a b → GoesAct k a step.Append q b
  act_append {r} {q} written_out h = by r written_out h
    where
      of : (f : Fault) → Goes k (Is (stored a.run_state)) (IsUnstored a) (Is a.run_state) (Err f) a b → GoesAct k a step.Append (Err (desk_fault_of f false)) b
      of Device h = record {
        desk = h.desk;
        owes = h.owes;
        advances = h.advances;
        ends = (refl, subst (λ (s : DeskRunState). Tears s b) h.ends.until h.ends.tears, h.ends.failed);
      }
      of (NoMemory error) h = record { desk = h.desk; owes = h.owes; advances = h.advances; ends = ((h.ends.1.at_hand, h.ends.1.same), h.ends.0.fine) }
      of Failed h = absurd h.ends
      of (Mismatch place) h = absurd h.ends
      of (Damaged offset) h = absurd h.ends
      of Unformatted h = absurd h.ends

      by : (r : Result (Unit {0}) Fault) → IsTold r q → Goes k (Is (stored a.run_state)) (IsUnstored a) (Is a.run_state) r a b → GoesAct k a step.Append q b
      by (Ok x) written_out h = subst (λ (p : Result (Unit {0}) DeskFault). GoesAct k a step.Append p b) (sym written_out) (record { desk = h.desk; owes = h.owes; advances = h.advances; ends = record { acts = h.ends.1; checked = h.ends.0.grows; fine = h.ends.0.fine } })
      by (Err f) written_out h = subst (λ (p : Result (Unit {0}) DeskFault). GoesAct k a step.Append p b) (sym written_out) (of f h)

-- ---- checkpoints

abbrev with_keeper : {D : Type 0} → DeskState D → KeeperState D → DeskState D
with_keeper d new = record d { keeper = new }

module _ {D : Type 0} {k : Ghosts D} (y : Step) (d : DeskState D) (new : KeeperState D) where
  -- A step makes a call of the keeper that keeps the replica.
  pub act_check : {T : Type 0} {q : Result (Unit {0}) DeskFault} (r : Result T Fault) (Cause : Fault → Type 0) → CountsNow k → IsReady k d → keeper.Rests k d.keeper new
      → Acts d.run_state y d.run_state → OnOk r (Checks y d (with_keeper d new)) → (Cause (NoMemory out_of_memory) → with_keeper d new ≡ d → Lacks false y d (with_keeper d new)) → ((place : ℕ) → Cause (Mismatch place) → ⊥)
      → (BreaksOff d (with_keeper d new) → TearsStep y d (with_keeper d new)) → IsTold r q → keeper.Ends k Cause r d.keeper new → GoesAct k d y q (with_keeper d new)
  act_check {T} {q} r Cause counts_now ready rests acts checked lacks mismatch breaks written_out h = by r checked written_out h
    where
      works : d.keeper.store.has_failed ≡ false
      works = ready.works

      still : IsDesk k (with_keeper d new)
      still = desk_checked k d new counts_now ready.desk works rests.state rests.any_moment rests.honesty

      advances : Advances k d (with_keeper d new)
      advances = advances_checked k d new ready.desk rests.state rests.any_moment rests.honesty

      of : (f : Fault) → keeper.Fails k Cause d.keeper new f → GoesAct k d y (Err (desk_fault_of f false)) (with_keeper d new)
      of Device h = record { desk = still; owes = refl; advances = advances; ends = (refl, breaks (record { run_state = refl; synced = refl }), h.1) }
      of Failed h = let had = h.0 in absurd (cc (had, works))
      of (NoMemory error) h =
          let same : new ≡ d.keeper = h.1.same in
          let is : with_keeper d new ≡ d = ap (λ (j : KeeperState D). record d { keeper = j }) same in
          record {
            desk = still;
            owes = refl;
            advances = advances;
            ends = (lacks h.0 is, record { before = works; after = ap (λ (j : KeeperState D). j.store.has_failed) same ∙ works; still = ap (λ (j : KeeperState D). k.failures j.store.disk) same });
          }
      of (Mismatch place) h = absurd (mismatch place h.0)
      of (Damaged offset) h = absurd h
      of Unformatted h = absurd h

      by : (r : Result T Fault) → OnOk r (Checks y d (with_keeper d new)) → IsTold r q → keeper.Ends k Cause r d.keeper new → GoesAct k d y q (with_keeper d new)
      by (Ok x) checked written_out h = subst (λ (p : Result (Unit {0}) DeskFault). GoesAct k d y p (with_keeper d new)) (sym written_out) (record { desk = still; owes = refl; advances = advances; ends = record { acts = acts; checked = checked; fine = h } })
      by (Err f) checked written_out h = subst (λ (p : Result (Unit {0}) DeskFault). GoesAct k d y p (with_keeper d new)) (sym written_out) (of f h)
