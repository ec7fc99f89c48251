-- A step, from what its parts came to.
use Rattle.std.proofs.Common.{◌≡◌, ℕ, Bool, true, false, true≢false, Result, Ok, Err, inl, inr, refl, sym, ap, subst, ◌∙◌}
use Rattle.std.specs.Prelude.{MatchBool, IsErrAnd, OnOk}
use Rattle.fe_memory.specs.Memory.{out_of_memory}
use Rattle.fe_disk.specs.declared.disk.Disk.{Ghosts}
use Rattle.fe_keeper.specs.Keeper.{KeeperState}
use Rattle.fe_keeper.specs.declared.fault.Fault.TheVariants as keeper
use Rattle.fe_desk.specs.declared.fault.DeskFault.{DeskFault}
use Rattle.fe_desk.specs.declared.fault.DeskFault.TheVariants.{Store, NoMemory, Unwritten}
use Rattle.fe_desk.specs.declared.step.Step.{Step}
use Rattle.fe_desk.specs.Crash.{DeskState}
use Rattle.fe_desk.specs.Ends.{FindsNoMemory, WritesSome, discharged_desk}
use Rattle.fe_desk.specs.Messages.{outputs}
use Rattle.fe_desk.specs.DeskRunState.{DeskRunState, discharged}
use Rattle.fe_desk.specs.Steps.{Acts}
use Rattle.fe_desk.specs.Runs.{Ends, EndsByMemory, IsSound, IsStep}
use Rattle.fe_desk.specs.within.Desk.{IsDesk, HasStore}
use Rattle.fe_desk.specs.within.Goes.{ActEnds, GoesAct, HasEmptied}
use Rattle.fe_desk.proofs.Advancing.{fine_as, fine_both}
use Rattle.fe_desk.proofs.Feeding.{finds_tells, lacks_silent, tears_silent}
use Rattle.fe_desk.proofs.Growing.{checks_as}
use Rattle.fe_desk.proofs.StepParts.{stepped, stepped_owing, discharged_at}
use Rattle.fe_desk.proofs.Writing.{owed_later}
use Rattle.fe_keeper.specs.Ends.{Works}

-- of a fault nothing is said that is said of what is done
pub of_fault : {T E : Type 0} (P : Type 0) (r : Result T E) (e : E) → IsErrAnd r (λ f. f ≡ e) → OnOk r P
of_fault P (Ok x) e refused_so = absurd refused_so
of_fault P (Err f) e refused_so = tt

-- where the store works
pub ends_of : {D : Type 0} (model : Ghosts D) (old : DeskState D) (step : Step) (new : DeskState D) (r : Result (Unit {0}) DeskFault) → old.keeper.store.has_failed ≡ false → IsStep model old step r new → Ends model old step r new
ends_of model old step new r works is = subst (λ (b : Bool). MatchBool b ((r ≡ Err (Store keeper.Failed)) × (new ≡ old)) (Ends model old step r new)) works is

-- a desk of which all parts are the same
pub same_desk : {D : Type 0} (a b : DeskState D) → b.run_state ≡ a.run_state → b.keeper ≡ a.keeper → b.synced ≡ a.synced → b ≡ a
same_desk {D} a b run_state keeper synced =
    ap (λ (s : DeskRunState). record b { run_state = s }) run_state ∙ ap (λ (k : KeeperState D). record b { run_state = a.run_state; keeper = k }) keeper ∙ ap (λ (n : ℕ). record a { synced = n }) synced

-- a desk whose mails that were owed are written
pub settled : {D : Type 0} (a mid : DeskState D) → mid.run_state ≡ discharged a.run_state → HasStore a mid → mid ≡ discharged_desk a
settled a mid is same = same_desk (discharged_desk a) mid is same.keeper same.synced

module _ {D : Type 0} (k : Ghosts D) (x : Step) (a : DeskState D) where
  step_at : (r : Result (Unit {0}) DeskFault) (b : DeskState D) → a.keeper.store.has_failed ≡ false → Ends k a x r b → IsStep k a x r b
  step_at r b works h = subst (λ (c : Bool). MatchBool c ((r ≡ Err (Store keeper.Failed)) × (b ≡ a)) (Ends k a x r b)) (sym works) h

  -- the device had failed
  pub refused : a.keeper.store.has_failed ≡ true → IsStep k a x (Err (Store keeper.Failed)) a
  refused failed =
      let refused_so : Result (Unit {0}) DeskFault = Err (Store keeper.Failed) in
      subst (λ (c : Bool). MatchBool c ((refused_so ≡ Err (Store keeper.Failed)) × (a ≡ a)) (Ends k a x refused_so a)) (sym failed) (refl, refl)

  sound : {b : DeskState D} → IsDesk k b → Works k a.keeper b.keeper → IsSound k a b
  sound desk fine = record { fine = fine; stored = desk.all fine.after }

  by_memory : {b : DeskState D} (fed : Bool) → FindsNoMemory fed x a b → (a.run_state.owes ≡ false → outputs b.run_state ≡ outputs a.run_state) → IsSound k a b → EndsByMemory k fed a x b
  by_memory {b} fed finds silent sound = record {
    finds = finds;
    read = finds_tells fed x a b finds;
    silent = silent;
    sound = sound;
  }

  -- memory was short for mails that were owed
  pub step_settling : {b : DeskState D} → a.keeper.store.has_failed ≡ false → IsDesk k b → HasStore a b → (a.run_state.owes ≡ true) × WritesSome a.run_state b.run_state
      → IsStep k a x (Err (NoMemory out_of_memory false)) b
  step_settling {b} works desk same still =
      step_at (Err (NoMemory out_of_memory false)) b works
      (by_memory false (inl (refl, record { owed = still.0; writes = still.1; keeper = same.keeper; synced = same.synced })) (λ none. absurd (true≢false (sym still.0 ∙ none))) (sound desk (fine_as k a b works same)))

  -- what it does after them is at fault
  pub step_fault : {mid b : DeskState D} {fault : DeskFault} (r : Result (Unit {0}) DeskFault) → IsErrAnd r (λ f. f ≡ fault) → a.keeper.store.has_failed ≡ false → mid ≡ discharged_desk a
      → GoesAct k mid x (Err fault) b → IsStep k a x r b
  step_fault {mid} {b} {fault} r refused_so works is goes = by r refused_so
    where
      of : (f : DeskFault) → ActEnds k (discharged_desk a) x b (Err f) → Ends k a x (Err f) b
      of (Store cause) h = (h.0, record { breaks = h.1; silent = tears_silent x (discharged_desk a) b h.1; failed = record { before = h.2.before; failed = h.2.failed; rises = h.2.rises } })
      of (NoMemory error fed) h =
          by_memory fed (inr h.0) (λ clear. lacks_silent fed x (discharged_desk a) b h.0 ∙ ap outputs (discharged_at a.run_state clear)) (sound goes.desk (record { before = h.1.before; after = h.1.after; still = h.1.still }))
      of (Unwritten error) h = absurd h

      by : (r : Result (Unit {0}) DeskFault) → IsErrAnd r (λ f. f ≡ fault) → IsStep k a x r b
      by (Ok y) refused_so = absurd refused_so
      by (Err f) refused_so = step_at (Err f) b works (of f (subst (λ (d : DeskState D). ActEnds k d x b (Err f)) is (subst (λ (g : DeskFault). ActEnds k mid x b (Err g)) (sym refused_so) goes.ends)))

  -- it writes nothing then
  pub act_silent : {b : DeskState D} {fault : DeskFault} → GoesAct k a x (Err fault) b → outputs b.run_state ≡ outputs a.run_state
  act_silent {b} {fault} goes = by fault goes.ends
    where
      by : (f : DeskFault) → ActEnds k a x b (Err f) → outputs b.run_state ≡ outputs a.run_state
      by (Store cause) h = tears_silent x a b h.1
      by (NoMemory error fed) h = lacks_silent fed x a b h.0
      by (Unwritten error) h = absurd h

  fine_to : {mid last b : DeskState D} → a.keeper.store.has_failed ≡ false → HasStore a mid → Works k mid.keeper last.keeper → HasStore last b → Works k a.keeper b.keeper
  fine_to {mid} {last} {b} works before fine behind = fine_both k a last b (fine_both k a mid last (fine_as k a mid works before) fine) (fine_as k last b fine.after behind)

  -- memory was short for its mails
  pub step_owing : {mid last b : DeskState D} {y : Unit {0}} → a.keeper.store.has_failed ≡ false → mid.run_state ≡ discharged a.run_state → HasStore a mid → GoesAct k mid x (Ok y) last
      → HasStore last b → WritesSome last.run_state b.run_state → IsDesk k b → IsStep k a x (Err (Unwritten out_of_memory)) b
  step_owing {mid} {last} {b} works is before goes behind still desk =
      step_at (Err (Unwritten out_of_memory)) b works (record {
        last = last.run_state;
        acts = subst (λ (s : DeskRunState). Acts s x last.run_state) is goes.ends.acts;
        writes = still;
        took = stepped_owing a.run_state mid.run_state last.run_state b.run_state x is goes.ends.acts (owed_later last.run_state b.run_state still) (ap (λ (r : DeskRunState). r.owes) still.after);
        checked = checks_as x a mid last b before behind goes.ends.checked;
        sound = sound desk (fine_to works before goes.ends.fine behind);
      })

  pub step_whole : {mid last b : DeskState D} {y : Unit {0}} → a.keeper.store.has_failed ≡ false → mid.run_state ≡ discharged a.run_state → HasStore a mid → GoesAct k mid x (Ok y) last
      → HasStore last b → HasEmptied last.run_state b.run_state → IsDesk k b → IsStep k a x (Ok tt) b
  step_whole {mid} {last} {b} works is before goes behind empty desk =
      step_at (Ok tt) b works (record {
        took = stepped a.run_state mid.run_state last.run_state b.run_state x is goes.ends.acts empty.after;
        boxes = empty.quiet.boxes;
        checked = checks_as x a mid last b before behind goes.ends.checked;
        sound = sound desk (fine_to works before goes.ends.fine behind);
      })
