-- Runs of steps, one after the other.
use Rattle.std.proofs.Common.{◌≡◌, ℕ, ◌+◌, ◌<◌, false, List, [], ◌∷◌, ◌++◌, length, take, get_or, add-one, zero, suc, Option, Some, None, Result, Ok, Err, refl, sym, ap, subst, ◌∙◌, arith}
use Rattle.std.specs.Prelude.{slice_get}
use Rattle.std.proofs.lemmas.List.{take_more, append-nil, map-append}
use Rattle.fe_disk.specs.Runs.{LeavesOnly}
use Rattle.fe_disk.proofs.Moments.{started, joined, weaker}
use Rattle.fe_state.specs.State.{ServerState}
use Rattle.fe_state.specs.declared.entry.Entry.{Entry}
use Rattle.fe_keeper.specs.Stands.{StandsFor, EachStandsFor, LeavesPrefix}
use Rattle.fe_desk.specs.declared.fault.DeskFault.{DeskFault}
use Rattle.fe_desk.specs.declared.running.Ran.{Ran}
use Rattle.fe_desk.specs.declared.step.Step.{Step}
use Rattle.fe_desk.specs.declared.trace.Trace.{Trace}
use Rattle.fe_desk.specs.Crash.{DeskState, IsFrom, Advances, disk_of}
use Rattle.fe_desk.specs.Runs.{GoesTo, IsOpened, IsRunTo, whole, IsStep, AreSteps}
use Rattle.fe_disk.specs.declared.disk.Disk.{Ghosts}

-- a step more
pub steps_more : {D : Type 0} (model : Ghosts D) (d e f : DeskState D) (given : List (Step × Result (Unit {0}) DeskFault)) (x : Step × Result (Unit {0}) DeskFault) → AreSteps model d given e → IsStep model e x.0 x.1 f
    → AreSteps model d (given ++ x ∷ []) f
steps_more {D} model d e f [] x are is = (f, subst (λ (y : DeskState D). IsStep model y x.0 x.1 f) are is, refl)
steps_more model d e f (y ∷ ys) x are is = (are.0, are.1, steps_more model are.0 e f ys x are.2 is)

-- the step at a place, after those before it
pub steps_next : {D : Type 0} (model : Ghosts D) (d e f : DeskState D) (steps : List Step) (k : ℕ) (step : Step) (r : Result (Unit {0}) DeskFault) → r ≡ Ok tt → k < length steps → step ≡ get_or steps k step
    → AreSteps model d (whole (take k steps)) e → IsStep model e step r f → AreSteps model d (whole (take (k + 1) steps)) f
steps_next {D} model d e f steps k step r ok lt is are taken =
    let front : take (k + 1) steps ≡ take k steps ++ step ∷ [] = take_more steps k step lt ∙ ap (λ (x : Step). take k steps ++ x ∷ []) (sym is) in
    let all : whole (take (k + 1) steps) ≡ whole (take k steps) ++ (step, Ok tt) ∷ [] =
    ap whole front ∙ map-append (λ (x : Step). (x, Ok tt)) (take k steps) (step ∷ []) in
    subst (λ (given : List (Step × Result (Unit {0}) DeskFault)). AreSteps model d given f) (sym all)
    (steps_more model d e f (whole (take k steps)) (step, Ok tt) are (subst (λ (x : Result (Unit {0}) DeskFault). IsStep model e step x f) ok taken))

-- the step at fault
pub goes_to : {D : Type 0} (model : Ghosts D) (d e f : DeskState D) (steps : List Step) (k : ℕ) (step : Step) (r : Result (Unit {0}) DeskFault) (fault : DeskFault) → r ≡ Err fault → slice_get steps k ≡ Some step
    → AreSteps model d (whole (take k steps)) e → IsStep model e step r f → GoesTo model d steps (Some (k + 1, fault)) f
goes_to {D} model d e f steps k step r fault err is are taken =
    subst (λ (n : ℕ). GoesTo model d steps (Some (n, fault)) f) (sym (add-one k))
    (step, is, steps_more model d e f (whole (take k steps)) (step, Err fault) are (subst (λ (x : Result (Unit {0}) DeskFault). IsStep model e step x f) err taken))

-- an image that stands for the state at the beginning stands for no group of the history
pub stands_begun : (begun : ServerState) (groups : List (List Entry)) (image : List ℕ) → StandsFor image begun → LeavesPrefix begun groups 0 image
stands_begun begun groups image stands = record { state = begun; stands = stands; prefix = record { kept = 0; least = omega arith; most = omega arith; state_is = refl } }

module _ {D : Type 0} (model : Ghosts D) where
  -- a store was opened, and the desk's steps went on from there
  pub run_moments : (disk : D) (first last : DeskState D) (begun : ServerState) → EachStandsFor model disk begun → LeavesOnly model disk (disk_of first) (model.may_leave disk)
      → model.honest (disk_of first) → first.keeper.store.has_failed ≡ false → IsFrom begun first → Advances model first last
      → LeavesOnly model disk (disk_of last) (LeavesPrefix begun last.run_state.groups 0)
  run_moments disk first last begun each opening h works from run =
      let groups = last.run_state.groups in
      joined model disk (disk_of first) (disk_of last) (LeavesPrefix begun groups 0)
      (weaker model disk (disk_of first) (model.may_leave disk) (LeavesPrefix begun groups 0) (λ image may. stands_begun begun groups image (each image may)) opening)
      (weaker model (disk_of first) (disk_of last) (LeavesPrefix begun groups first.synced) (LeavesPrefix begun groups 0)
      (λ image p. record {
        state = p.state;
        stands = p.stands;
        prefix = record { kept = p.prefix.kept; least = omega arith; most = p.prefix.most; state_is = p.prefix.state_is };
      })
      (run.any_moment h works begun from))

  -- no step was taken
  pub no_step : ((disk : D) (image : List ℕ) → model.honest disk → model.left_since disk (model.moment disk) image → model.may_leave disk image) → (d : DeskState D)
      → (model.honest (disk_of d) → (begun : ServerState) → IsFrom begun d → (image : List ℕ) → model.may_leave (disk_of d) image → LeavesPrefix begun d.run_state.groups d.synced image)
      → Advances model d d
  no_step only_now d upheld =
      record {
        more = [];
        groups = sym (append-nil d.run_state.groups);
        synced = omega arith;
        from = λ begun from. from;
        any_moment = λ h works begun from.
            started model (disk_of d) (LeavesPrefix begun d.run_state.groups d.synced) (λ image left. upheld h begun from image (only_now (disk_of d) image h left));
        honesty = (λ h. h, λ h. h);
      }

-- ---- whole runs

-- a run from its parts
module _ {D : Type 0} (model : Ghosts D) (disk : D) (steps : List Step) (t : Trace) (after : D) where
  abbrev ran : Option (ℕ × DeskFault) → Ran D
  ran fault = record { trace = t; disk = after; fault = fault }

  pub run_of : (fault : Option (ℕ × DeskFault)) → IsOpened model disk steps (ran fault) → IsRunTo model disk steps (ran fault) fault
  run_of None opened = opened
  run_of (Some (zero, fault)) opened = absurd opened.goes
  run_of (Some (suc k, fault)) opened = opened
