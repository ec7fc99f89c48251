-- What a desk says in a line stands on what is stored, and the next line begins so.
use Rattle.std.proofs.Common.{◌≡◌, ℕ, Bool, true, false, List, [], ◌∷◌, length, take, take_all, refl, sym, ap, subst, ◌∙◌, arith}
use Rattle.std.specs.List.{AllByRecursion}
use Rattle.fe_disk.specs.Memory.{MemoryState}
use Rattle.fe_state.specs.State.{ServerState, IsWithinLimits, first_state, after, after_all}
use Rattle.fe_state.specs.History.{AreLegal, IsHistory, after_groups}
use Rattle.fe_state.specs.declared.entry.Entry.{Entry}
use Rattle.fe_state.proofs.Empty.{empty_within}
use Rattle.fe_state.proofs.LegalLimits.{limits_kept}
use Rattle.fe_wire.specs.declared.client_message.ClientMessage.{ClientMessage}
use Rattle.fe_desk.specs.Acknowledged.{IsAcknowledged, AnswersStand, HasNoneToPost, may_ask_any}
use Rattle.fe_desk.specs.Crash.{DeskState, IsFrom}
use Rattle.fe_desk.specs.DeskRunState.{DeskRunState}
use Rattle.fe_desk.specs.Steps.{DeskRun}
use Rattle.fe_desk.specs.declared.step.Step.{Step}
use Rattle.fe_desk.specs.declared.step.Step.TheVariants as step
use Rattle.fe_desk.proofs.Answering.{first_acknowledged}
use Rattle.fe_desk.proofs.Clearing.{IsNoAppend, step_none, post_none}
use Rattle.fe_desk.proofs.Openings.{first_from}
use Rattle.fe_schedules.specs.Ready.{IsReady, IsBetweenLines, Moves}
use Rattle.fe_schedules.specs.Runs.{BeginsAt, PrintsTrace}
use Rattle.fe_schedules.specs.Schedule.{AreStepsOf, IsFrame, endings}
use Rattle.fe_schedules.specs.declared.machine.Machine.{Machine}
use Rattle.fe_text.specs.declared.line.Line.{Line}
use Rattle.fe_text.specs.declared.line.Line.TheVariants as line
use Rattle.fe_schedules.proofs.Readiness.{all_stored}

-- ---- limits

pub first_within : IsWithinLimits first_state
first_within = empty_within 0 1 (omega arith) (omega arith) (omega arith)

legal_within : (s : ServerState) (es : List Entry) → IsWithinLimits s → AreLegal s es → IsWithinLimits (after_all s es)
legal_within s [] limits legal = limits
legal_within s (e ∷ es) limits legal = legal_within (after s e) es (limits_kept s e limits legal.0) legal.1

history_within : (s : ServerState) (groups : List (List Entry)) → IsWithinLimits s → IsHistory s groups → IsWithinLimits (after_groups s groups)
history_within s [] limits history = limits
history_within s (group ∷ groups) limits history = history_within (after_all s group) groups (legal_within s group limits history.1) history.2

-- ---- no batch is stored and not posted

frame_none : (conn : ℕ) (message : ClientMessage) (frame : Step) → IsFrame conn message frame → IsNoAppend frame
frame_none conn message (step.Bytes c piece) is = tt
frame_none conn message (step.Connect c) is = tt
frame_none conn message (step.Gone c) is = tt
frame_none conn message step.Cut is = tt
frame_none conn message step.Append is = absurd is
frame_none conn message step.Post is = tt
frame_none conn message step.CheckBegin is = tt
frame_none conn message step.CheckStep is = tt
frame_none conn message step.CheckFinish is = tt

no_append : (l : Line) (xs : List Step) → AreStepsOf l xs → AllByRecursion IsNoAppend xs
no_append (line.Message conn message) xs (frame, is, e) = subst (λ (ys : List Step). AllByRecursion IsNoAppend ys) (sym e) (tt, (frame_none conn message frame is, tt))
no_append (line.Gone conn) xs e = subst (λ (ys : List Step). AllByRecursion IsNoAppend ys) (sym e) (tt, tt)
no_append line.Hold xs e = subst (λ (ys : List Step). AllByRecursion IsNoAppend ys) (sym e) tt
no_append line.Flush xs e = subst (λ (ys : List Step). AllByRecursion IsNoAppend ys) (sym e) tt
no_append line.Stop xs e = subst (λ (ys : List Step). AllByRecursion IsNoAppend ys) (sym e) tt
no_append line.Check xs e = subst (λ (ys : List Step). AllByRecursion IsNoAppend ys) (sym e) (tt, (tt, tt))

run_none : (xs : List Step) (s t : DeskRunState) → AllByRecursion IsNoAppend xs → DeskRun s xs t → HasNoneToPost s.handed → HasNoneToPost t.handed
run_none [] s t all run none = subst (λ (x : DeskRunState). HasNoneToPost x.handed) (sym run) none
run_none (x ∷ xs) s t all run none = run_none xs run.0 t all.1 run.2 (step_none s x run.0 all.0 run.1 none)

endings_none : (b : Bool) (s t : DeskRunState) → DeskRun s (endings b) t → HasNoneToPost s.handed → HasNoneToPost t.handed
endings_none true s t run none = subst (λ (x : DeskRunState). HasNoneToPost x.handed) (sym run) none
endings_none false s t run none =
    let last = run.2.2 in
    subst (λ (x : DeskRunState). HasNoneToPost x.handed) (sym last.2) (post_none run.2.0 last.0 last.1)

-- ---- where a line begins

begun_none : (l : Line) (d e : DeskState MemoryState) → BeginsAt l d e → HasNoneToPost d.run_state.handed → HasNoneToPost e.run_state.handed
begun_none (line.Message conn message) d e is none = subst (λ (x : DeskState MemoryState). HasNoneToPost x.run_state.handed) (sym is) none
begun_none (line.Gone conn) d e is none = subst (λ (x : DeskState MemoryState). HasNoneToPost x.run_state.handed) (sym is) none
begun_none line.Hold d e is none = subst (λ (x : DeskState MemoryState). HasNoneToPost x.run_state.handed) (sym is) none
begun_none line.Flush d e is none = subst (λ (x : DeskState MemoryState). HasNoneToPost x.run_state.handed) (sym is) none
begun_none line.Stop d e is none = subst HasNoneToPost (sym is.first.handed) tt
begun_none line.Check d e is none = subst (λ (x : DeskState MemoryState). HasNoneToPost x.run_state.handed) (sym is) none

-- a desk from the state that another has, whose answers stand on its groups
record GoesOn (now : ServerState) (e : DeskState MemoryState) : Type 0 where
  from : IsFrom now e
  acknowledged : IsAcknowledged now may_ask_any e

goes_on : (l : Line) (d e : DeskState MemoryState) → BeginsAt l d e → GoesOn d.keeper.state d → GoesOn d.keeper.state e
goes_on (line.Message conn message) d e is here = subst (λ (x : DeskState MemoryState). GoesOn d.keeper.state x) (sym is) here
goes_on (line.Gone conn) d e is here = subst (λ (x : DeskState MemoryState). GoesOn d.keeper.state x) (sym is) here
goes_on line.Hold d e is here = subst (λ (x : DeskState MemoryState). GoesOn d.keeper.state x) (sym is) here
goes_on line.Flush d e is here = subst (λ (x : DeskState MemoryState). GoesOn d.keeper.state x) (sym is) here
goes_on line.Stop d e is here = record {
  from = first_from d.keeper.state e is.keeper is.first.groups is.synced;
  acknowledged = first_acknowledged d.keeper.state may_ask_any e is.first is.synced;
}
goes_on line.Check d e is here = subst (λ (x : DeskState MemoryState). GoesOn d.keeper.state x) (sym is) here

-- ---- a line

-- the steps of a line, and what follows them, leave no batch to post
pub line_none : (l : Line) (d mid u e : DeskState MemoryState) (steps : List Step) (b : Bool) → IsBetweenLines d → BeginsAt l d mid → AreStepsOf l steps
    → Moves mid steps u → Moves u (endings b) e → HasNoneToPost e.run_state.handed
line_none l d mid u e steps b between begins are first more =
    endings_none b u.run_state e.run_state more.runs
    (run_none steps mid.run_state u.run_state (no_append l steps are) first.runs (begun_none l d mid begins between.posted))

-- what is known after the steps of a line
pub record AfterLine (d e : DeskState MemoryState) : Type 0 where
  pub from : IsFrom d.keeper.state e
  pub acknowledged : IsAcknowledged d.keeper.state may_ask_any e
  pub answers : AnswersStand d.keeper.state e.run_state.groups may_ask_any e.run_state
  pub limits : IsWithinLimits e.keeper.state

pub after_line : (l : Line) (d mid e : DeskState MemoryState) (steps : List Step) → IsReady d → d.run_state.groups ≡ [] → IsBetweenLines d → BeginsAt l d mid
    → Moves mid steps e → IsReady e → AfterLine d e
after_line l d mid e steps ready none between begins moves last =
    let now : ServerState = d.keeper.state in
    let synced : d.synced ≡ 0 = ready.synced ∙ ap (λ (gs : List (List Entry)). length gs) none in
    let here = goes_on l d mid begins (record { from = first_from now d refl none synced; acknowledged = between.acknowledged }) in
    let from : IsFrom now e = moves.from now here.from in
    let acknowledged : IsAcknowledged now may_ask_any e = moves.acknowledged now between.limits here.acknowledged in
    let all = last.synced in
    let whole : take e.synced e.run_state.groups ≡ e.run_state.groups = take_all e.synced e.run_state.groups (omega (arith, all)) in
    record {
      from = from;
      acknowledged = acknowledged;
      answers = subst (λ (gs : List (List Entry)). AnswersStand now gs may_ask_any e.run_state) whole acknowledged.answers;
      limits = subst IsWithinLimits (sym (all_stored e now last from)) (history_within now e.run_state.groups between.limits from.history);
    }

-- the next line begins between lines
pub between_next : (d : DeskState MemoryState) (m n : Machine) (before after : List ℕ) → AfterLine d m.desk → HasNoneToPost m.desk.run_state.handed → PrintsTrace m n before after → IsBetweenLines n.desk
between_next d m n before after line none prints =
    let same : n.desk.keeper.state ≡ m.desk.keeper.state = ap (λ (x : DeskState MemoryState). x.keeper.state) prints.desk in
    record {
      limits = subst IsWithinLimits (sym same) line.limits;
      acknowledged = subst (λ (s : ServerState). IsAcknowledged s may_ask_any n.desk) (sym same) (prints.acknowledged d.keeper.state line.from line.acknowledged);
      posted = subst (λ (x : DeskState MemoryState). HasNoneToPost x.run_state.handed) (sym prints.desk) none;
    }
