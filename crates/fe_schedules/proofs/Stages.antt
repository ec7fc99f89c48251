-- What a line does to a run, as lines of a schedule say it.
use Rattle.std.proofs.Common.{◌≡◌, ◌≢◌, ℕ, Bool, false, List, [], ◌∷◌, ◌++◌, Some, length, refl, sym, ap, subst, ◌∙◌, ◌+◌, append-nil, string_bytes}
use Rattle.fe_disk.specs.Memory.{MemoryState}
use Rattle.fe_state.specs.State.{ServerState}
use Rattle.fe_state.specs.History.{after_groups}
use Rattle.fe_desk.specs.Acknowledged.{AnswersStand, may_ask_any}
use Rattle.fe_state.specs.declared.entry.Entry.{Entry}
use Rattle.fe_desk.specs.Crash.{anew, DeskState, IsFrom}
use Rattle.fe_desk.specs.DeskRunState.{DeskRunState}
use Rattle.fe_desk.specs.Steps.{DeskRun}
use Rattle.fe_desk.proofs.Openings.{first_from}
use Rattle.fe_text.specs.Line.{parsed}
use Rattle.fe_schedules.specs.Runs.{IsAt, BeginsAt, RanLine, IsRun, RanBytes, SaysLine}
use Rattle.fe_schedules.specs.Schedule.{Stage, Begins, RunsLine, RunsBytes, endings, holds_after}
use Rattle.fe_text.specs.declared.line.Line.{Line}
use Rattle.fe_text.specs.declared.line.Line.TheVariants as line
use Rattle.fe_schedules.specs.declared.run.Run.{Run}
use Rattle.fe_schedules.proofs.Readiness.{all_stored}

-- where the steps of a line begin
record Beginning (l : Line) (at : Stage) (d : DeskState MemoryState) : Type 0 where
  mid : Stage
  begins : Begins l at mid
  stored : mid.stored ≡ at.stored
  run_state : mid.run_state ≡ d.run_state
  from : IsFrom mid.stored d

again : (r : Run) (at : Stage) (d : DeskState MemoryState) → IsAt r at → BeginsAt line.Stop r.machine.desk d → Beginning line.Stop at d
again r at d is b = record {
  mid = record { stored = r.machine.desk.keeper.state; run_state = d.run_state; is_holding = false };
  begins = (sym is.stored, b.first);
  stored = sym is.stored;
  run_state = refl;
  from = first_from r.machine.desk.keeper.state d b.keeper b.first.groups b.synced;
}

-- each line but a stop begins where the run is
same : (r : Run) (at : Stage) (d : DeskState MemoryState) → IsRun r → IsAt r at → d ≡ r.machine.desk → (at.run_state ≡ d.run_state) × IsFrom at.stored d
same r at d run is e =
    let here = r.machine.desk in
    let synced : here.synced ≡ 0 = run.machine.ready.synced ∙ ap (λ (gs : List (List Entry)). length gs) run.none in
    subst (λ (x : DeskState MemoryState). (at.run_state ≡ x.run_state) × IsFrom at.stored x) (sym e) (is.run_state, first_from at.stored here (sym is.stored) run.none synced)

beginning : (l : Line) (r : Run) (at : Stage) (d : DeskState MemoryState) → IsRun r → IsAt r at → BeginsAt l r.machine.desk d → Beginning l at d
beginning (line.Message conn message) r at d run is b = let s = same r at d run is b in
    record { mid = at; begins = (refl, refl); stored = refl; run_state = s.0; from = s.1 }
beginning (line.Gone conn) r at d run is b = let s = same r at d run is b in
    record { mid = at; begins = (refl, refl); stored = refl; run_state = s.0; from = s.1 }
beginning line.Hold r at d run is b = let s = same r at d run is b in
    record { mid = at; begins = (refl, refl); stored = refl; run_state = s.0; from = s.1 }
beginning line.Flush r at d run is b = let s = same r at d run is b in
    record { mid = at; begins = (refl, refl); stored = refl; run_state = s.0; from = s.1 }
beginning line.Stop r at d run is b = again r at d is b
beginning line.Check r at d run is b = let s = same r at d run is b in
    record { mid = at; begins = (refl, refl); stored = refl; run_state = s.0; from = s.1 }

-- The run is at a stage after the line.
pub record Ran (at : Stage) (l : Line) (s : Run) (more : List ℕ) : Type 0 where
  pub next : Stage
  pub is : IsAt s next
  pub runs : RunsLine at l next more

pub line_ran : (l : Line) (r s : Run) → IsRun r → (p : RanLine r l s) → (at : Stage) → IsAt r at → Ran at l s p.prints.more
line_ran l r s run p at is =
    let b = beginning l r at p.mid run is p.begins in
    let e = p.last.run_state in
    let next : Stage = record { stored = after_groups b.mid.stored e.groups; run_state = anew e; is_holding = s.is_holding } in
    let stored : next.stored ≡ p.last.keeper.state = sym (all_stored p.last b.mid.stored p.ready (p.moves.from b.mid.stored b.from)) in
    record {
      next = next;
      is = record {
        stored = stored ∙ sym (ap (λ (d : DeskState MemoryState). d.keeper.state) p.anew);
        run_state = sym (ap (λ (d : DeskState MemoryState). d.run_state) p.anew);
        holding = refl;
      };
      runs = record {
        mid = b.mid;
        begins = b.begins;
        steps = p.steps;
        are = p.are;
        last = e;
        runs = subst (λ (u : DeskRunState). DeskRun u (p.steps ++ endings s.is_holding) e) (sym b.run_state) p.moves.runs;
        holding = p.holding ∙ ap (λ (was : Bool). holds_after l was) (sym is.holding);
        prints = p.prints.prints;
        answers = subst (λ (x : ServerState). AnswersStand x e.groups may_ask_any e) (sym (b.stored ∙ is.stored)) p.answers;
        stored = refl;
        run_state = refl;
      };
    }

-- a line of bytes that are not empty runs what they say
pub says : (bytes : List ℕ) (l : Line) (at next : Stage) (more : List ℕ) → bytes ≢ [] → parsed bytes ≡ Some l → RunsLine at l next more → RunsBytes at bytes next more
says [] l at next more some is runs = absurd (some refl)
says (b ∷ bytes) l at next more some is runs = (l, is, runs)

-- an empty one runs nothing
pub nothing_says : (bytes : List ℕ) (at : Stage) → bytes ≡ [] → RunsBytes at bytes at []
nothing_says bytes at e = subst (λ (bs : List ℕ). RunsBytes at bs at []) (sym e) (refl, refl)

-- a run whose count alone is another stands where it stood
counted : (r w : Run) (n : ℕ) (at : Stage) → w ≡ record r { begun = w.begun } → IsAt r at → IsAt (record w { lines = n }) at
counted r w n at same is = record {
  stored = is.stored ∙ ap (λ (x : Run). x.machine.desk.keeper.state) (sym same);
  run_state = is.run_state ∙ ap (λ (x : Run). x.machine.desk.run_state) (sym same);
  holding = is.holding ∙ ap (λ (x : Run). x.is_holding) (sym same);
}

-- a line of bytes that say one ran
pub some_ran : (r w s : Run) (n : ℕ) (bytes : List ℕ) (l : Line) → w ≡ record r { begun = w.begun } → w.begun.items ≡ [] → n ≡ r.lines + 1 → SaysLine bytes (Some l) → IsRun (record w { lines = n }) → RanLine (record w { lines = n }) l s → RanBytes r bytes s
some_ran r w s n bytes l same none count said run ran = record {
  run = ran.run;
  more = ran.prints.more;
  runs = λ at is.
      let x = line_ran l (record w { lines = n }) s run ran at (counted r w n at same is) in
      (x.next, x.is, says bytes l at x.next ran.prints.more said.0 said.1 x.runs);
  text = ran.prints.is ∙ ap (λ (x : Run). string_bytes x.text ++ ran.prints.more) same;
  begun = ap (λ v. v.items) ran.begun ∙ none;
  lines = ran.lines ∙ count;
}

-- an empty one
pub none_ran : (r w : Run) (n : ℕ) (bytes : List ℕ) → w ≡ record r { begun = w.begun } → w.begun.items ≡ [] → n ≡ r.lines + 1 → bytes ≡ [] → IsRun (record w { lines = n }) → RanBytes r bytes (record w { lines = n })
none_ran r w n bytes same none count empty run = record {
  run = run;
  more = [];
  runs = λ at is. (at, counted r w n at same is, nothing_says bytes at empty);
  text = ap (λ (x : Run). string_bytes x.text) same ∙ sym (append-nil (string_bytes r.text));
  begun = none;
  lines = count;
}
