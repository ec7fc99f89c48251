use Rattle.std.proofs.Common.{◌≡◌, List, ℕ, [], ◌∷◌, ◌++◌, sym, ap, subst, ◌∙◌, append_assoc, string_bytes}
use Rattle.fe_schedules.specs.Runs.{IsRun, SoFar, Ended}
use Rattle.fe_text.proofs.Results.{match_of, then_ok, ok_both, err_then, failed}
use Rattle.fe_schedules.proofs.Taking.{regrouped, taken_more, none_taken, took_front, front_fails}
use Rattle.fe_schedules.proofs.run.Run.run_lines.Goals as goal

pub loop-line-init : goal.loop-line-init
loop-line-init g c = record { run = c.requires; taken = none_taken (g.W.Sink.contents c.args.writer.now) c.args.self.now c.args.piece.now }

pub returns-in_err-run_whole-clause-taken : goal.returns-in_err-run_whole-clause-taken
returns-in_err-run_whole-clause-taken g c = λ read before so.
    let t = c.loop-line.invariant.taken in
    let end = c.in_err-run_whole.field-0.0 in
    let ended = c.in_err-run_whole.ensures.taken (read ++ t.taken) before (t.so read before so) c.in-Some.ensures.first in
    rw (failed c.from_residual.result end c.from_residual.ensures.1)
    (λ others. subst (λ (input : List ℕ). Ended (g.W.Sink.has_failed c.run_whole.new.writer) end input before (g.W.Sink.contents c.run_whole.new.writer) (string_bytes c.run_whole.new.self.text))
    (regrouped read t.taken c.in-Some.line.now c.in-Some.behind.now others c.args.piece.now c.loop-line.rest.now t.parts c.in-Some.ensures.parts) (ended (c.in-Some.behind.now ++ others)))

pub loop-line-preserved : goal.loop-line-preserved
loop-line-preserved g c =
    let t = c.loop-line.invariant.taken in
    let ends : List ℕ = c.in-Some.line.now ++ 10 ∷ [] in
    record {
      run = c.in_ok-run_whole.ensures.run;
      taken = record {
        taken = t.taken ++ ends;
        parts = taken_more t.taken c.in-Some.line.now c.in-Some.behind.now c.args.piece.now c.loop-line.rest.now t.parts c.in-Some.ensures.parts;
        so = λ read before so. subst (λ (x : List ℕ). SoFar x before (g.W.Sink.contents c.run_whole.new.writer) c.run_whole.new.self) (append_assoc read t.taken ends)
            (c.in_ok-run_whole.ensures.taken (read ++ t.taken) before (t.so read before so) c.in-Some.ensures.first);
      };
    }

pub returns-clause-taken : goal.returns-clause-taken
returns-clause-taken g c = λ read before so.
    let t = c.loop-line.invariant.taken in
    let rest = c.loop-line.rest.now in
    let mid = t.so read before so in
    let now = g.W.Sink.contents c.loop-line.writer in
    let none = c.in_default.ensures.none in
    let whole : (read ++ t.taken) ++ rest ≡ read ++ c.args.piece.now = append_assoc read t.taken rest ∙ ap (λ (x : List ℕ). read ++ x) (sym t.parts) in
    let kept : string_bytes c.begin_line.new.self.text ≡ string_bytes c.loop-line.self.text = ap (λ r. string_bytes r.text) {y = record c.loop-line.self { begun = c.begin_line.new.self.begun }} c.begin_line.ensures.same in
    let all : List ℕ = read ++ c.args.piece.now in
    let left : List ℕ = string_bytes c.begin_line.new.self.text in
    match_of c.begin_line.result (SoFar all before now c.begin_line.new.self) (λ end. (others : List ℕ) → Ended (g.W.Sink.has_failed c.loop-line.writer) end (all ++ others) before now left)
    (then_ok c.begin_line.result (λ both. subst (λ (x : List ℕ). SoFar x before now c.begin_line.new.self) whole (took_front (read ++ t.taken) before now c.loop-line.self c.begin_line.new.self rest mid none c.begin_line.ensures.same both.0 both.1))
    (ok_both c.begin_line.result (IsRun c.begin_line.new.self) (c.begin_line.new.self.begun.items ≡ c.loop-line.self.begun.items ++ rest) c.begin_line.ensures.run c.begin_line.ensures.begun))
    (err_then c.begin_line.result
    (λ end long others. subst (λ (x : List ℕ). Ended (g.W.Sink.has_failed c.loop-line.writer) end (x ++ others) before now (string_bytes c.begin_line.new.self.text)) whole
    (front_fails (g.W.Sink.has_failed c.loop-line.writer) end (read ++ t.taken) before now c.loop-line.self rest (string_bytes c.begin_line.new.self.text) mid none long kept others)) c.begin_line.ensures.err)
