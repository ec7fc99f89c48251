use Rattle.std.proofs.Common.{◌≡◌, ◌+◌, ◌++◌, Option, ap, subst, rules}
use Rattle.fe_schedules.specs.Runs.{IsRun, SaysLine}
use Rattle.fe_text.specs.declared.line.Line.{Line}
use Rattle.fe_schedules.specs.declared.run.Run.{Run}
use Rattle.fe_schedules.specs.Schedule.{of_machine}
use Rattle.fe_text.proofs.Results.{failed}
use Rattle.fe_schedules.proofs.Stages.{some_ran, none_ran}
use Rattle.fe_schedules.proofs.Taking.{stray_fault, said_fault}
use Rattle.fe_schedules.proofs.run.Run.end_line.Goals as goal

pub returns-in_ok-run_line-in-Some-clause-ran : goal.returns-in_ok-run_line-in-Some-clause-ran
returns-in_ok-run_line-in-Some-clause-ran c =
    let r = c.args.self.now in
    let w = c.whole_line.new.self in
    let e = c.in_ok-line.ensures in
    let bytes = r.begun.items ++ c.args.bytes.now in
    let count : w.lines + 1 ≡ r.lines + 1 = ap (λ (x : Run). x.lines + 1) e.same in
    let said = subst (λ (o : Option Line). SaysLine bytes o) c.in-Some.is e.said in
    let run : IsRun (record w { lines = w.lines + 1 }) = search rules in
    some_ran r w c.run_line.new.self (w.lines + 1) bytes c.in-Some.line e.same e.begun count said run c.in_ok-run_line-in-Some.ensures.ran

pub returns-in-None-clause-ran : goal.returns-in-None-clause-ran
returns-in-None-clause-ran c =
    let r = c.args.self.now in
    let w = c.whole_line.new.self in
    let e = c.in_ok-line.ensures in
    let bytes = r.begun.items ++ c.args.bytes.now in
    let count : w.lines + 1 ≡ r.lines + 1 = ap (λ (x : Run). x.lines + 1) e.same in
    let run : IsRun (record w { lines = w.lines + 1 }) = search rules in
    none_ran r w (w.lines + 1) bytes e.same e.begun count (subst (λ (o : Option Line). SaysLine bytes o) c.in-None.is e.said) run

pub returns-in_err-line-clause-err : goal.returns-in_err-line-clause-err
returns-in_err-line-clause-err c =
    let r = c.args.self.now in
    let end = c.in_err-line.field-0.0 in
    rw (failed c.from_residual.result end c.from_residual.ensures.1)
    (stray_fault (r.lines + 1) (r.begun.items ++ c.args.bytes.now) end c.in_err-line.ensures.err)

pub returns-in_err-run_line-in-Some-clause-err : goal.returns-in_err-run_line-in-Some-clause-err
returns-in_err-run_line-in-Some-clause-err c =
    let r = c.args.self.now in
    let bytes = r.begun.items ++ c.args.bytes.now in
    let end = c.in_err-run_line-in-Some.field-0.0 in
    let said = subst (λ (o : Option Line). SaysLine bytes o) c.in-Some.is c.in_ok-line.ensures.said in
    rw (failed c.from_residual-in_err-run_line-in-Some.result (of_machine end) c.from_residual-in_err-run_line-in-Some.ensures.1)
    (said_fault (r.lines + 1) bytes c.in-Some.line end said)
