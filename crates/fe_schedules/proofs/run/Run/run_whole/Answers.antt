use Rattle.std.proofs.Common.{List, ℕ, [], ◌∷◌, ◌++◌, refl, sym, subst, string_bytes}
use Rattle.fe_schedules.specs.Schedule.{of_stream}
use Rattle.fe_schedules.specs.Runs.{Ended}
use Rattle.fe_text.proofs.Results.{failed}
use Rattle.fe_schedules.proofs.Taking.{took_line, line_fails, wrote, write_fails}
use Rattle.fe_schedules.proofs.run.Run.run_whole.Goals as goal

pub returns-in_err-end_line-clause-taken : goal.returns-in_err-end_line-clause-taken
returns-in_err-end_line-clause-taken g c = λ read before so none.
    let end = c.in_err-end_line.field-0.0 in
    rw (failed c.from_residual.result end c.from_residual.ensures.1)
    (line_fails (g.W.Sink.has_failed c.args.writer.now) end read before (g.W.Sink.contents c.args.writer.now) c.args.self.now c.args.bytes.now (string_bytes c.end_line.new.self.text) so none c.in_err-end_line.ensures.err c.in_err-end_line.ensures.text)

pub returns-then-len-lt-FULL-clause-taken : goal.returns-then-len-lt-FULL-clause-taken
returns-then-len-lt-FULL-clause-taken g c = λ read before so none.
    took_line read before (g.W.Sink.contents c.args.writer.now) c.args.self.now c.end_line.new.self c.args.bytes.now so none c.in_ok-end_line.ensures.ran

pub returns-in_err-write_whole-clause-taken : goal.returns-in_err-write_whole-clause-taken
returns-in_err-write_whole-clause-taken g c = λ read before so none.
    let now = g.W.Sink.contents c.args.writer.now in
    let after = g.W.Sink.contents c.write_whole.new.self in
    let r = c.end_line.new.self in
    let all : List ℕ = read ++ (c.args.bytes.now ++ 10 ∷ []) in
    let mid = took_line read before now c.args.self.now r c.args.bytes.now so none c.in_ok-end_line.ensures.ran in
    let end = c.in_err-write_whole.field-0.0 in
    let front = c.write_whole.ensures.front in
    rw (failed c.from_residual-in_err-write_whole.result (of_stream end) c.from_residual-in_err-write_whole.ensures.1)
    (λ others. subst (λ (kept : List ℕ). Ended (g.W.Sink.has_failed c.write_whole.new.self) (of_stream end) (all ++ others) before after kept) (sym c.write_whole.ensures.cleared) (write_fails (g.W.Sink.has_failed c.write_whole.new.self) end c.in_err-write_whole.ensures.fails all before now after r front.0 mid front.1 others))

pub returns-clause-taken : goal.returns-clause-taken
returns-clause-taken g c = λ read before so none.
    let now = g.W.Sink.contents c.args.writer.now in
    let after = g.W.Sink.contents c.write_whole.new.self in
    let r = c.end_line.new.self in
    let all : List ℕ = read ++ (c.args.bytes.now ++ 10 ∷ []) in
    let mid = took_line read before now c.args.self.now r c.args.bytes.now so none c.in_ok-end_line.ensures.ran in
    wrote all before now after r (record r { text = c.write_whole.new.text }) mid c.in_ok-write_whole.ensures.ok refl c.write_whole.ensures.cleared
