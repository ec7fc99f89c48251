use Rattle.std.proofs.Common.{List, ℕ, ◌++◌, refl, string_bytes}
use Rattle.fe_schedules.specs.Schedule.{of_stream}
use Rattle.fe_text.proofs.Results.{match_then, either_of, failed}
use Rattle.fe_schedules.proofs.Taking.{wrote, write_fails, wrote_end, write_end_fails}
use Rattle.fe_schedules.proofs.run.Run.take_piece.Goals as goal

pub returns-in_err-write_whole-clause-taken : goal.returns-in_err-write_whole-clause-taken
returns-in_err-write_whole-clause-taken g c = λ read before so.
    let now = g.W.Sink.contents c.run_lines-ended.new.writer in
    let after = g.W.Sink.contents c.write_whole.new.self in
    let r = c.run_lines-ended.new.self in
    let all : List ℕ = read ++ c.args.piece.now in
    let front = c.write_whole.ensures.front in
    let end = c.in_err-write_whole.field-0.0 in
    rw (failed c.from_residual.result (of_stream end) c.from_residual.ensures.1)
    (λ others. either_of c.run_lines-ended.result
    (λ mid. write_fails (g.W.Sink.has_failed c.write_whole.new.self) end c.in_err-write_whole.ensures.fails all before now after r front.0 mid front.1 others)
    (λ first ended. write_end_fails (g.W.Sink.has_failed c.run_lines-ended.new.writer) (g.W.Sink.has_failed c.write_whole.new.self) first end c.in_err-write_whole.ensures.fails (all ++ others) before now after (string_bytes r.text) front.0 (ended others) front.1)
    (c.run_lines-ended.ensures.taken read before so))

pub returns-clause-taken : goal.returns-clause-taken
returns-clause-taken g c = λ read before so.
    let now = g.W.Sink.contents c.run_lines-ended.new.writer in
    let after = g.W.Sink.contents c.write_whole.new.self in
    let r = c.run_lines-ended.new.self in
    let all : List ℕ = read ++ c.args.piece.now in
    match_then c.run_lines-ended.result
    (λ mid. wrote all before now after r (record r { text = c.write_whole.new.text }) mid c.in_ok-write_whole.ensures.ok refl c.write_whole.ensures.cleared)
    (λ end ended others. wrote_end (g.W.Sink.has_failed c.run_lines-ended.new.writer) (g.W.Sink.has_failed c.write_whole.new.self) end (all ++ others) before now after (string_bytes r.text) c.write_whole.ensures.stays (ended others) c.in_ok-write_whole.ensures.ok)
    (c.run_lines-ended.ensures.taken read before so)
