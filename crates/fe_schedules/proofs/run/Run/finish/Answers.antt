use Rattle.std.proofs.Common.{List, ℕ, [], string_bytes}
use Rattle.fe_text.specs.declared.fault.StreamFault.{StreamFault}
use Rattle.fe_schedules.specs.Schedule.{of_stream}
use Rattle.fe_schedules.specs.Runs.{last_disk}
use Rattle.fe_text.proofs.Results.{either_of, failed}
use Rattle.fe_schedules.proofs.Taking.{wrote_whole, write_whole_fails, wrote_end, write_end_fails, keeps_none}
use Rattle.fe_schedules.proofs.run.Run.finish.Goals as goal

pub returns-in_err-write_whole-clause-ended : goal.returns-in_err-write_whole-clause-ended
returns-in_err-write_whole-clause-ended g c = λ read before so.
    let now = g.W.Sink.contents c.args.writer.now in
    let after = g.W.Sink.contents c.write_whole.new.self in
    let kept : List ℕ = string_bytes c.end_last-ended.new.self.text in
    let front = c.write_whole.ensures.front in
    let end = c.in_err-write_whole.field-0.0 in
    let writer : StreamFault → Type 0 = g.W.Sink.has_failed c.write_whole.new.self in
    let fails = c.in_err-write_whole.ensures.fails in
    rw (failed c.from_residual.result (of_stream end) c.from_residual.ensures.1)
    (either_of c.end_last-ended.result
    (λ whole. write_whole_fails writer end fails read before now after kept (last_disk c.end_last-ended.new.self.machine) front.0 whole front.1)
    (λ first ended. write_end_fails (λ _. ⊥) writer first end fails read before now after kept front.0 ended front.1)
    (c.end_last-ended.ensures.ended read before now so))

pub returns-in_err-ended-clause-ended : goal.returns-in_err-ended-clause-ended
returns-in_err-ended-clause-ended g c = λ read before so.
    let now = g.W.Sink.contents c.args.writer.now in
    let after = g.W.Sink.contents c.write_whole.new.self in
    let end = c.in_err-ended.field-0.0 in
    rw (failed c.from_residual-in_err-ended.result end c.from_residual-in_err-ended.ensures.1)
    (wrote_end (λ _. ⊥) (g.W.Sink.has_failed c.write_whole.new.self) end read before now after (string_bytes c.end_last-ended.new.self.text) (λ f none. absurd none) (c.in_err-ended.ensures.ended read before now so) c.in_ok-write_whole.ensures.ok)

pub returns-in_err-hand_on-clause-ended : goal.returns-in_err-hand_on-clause-ended
returns-in_err-hand_on-clause-ended g c = λ read before so.
    let now = g.W.Sink.contents c.args.writer.now in
    let after = g.W.Sink.contents c.write_whole.new.self in
    let last = g.W.Sink.contents c.hand_on.new.self in
    let end = c.in_err-hand_on.field-0.0 in
    let whole = wrote_whole read before now after (string_bytes c.end_last-ended.new.self.text) (last_disk c.end_last-ended.new.self.machine) (c.in_ok-ended.ensures.ended read before now so) c.in_ok-write_whole.ensures.ok in
    rw (failed c.from_residual-in_err-hand_on.result (of_stream end) c.from_residual-in_err-hand_on.ensures.1)
    (write_whole_fails (g.W.Sink.has_failed c.hand_on.new.self) end c.in_err-hand_on.ensures.fails read before after last [] (last_disk c.end_last-ended.new.self.machine) 0 whole (keeps_none after last c.hand_on.ensures.keeps))

pub returns-clause-ended : goal.returns-clause-ended
returns-clause-ended g c = λ read before so.
    let now = g.W.Sink.contents c.args.writer.now in
    let after = g.W.Sink.contents c.write_whole.new.self in
    let last = g.W.Sink.contents c.hand_on.new.self in
    let whole = wrote_whole read before now after (string_bytes c.end_last-ended.new.self.text) (last_disk c.end_last-ended.new.self.machine) (c.in_ok-ended.ensures.ended read before now so) c.in_ok-write_whole.ensures.ok in
    wrote_whole read before after last [] (last_disk c.end_last-ended.new.self.machine) whole (keeps_none after last c.hand_on.ensures.keeps)
