use Rattle.std.proofs.Common.{◌≡◌, refl, ap, inl}
use Rattle.fe_schedules.specs.Schedule.{of_machine, of_stream, ReaderFails}
use Rattle.fe_schedules.proofs.Starting.{nothing_read, of_store}
use Rattle.fe_schedules.proofs.schedule.run_schedule.Goals as goal

pub returns-in-Err-clause-fault : goal.returns-in-Err-clause-fault
returns-in-Err-clause-fault g c =
    let r = c.args.reader.now in
    let end = c.in-Err.fault in
    rw c.from.ensures
    (nothing_read (ReaderFails g.R.Source.has_failed g.R.Source.was_read r r) (g.W.Sink.has_failed c.args.writer.now) (r ≡ r) (of_stream end)
    (g.R.Source.remaining r) (g.W.Sink.contents c.args.writer.now) (inl (ap of_stream c.in-Err.ensures.err)) refl)

pub returns-in-Err-new-clause-fault : goal.returns-in-Err-new-clause-fault
returns-in-Err-new-clause-fault g c =
    let r = c.args.reader.now in
    let end = c.in-Err-new.fault in
    rw c.from-in-Err-new.ensures
    (nothing_read (ReaderFails g.R.Source.has_failed g.R.Source.was_read r r) (g.W.Sink.has_failed c.args.writer.now) (r ≡ r) (of_machine end)
    (g.R.Source.remaining r) (g.W.Sink.contents c.args.writer.now) (of_store end) refl)

pub run_all-ended-requires-clause-begins : goal.run_all-ended-requires-clause-begins
run_all-ended-requires-clause-begins g c = c.in-Ok-new.ensures.begins (g.W.Sink.contents c.args.writer.now)
