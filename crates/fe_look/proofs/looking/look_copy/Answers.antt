use Rattle.std.proofs.lemmas.Result.{on_ok_weaker}
use Rattle.fe_look.proofs.LookLemmas.{shows_nothing, shows_store, stands_in_store, reason_of_store}
use Rattle.fe_look.proofs.looking.look_copy.Goals as goal

pub returns-clause-shows : goal.returns-clause-shows
returns-clause-shows g c = λ honest.
    on_ok_weaker c.look_at.result.0 (shows_store (g.D.Disk.seen c.args.disk.now) c.in_ok-copy.copy.image (c.in_ok-copy.ensures.copy honest) (g.W.Sink.contents c.args.writer.now) (g.W.Sink.contents c.look_at.new.writer))
    (c.look_at.ensures.shows c.in_ok-copy.ensures.honest)

pub returns-clause-refused : goal.returns-clause-refused
returns-clause-refused g c = λ honest why is.
    reason_of_store (g.D.Disk.seen c.args.disk.now) c.in_ok-copy.copy.image (c.in_ok-copy.ensures.copy honest) why (c.look_at.ensures.refused c.in_ok-copy.ensures.honest why is)

pub returns-clause-opened : goal.returns-clause-opened
returns-clause-opened g c = λ honest why is.
    let found = c.look_at.ensures.opened c.in_ok-copy.ensures.honest why is in
    (found.0, stands_in_store (g.D.Disk.seen c.args.disk.now) c.in_ok-copy.copy.image (c.in_ok-copy.ensures.copy honest) found.0 found.1)

pub returns-in_err-copy-clause-front : goal.returns-in_err-copy-clause-front
returns-in_err-copy-clause-front g c = shows_nothing (g.W.Sink.contents c.args.writer.now)
