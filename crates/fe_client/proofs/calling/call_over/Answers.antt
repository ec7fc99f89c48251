use Rattle.std.proofs.Common.{rules}
use Rattle.fe_client.proofs.Separates.{until_known}
use Rattle.fe_client.proofs.calling.call_over.Goals as goal

pub returns-clause-fault : goal.returns-clause-fault
returns-clause-fault g c =
    let new = c.converse.new.streams in
    until_known g.R.Source.remaining g.C.Connection.sent g.C.Connection.received g.W.Sink.contents g.C.Connection.is_over g.R.Source.has_failed g.W.Sink.has_failed g.R.Source.was_read g.W.Sink.is_handed_on (g.W.Sink.is_handed_on c.args.writer.now)
    new.reader.now new.connection.now new.writer.now _ _ new _ _ _ _ c.converse.result c.converse.ensures.fault
    (λ events p. (p.0, p.1, search rules, search rules, search rules))
