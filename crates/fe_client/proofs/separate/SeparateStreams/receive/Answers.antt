use Rattle.std.proofs.Common.{take, refl}
use Rattle.fe_client.proofs.Separates.{and_names, receive_flows, none_received}
use Rattle.fe_client.proofs.separate.SeparateStreams.receive.Goals as goal

pub returns-clause-happened : goal.returns-clause-happened
returns-clause-happened g c =
    let s = c.args.self.now in
    let sent = g.C.Connection.sent in
    let received = g.C.Connection.received in
    and_names c.receive.result _ _ (λ count. none_received (g.W.Sink.is_handed_on s.writer.now) (take count c.receive.new.buffer)) refl refl refl (λ count reads. reads)
    (receive_flows c.receive.result (g.R.Source.remaining s.reader.now) (sent s.connection.now) (sent c.receive.new.self) (received s.connection.now) (received c.receive.new.self) (g.W.Sink.contents s.writer.now)
    c.receive.new.buffer c.receive.ensures.received c.receive.ensures.sent)
