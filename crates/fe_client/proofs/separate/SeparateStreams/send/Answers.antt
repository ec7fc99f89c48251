use Rattle.std.proofs.Common.{take, refl}
use Rattle.fe_client.proofs.Separates.{and_names, send_flows, none_sent}
use Rattle.fe_client.proofs.separate.SeparateStreams.send.Goals as goal

pub returns-clause-happened : goal.returns-clause-happened
returns-clause-happened g c =
    let s = c.args.self.now in
    let sent = g.C.Connection.sent in
    let received = g.C.Connection.received in
    and_names c.send.result _ _ (λ count. none_sent (g.W.Sink.is_handed_on s.writer.now) (take count c.args.bytes.now)) refl refl refl (λ count reads. reads)
    (send_flows c.send.result (g.R.Source.remaining s.reader.now) (sent s.connection.now) (sent c.send.new.self) (received s.connection.now) (received c.send.new.self) (g.W.Sink.contents s.writer.now)
    c.args.bytes.now c.send.ensures.sent c.send.ensures.received)
