use Rattle.std.proofs.Common.{take, refl}
use Rattle.fe_text.proofs.Results.{then_ok}
use Rattle.fe_client.proofs.Separates.{written_flows, on_err, hands_text, hands_front}
use Rattle.fe_client.proofs.separate.SeparateStreams.write.Goals as goal

pub returns-clause-ok : goal.returns-clause-ok
returns-clause-ok g c =
    let s = c.args.self.now in
    then_ok c.write_text.result
    (λ p. (written_flows (g.R.Source.remaining s.reader.now) (g.C.Connection.sent s.connection.now) (g.C.Connection.received s.connection.now) (g.W.Sink.contents s.writer.now) (g.W.Sink.contents c.write_text.new.self) c.args.text.now p, hands_text (g.W.Sink.is_handed_on s.writer.now) (g.W.Sink.is_handed_on c.write_text.new.self) c.args.text.now c.write_text.ensures.idle, refl, refl, refl, λ count reads. reads))
    c.write_text.ensures.ok

pub returns-clause-err : goal.returns-clause-err
returns-clause-err g c =
    let s = c.args.self.now in
    let front = c.write_text.ensures.front in
    on_err c.write_text.result
    (front.0, (written_flows (g.R.Source.remaining s.reader.now) (g.C.Connection.sent s.connection.now) (g.C.Connection.received s.connection.now) (g.W.Sink.contents s.writer.now) (g.W.Sink.contents c.write_text.new.self) (take front.0 c.args.text.now) front.1, hands_front (g.W.Sink.is_handed_on s.writer.now) (g.W.Sink.is_handed_on c.write_text.new.self) front.0 c.args.text.now front.2 c.write_text.ensures.idle, refl, refl, refl, λ count reads. reads))
