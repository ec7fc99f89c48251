use Rattle.std.proofs.Common.{ap, sym, ◌∙◌}
use Rattle.fe_shared.specs.Seats.{first_call_seat, first_mail_seat}
use Rattle.fe_server.proofs.Leavings.{taken_issued}
use Rattle.fe_server.proofs.Transcripts.{transcript_of}
use Rattle.fe_server.proofs.arrival.Arrival.serve.Goals as goal

pub leave-requires-clause-transcript : goal.leave-requires-clause-transcript
leave-requires-clause-transcript g c =
    let served = c.serve-connection.result in
    let sides = served.1 in
    let same = c.args.self.own ∙ sym (ap (λ admission. admission.conn) c.serve-connection.ensures.admission) in
    transcript_of served.0.socket.from.received served.0.socket.to.writer.sent served.0.admission.conn
    c.begin-calls.result.0 sides.read.seat sides.read.sent.items sides.read.end c.begin-calls.result.1 sides.write.seat sides.write.receipts.items sides.write.end
    (c.begin-calls.ensures.calls ∙ ap first_call_seat same) (c.begin-calls.ensures.mails ∙ ap first_mail_seat same)
    c.serve-connection.ensures.handled (c.serve-connection.ensures.sent.0, c.serve-connection.ensures.sent.1, c.serve-connection.ensures.sent.2)

pub leave-requires-clause-issued : goal.leave-requires-clause-issued
leave-requires-clause-issued g c =
    let served = c.serve-connection.result in
    let sides = served.1 in
    let same = c.args.self.own ∙ sym (ap (λ admission. admission.conn) c.serve-connection.ensures.admission) in
    let sent = c.serve-connection.ensures.sent in
    taken_issued served.0.admission.conn c.begin-calls.result.1 sides.write.seat sides.write.receipts.items sent.0 sides.write.receipts.history
    (c.begin-calls.ensures.mails ∙ ap first_mail_seat same) sent.1 sent.3
