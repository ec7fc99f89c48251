use Rattle.std.proofs.Common.{◌+◌, ◌≤◌, ℕ, length, subst}
use Rattle.std.proofs.lemmas.Result.{err_from_is_err_and}
use Rattle.fe_wire.specs.Spelling.{reply_spelling}
use Rattle.fe_text.proofs.Results.{failed}
use Rattle.fe_client.specs.Ends.{Unanswered}
use Rattle.fe_client.proofs.Talks.{unprinted, sending_ends, receiving_ends, printing_ends, exchanged}
use Rattle.fe_client.proofs.talk.Talk.exchange.Goals as goal

pub returns-in_err-send-clause-err : goal.returns-in_err-send-clause-err
returns-in_err-send-clause-err g c =
    let end = c.in_err-send.field-0.0 in
    let front = c.send.ensures.front in
    rw (failed c.from_residual.result end c.from_residual.ensures.1)
    (sending_ends g.E.Streams.leads end (g.E.Streams.because c.send.new.streams) c.args.self.now.reads c.args.message.now c.args.streams.now c.send.new.streams front.0 front.1 front.2 c.in_err-send.ensures.err)

pub returns-in_err-reply-clause-err : goal.returns-in_err-reply-clause-err
returns-in_err-reply-clause-err g c =
    let over = g.E.Streams.because c.receive.new.streams in
    let end = c.in_err-reply.field-0.0 in
    let e = c.in_err-reply.ensures.err in
    rw (failed c.from_residual-in_err-reply.result end c.from_residual-in_err-reply.ensures.1)
    (receiving_ends g.E.Streams.leads g.met.E.Streams.joins end over c.args.self.now.reads c.args.message.now c.args.streams.now c.send.new.streams c.receive.new.streams
    e.0 c.in_ok-send.ensures.ok e.1 (subst (λ (n : ℕ). Unanswered end over n e.0) c.send.ensures.reads e.2))

pub returns-in_err-print-clause-err : goal.returns-in_err-print-clause-err
returns-in_err-print-clause-err g c =
    let reply = c.in_ok-reply.ensures.reply in
    let front = c.in_err-print.ensures.err in
    let told = err_from_is_err_and c.from_residual-in_err-print.result c.from_residual-in_err-print.ensures.1 in
    rw told.1
    (printing_ends g.E.Streams.leads g.met.E.Streams.joins told.0 (g.E.Streams.because c.print.new.streams) c.args.self.now.reads c.args.message.now c.in_ok-reply.reply c.args.streams.now c.send.new.streams c.receive.new.streams c.print.new.streams
    front.0 c.in_ok-send.ensures.ok reply.0 reply.1 front.1 front.2 (unprinted told.0 (g.E.Streams.because c.print.new.streams) c.in_err-print.field-0.0 told.2 c.in_err-print.ensures.fails))

pub returns-clause-ok : goal.returns-clause-ok
returns-clause-ok g c =
    let reply = c.in_ok-reply.ensures.reply in
    let few = subst (λ (n : ℕ). c.receive.new.self.reads ≤ n + length (reply_spelling c.in_ok-reply.reply)) c.send.ensures.reads c.in_ok-reply.ensures.reads in
    exchanged g.E.Streams.leads g.met.E.Streams.joins c.args.message.now c.in_ok-reply.reply c.args.self.now.reads c.receive.new.self.reads c.print.new.self.reads c.args.streams.now c.send.new.streams c.receive.new.streams c.print.new.streams
    c.in_ok-send.ensures.ok reply.0 reply.1 c.in_ok-print.ensures.ok few c.print.ensures.reads
