use Rattle.std.proofs.Common.{sym}
use Rattle.fe_text.proofs.Results.{then_ok, err_then}
use Rattle.fe_client.proofs.Talks.{line_done, line_ends}
use Rattle.fe_client.proofs.talk.Talk.take_line.Goals as goal

pub returns-in-Some-clause-ok : goal.returns-in-Some-clause-ok
returns-in-Some-clause-ok g c =
    then_ok c.exchange.result (line_done g.E.Streams.leads c.args.line.now c.in-Some.message c.args.self.now.reads c.exchange.new.self.reads c.args.streams.now c.exchange.new.streams (sym c.in-Some.ensures.message)) c.exchange.ensures.ok

pub returns-in-Some-clause-err : goal.returns-in-Some-clause-err
returns-in-Some-clause-err g c =
    err_then c.exchange.result
    (λ end d. line_ends g.E.Streams.leads end (g.E.Streams.because c.exchange.new.streams) c.args.number c.args.self.now.reads c.args.line.now c.in-Some.message c.args.streams.now c.exchange.new.streams (sym c.in-Some.ensures.message) d)
    c.exchange.ensures.err
