use Rattle.std.proofs.Common.{◌≡◌, rules}
use Rattle.fe_client.specs.Events.{reply_text}
use Rattle.fe_client.proofs.Talks.{unflushed}
use Rattle.fe_client.proofs.talk.Talk.print.Goals as goal

pub returns-clause-err : goal.returns-clause-err
returns-clause-err g c =
    let is : c.as_bytes.result.now ≡ reply_text c.args.reply.now = search rules in
    unflushed g.E.Streams.leads g.met.E.Streams.joins c.flush.result c.args.streams.now c.write.new.self c.flush.new.self c.as_bytes.result.now (reply_text c.args.reply.now) is c.in_ok-write.ensures.ok c.flush.ensures.err
