use Rattle.fe_desk.proofs.Replies.{replies_put}
use Rattle.fe_desk.proofs.written.Written.put.Goals as goal

pub invariant_of-self : goal.invariant_of-self
invariant_of-self c =
    replies_put c.put.result c.self.inside.bytes.items c.put.new.out.items c.args.reply.now c.self.invariant c.put.ensures.fits c.put.ensures.ok c.put.ensures.err
