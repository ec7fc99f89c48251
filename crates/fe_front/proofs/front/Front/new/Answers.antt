use Rattle.fe_front.proofs.First.{first_sound}
use Rattle.fe_front.proofs.front.Front.new.Goals as goal

pub invariant_of-result : goal.invariant_of-result
invariant_of-result c =
    first_sound c.args.state c.in_ok-service.service c.new-3.result c.new-4.result c.place-durable.result c.in-Ok.spare
    c.in_ok-service.ensures.state c.in_ok-service.ensures.attachments c.in_ok-service.ensures.waiting c.in_ok-service.ensures.pending
    c.new-3.ensures c.place-durable.ensures.place c.new-4.ensures.balance c.in-Ok.ensures
