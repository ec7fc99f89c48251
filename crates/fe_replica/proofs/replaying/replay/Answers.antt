use Rattle.fe_replica.proofs.Replayed.{replay_goes_on}
use Rattle.fe_replica.proofs.replaying.replay.Goals as goal

pub loop-rest-preserved : goal.loop-rest-preserved
loop-rest-preserved c = replay_goes_on c.args.format c.args.payload.now c.loop-rest.rest.now c.in-Ok.behind.now c.args.state.now c.loop-rest.state c.replay_one.new.state c.loop-rest.invariant c.in-Ok.ensures.ok
