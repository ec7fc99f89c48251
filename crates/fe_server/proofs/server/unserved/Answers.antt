use Rattle.fe_server.proofs.Ends.{none_committed}
use Rattle.fe_server.proofs.server.unserved.Goals as goal

pub returns-clause-committed : goal.returns-clause-committed
returns-clause-committed g c = none_committed g.D.Disk g.met.D.Disk.only_now c.args.keeper c.state.ensures.durable
