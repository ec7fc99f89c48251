use Rattle.std.proofs.Common.{rules}
use Rattle.fe_desk.proofs.Bits.{bit_added, bit_still}
use Rattle.fe_desk.proofs.port_set.PortSet.add.Goals as goal

pub returns-clause-added : goal.returns-clause-added
returns-clause-added c = bit_added c.args.self.now.words c.args.at (search rules)

pub returns-clause-still : goal.returns-clause-still
returns-clause-still c = bit_still c.args.self.now.words c.args.at (search rules)
