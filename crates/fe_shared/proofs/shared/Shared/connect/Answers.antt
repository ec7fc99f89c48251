use Rattle.fe_shared.proofs.Marks.{connected_marked}
use Rattle.fe_shared.proofs.shared.Shared.connect.Goals as goal

pub invariant_of-self-2 : goal.invariant_of-self-2
invariant_of-self-2 g c =
    let s = c.self.inside in
    let e = c.connect.ensures in
    (connected_marked s.front c.connect.new.self c.args.conn c.connect.result s.posted s.history e.connected e.err c.self.invariant.0, c.self.invariant.1)
