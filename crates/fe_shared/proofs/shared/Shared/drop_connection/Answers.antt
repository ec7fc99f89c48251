use Rattle.fe_shared.proofs.Marks.{gone_marked}
use Rattle.fe_shared.proofs.shared.Shared.drop_connection.Goals as goal

pub invariant_of-self : goal.invariant_of-self
invariant_of-self g c =
    let s = c.self.inside in
    (gone_marked s.front c.gone.new.self c.args.conn s.posted s.history c.gone.ensures.dropped c.self.invariant.0, c.self.invariant.1)
