use Rattle.std.proofs.Common.{ap, ◌∙◌}
use Rattle.fe_mail.specs.Connections.{session_on}
use Rattle.fe_front.proofs.Attaching.{departed-free}
use Rattle.fe_front.proofs.front.Front.gone.Goals as goal

pub unbox-requires : goal.unbox-requires
unbox-requires c = record { free = ap (λ f. session_on f.connections c.args.conn) c.depart-count.ensures.departed ∙ departed-free c.args.self.now c.args.conn }
