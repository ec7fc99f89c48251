use Rattle.std.proofs.Common.{sym, ◌∙◌}
use Rattle.fe_front.proofs.Admitted.{cancels}
use Rattle.fe_front.proofs.front.Front.cancel.Goals as goal

pub returns-clause-session : goal.returns-clause-session
returns-clause-session c =
    (cancels c.args.self.now c.args.conn c.in_ok-session.session c.args.number (sym c.cancelling.ensures ∙ c.in_ok-session.was)).has
