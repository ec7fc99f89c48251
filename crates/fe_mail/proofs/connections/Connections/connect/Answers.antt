use Rattle.std.proofs.Common.{None, ap, ◌∙◌}
use Rattle.std.specs.FinMap.{insert}
use Rattle.fe_mail.proofs.HashedMaps.{seen_inserted}
use Rattle.fe_mail.proofs.connections.Connections.connect.Goals as goal

pub returns-clause-connected : goal.returns-clause-connected
returns-clause-connected c =
    seen_inserted c.self.inside.connections c.insert.new.self c.args.self.now c.self.view_is c.args.conn _ c.in_ok-insert.ensures.updates
    ∙ ap (λ mails. insert c.args.self.now c.args.conn (record { session = None; mails = mails })) c.in_ok-mails.ensures
