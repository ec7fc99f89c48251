use Rattle.std.proofs.Common.{sym, ap, is_some, ◌∙◌}
use Rattle.fe_mail.proofs.HashedMaps.{get_seen}
use Rattle.fe_mail.proofs.connections.Connections.is_connected.Goals as goal

pub returns : goal.returns
returns c = c.contains_key.ensures ∙ sym (ap is_some (get_seen c.self.inside.connections c.args.self.now c.self.view_is c.args.conn))
