use Rattle.std.proofs.Common.{sym, ap, ◌∙◌}
use Rattle.std.specs.Prelude.{option_and_then}
use Rattle.fe_mail.specs.declared.connection.Connection.{Connection}
use Rattle.fe_mail.proofs.HashedMaps.{get_seen}
use Rattle.fe_mail.proofs.connections.Connections.session_of.Goals as goal

pub returns-in-Some : goal.returns-in-Some
returns-in-Some c = ap (option_and_then (λ (x : Connection). x.session)) (c.in-Some.ensures.value ∙ sym (get_seen c.self.inside.connections c.args.self.now c.self.view_is c.args.conn))

pub returns-in-None : goal.returns-in-None
returns-in-None c = ap (option_and_then (λ (x : Connection). x.session)) (c.in-None.ensures.value ∙ sym (get_seen c.self.inside.connections c.args.self.now c.self.view_is c.args.conn))
