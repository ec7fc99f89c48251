use Rattle.std.proofs.Common.{sym, ◌∙◌}
use Rattle.fe_mail.proofs.ConnectionLemmas.{with_session-at}
use Rattle.fe_mail.proofs.HashedMaps.{seen_written, get_lent, lent_some}
use Rattle.fe_mail.proofs.connections.Connections.set_session.Goals as goal

pub unwrap-connection-requires : goal.unwrap-connection-requires
unwrap-connection-requires c = lent_some c.self.inside.connections c.args.self.now c.self.view_is c.args.conn c.get_mut.result c.get_mut.ensures.value c.requires.connected

pub returns : goal.returns
returns c =
    let here = get_lent c.self.inside.connections c.args.self.now c.self.view_is c.args.conn c.get_mut.result c.get_mut.ensures.value c.unwrap-connection.result c.unwrap-connection.ensures in
    seen_written c.self.inside.connections _ c.args.self.now c.self.view_is c.args.conn _ (c.get_mut.follows.holds _) c.requires.connected
    ∙ sym (with_session-at c.args.self.now c.args.conn c.unwrap-connection.result.now here c.args.session)
