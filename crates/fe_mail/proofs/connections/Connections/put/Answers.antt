use Rattle.std.proofs.Common.{◌++◌, [], ◌∷◌, sym, ap, ◌∙◌}
use Rattle.std.proofs.lemmas.Result.{on_ok_weaker, on_err_weaker}
use Rattle.std.specs.FinMap.{insert}
use Rattle.fe_mail.proofs.ConnectionLemmas.{with_mails-at, mails_on-at, insert_kept}
use Rattle.fe_mail.proofs.HashedMaps.{seen_written, get_lent, lent_some}
use Rattle.fe_mail.proofs.connections.Connections.put.Goals as goal

pub unwrap-connection-requires : goal.unwrap-connection-requires
unwrap-connection-requires c = lent_some c.self.inside.connections c.args.self.now c.self.view_is c.args.conn c.get_mut.result c.get_mut.ensures.value c.requires.connected

pub returns-clause-room : goal.returns-clause-room
returns-clause-room c =
    let here = get_lent c.self.inside.connections c.args.self.now c.self.view_is c.args.conn c.get_mut.result c.get_mut.ensures.value c.unwrap-connection.result c.unwrap-connection.ensures in
    rw (mails_on-at c.args.self.now c.args.conn c.unwrap-connection.result.now here) c.put.ensures.room

pub returns-clause-full : goal.returns-clause-full
returns-clause-full c =
    let here = get_lent c.self.inside.connections c.args.self.now c.self.view_is c.args.conn c.get_mut.result c.get_mut.ensures.value c.unwrap-connection.result c.unwrap-connection.ensures in
    rw (mails_on-at c.args.self.now c.args.conn c.unwrap-connection.result.now here) c.put.ensures.full

pub returns-clause-put : goal.returns-clause-put
returns-clause-put c =
    let connection = c.unwrap-connection.result.now in
    let here = get_lent c.self.inside.connections c.args.self.now c.self.view_is c.args.conn c.get_mut.result c.get_mut.ensures.value c.unwrap-connection.result c.unwrap-connection.ensures in
    let written = seen_written c.self.inside.connections _ c.args.self.now c.self.view_is c.args.conn _ (c.get_mut.follows.holds _) c.requires.connected in
    on_ok_weaker c.put.result (λ put. written ∙ ap (λ mails. insert c.args.self.now c.args.conn (record { session = connection.session; mails = mails })) (put ∙ ap (λ mails. mails ++ c.args.mail ∷ []) (sym (mails_on-at c.args.self.now c.args.conn connection here))) ∙ sym (with_mails-at c.args.self.now c.args.conn connection here _)) c.put.ensures.put

pub returns-clause-err : goal.returns-clause-err
returns-clause-err c =
    let here = get_lent c.self.inside.connections c.args.self.now c.self.view_is c.args.conn c.get_mut.result c.get_mut.ensures.value c.unwrap-connection.result c.unwrap-connection.ensures in
    let written = seen_written c.self.inside.connections _ c.args.self.now c.self.view_is c.args.conn _ (c.get_mut.follows.holds _) c.requires.connected in
    on_err_weaker c.put.result (λ same. written ∙ insert_kept c.args.self.now c.args.conn c.unwrap-connection.result.now here _ same) c.put.ensures.err
