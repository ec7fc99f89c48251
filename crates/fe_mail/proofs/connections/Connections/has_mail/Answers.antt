use Rattle.std.proofs.Common.{length, nat_lt, sym, ap, ◌∙◌}
use Rattle.fe_mail.proofs.ConnectionLemmas.{mails_on-at, mails_on-none}
use Rattle.fe_mail.proofs.HashedMaps.{get_seen}
use Rattle.fe_mail.proofs.connections.Connections.has_mail.Goals as goal

pub returns-in-Some : goal.returns-in-Some
returns-in-Some c =
    let here = get_seen c.self.inside.connections c.args.self.now c.self.view_is c.args.conn ∙ sym c.in-Some.ensures.value in
    ap (nat_lt 0) (c.len.ensures.len ∙ sym (ap length (mails_on-at c.args.self.now c.args.conn c.in-Some.connection.now here)))

pub returns-in-None : goal.returns-in-None
returns-in-None c =
    let gone = get_seen c.self.inside.connections c.args.self.now c.self.view_is c.args.conn ∙ sym c.in-None.ensures.value in
    sym (ap (λ mails. nat_lt 0 (length mails)) (mails_on-none c.args.self.now c.args.conn gone))
