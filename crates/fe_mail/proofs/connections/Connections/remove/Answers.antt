use Rattle.std.proofs.Common.{length, sym, ap, ◌∙◌}
use Rattle.fe_mail.proofs.ConnectionLemmas.{mails_on-at, mails_on-none}
use Rattle.fe_mail.proofs.HashedMaps.{get_seen, seen_removed}
use Rattle.fe_mail.proofs.connections.Connections.remove.Goals.{in-Some, in-None}
use Rattle.fe_mail.proofs.connections.Connections.remove.Goals as goal

pub returns-clause-mails : goal.returns-clause-mails
returns-clause-mails c = elim c.match-swap_remove.branch [
  | in-Some w ↦
      let here = get_seen c.self.inside.connections c.args.self.now c.self.view_is c.args.conn ∙ sym c.swap_remove.ensures.value ∙ w.in-Some.is in
      w.result-is ∙ w.len.ensures.len ∙ sym (ap length (mails_on-at c.args.self.now c.args.conn w.in-Some.connection here))
  | in-None w ↦
      let gone = get_seen c.self.inside.connections c.args.self.now c.self.view_is c.args.conn ∙ sym c.swap_remove.ensures.value ∙ w.in-None.is in
      w.result-is ∙ sym (ap length (mails_on-none c.args.self.now c.args.conn gone))
]

pub returns-clause-removed : goal.returns-clause-removed
returns-clause-removed c = seen_removed c.self.inside.connections c.swap_remove.new.self c.args.self.now c.self.view_is c.args.conn c.swap_remove.ensures.updates
