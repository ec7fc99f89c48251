use Rattle.std.proofs.Common.{IsSome, drop, slice_get, refl, sym, ap, subst, ◌∙◌}
use Rattle.std.specs.FinMap.{insert, from_entries}
use Rattle.fe_mail.specs.Connections.{with_mails}
use Rattle.fe_mail.specs.declared.connections.Connections.TheInside.{Inside}
use Rattle.fe_mail.proofs.ConnectionLemmas.{with_mails-at, with_mails-none, mails_on-at, mails_on-none, with_mails-same, drop_no_first, if_none}
use Rattle.fe_mail.proofs.HashedMaps.{seen_written, get_lent, get_not_lent}
use Rattle.fe_mail.proofs.connections.Connections.take.Goals.{in-Some, in-None}
use Rattle.fe_mail.proofs.connections.Connections.take.Goals as goal

pub returns-clause-mail : goal.returns-clause-mail
returns-clause-mail c = elim c.match-get_mut.branch [
  | in-Some w ↦
      let here = get_lent c.self.inside.connections c.args.self.now c.self.view_is c.args.conn c.get_mut.result c.get_mut.ensures.value w.in-Some.connection w.in-Some.is in
      w.result-is ∙ w.take.ensures.first ∙ sym (ap (λ mails. slice_get mails 0) (mails_on-at c.args.self.now c.args.conn w.in-Some.connection.now here))
  | in-None w ↦
      let gone = get_not_lent c.self.inside.connections c.args.self.now c.self.view_is c.args.conn c.get_mut.result c.get_mut.ensures.value w.in-None.is in
      w.result-is ∙ sym (ap (λ mails. slice_get mails 0) (mails_on-none c.args.self.now c.args.conn gone))
]

pub returns-clause-taken : goal.returns-clause-taken
returns-clause-taken c = elim c.match-get_mut.branch [
  | in-Some w ↦
      let connection = w.in-Some.connection.now in
      let here = get_lent c.self.inside.connections c.args.self.now c.self.view_is c.args.conn c.get_mut.result c.get_mut.ensures.value w.in-Some.connection w.in-Some.is in
      let there : IsSome _ = subst IsSome (sym here) refl in
      ap (λ (a : Inside). from_entries a.connections.entries) w.self-inside-is
      ∙ seen_written c.self.inside.connections _ c.args.self.now c.self.view_is c.args.conn _ (c.get_mut.follows.holds _) there
      ∙ ap (λ mails. insert c.args.self.now c.args.conn (record { session = connection.session; mails = mails })) (w.take.ensures.rest ∙ ap (drop 1) (sym (mails_on-at c.args.self.now c.args.conn connection here)))
      ∙ sym (with_mails-at c.args.self.now c.args.conn connection here _)
  | in-None w ↦
      let gone = get_not_lent c.self.inside.connections c.args.self.now c.self.view_is c.args.conn c.get_mut.result c.get_mut.ensures.value w.in-None.is in
      ap (λ (a : Inside). from_entries a.connections.entries) w.self-inside-is
      ∙ ap (λ m. from_entries m.entries) c.get_mut.follows.holds-at-none
      ∙ c.self.view_is
      ∙ sym (with_mails-none c.args.self.now c.args.conn gone _)
]

pub returns-clause-none : goal.returns-clause-none
returns-clause-none c = if_none c.match-get_mut.result (λ none.
    returns-clause-taken c
    ∙ ap (with_mails c.args.self.now c.args.conn) (drop_no_first _ (sym (returns-clause-mail c) ∙ none))
    ∙ with_mails-same c.args.self.now c.args.conn)
