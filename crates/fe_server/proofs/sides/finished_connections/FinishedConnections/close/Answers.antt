use Rattle.std.proofs.Common.{◌≡◌, true, false, ◌∙◌, rules}
use Rattle.fe_history.specs.Acts.{Account}
use Rattle.fe_server.specs.FinishedConnections.{lacks}
use Rattle.fe_server.proofs.Accounts.{account_issued}
use Rattle.fe_server.proofs.Ends.{kept_whole}
use Rattle.fe_server.proofs.sides.finished_connections.FinishedConnections.close.Goals as goal

pub returns-in-Ok-clause-issued : goal.returns-in-Ok-clause-issued
returns-in-Ok-clause-issued g c =
    let p = c.into_parts-calls in
    let audit = c.in-Ok.audit in
    let account : Account = record { receipts = audit.receipts; history = audit.history; own = true } in
    account_issued c.args.seat p.result.2.items p.result.3 account c.in-Ok.ensures.leaves p.ensures.issued

pub returns-in-Err-clause-issued : goal.returns-in-Err-clause-issued
returns-in-Err-clause-issued g c =
    let p = c.into_parts-calls in
    account_issued c.args.seat p.result.2.items p.result.3 c.in-Err.account c.in-Err.ensures.leaves p.ensures.issued

pub returns-in_default-clause-issued : goal.returns-in_default-clause-issued
returns-in_default-clause-issued g c =
    let p = c.into_parts-calls in
    account_issued c.args.seat p.result.2.items p.result.3 c.account_of.result c.account_of.ensures p.ensures.issued

pub returns-in-Ok-clause-audit : goal.returns-in-Ok-clause-audit
returns-in-Ok-clause-audit g c =
    let e = c.in-Ok.ensures.audit in (
      c.in-Some-Some.calls,
      c.in-Some-Some.mails,
      search rules,
      record { booked_calls = e.booked_calls; booked_mails = e.booked_mails; add_up = e.add_up; unspent = e.unspent; lists = e.lists; all_receipts = e.all_receipts ∙ c.into_parts-calls.ensures.whole },
    )

pub returns-in-Ok-clause-settled : goal.returns-in-Ok-clause-settled
returns-in-Ok-clause-settled g c =
    let e = c.in-Ok.ensures in
    let none : lacks c.args.self.short c.args.keeps c.args.self.sides.receipts.whole ≡ false = search rules in record {
      add_up = e.audit.add_up;
      unspent = e.audit.unspent;
      borne_out = e.borne_out;
      whole = λ keep. e.audit.all_receipts ∙ c.into_parts-calls.ensures.whole ∙ kept_whole _ _ _ none keep;
    }
