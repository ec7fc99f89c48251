use Rattle.fe_server.proofs.Accounts.{account_issued}
use Rattle.fe_server.proofs.sides.finished_connections.FinishedConnections.account.Goals as goal

pub returns-clause-issued : goal.returns-clause-issued
returns-clause-issued g c =
    let p = c.into_parts-receipts in
    account_issued c.args.seat p.result.2.items p.result.3 c.account_of.result c.account_of.ensures p.ensures.issued
