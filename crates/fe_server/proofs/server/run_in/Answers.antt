use Rattle.std.proofs.Common.{sym, ap, subst, ◌∙◌}
use Rattle.fe_keeper.specs.Keeper.{KeeperState}
use Rattle.fe_server.specs.Acknowledged.{HasCommittedAndNoted}
use Rattle.fe_server.proofs.server.run_in.Goals as goal

pub spawn_with-committing-requires-clause-keeps : goal.spawn_with-committing-requires-clause-keeps
spawn_with-committing-requires-clause-keeps g c κs within = λ r kept.
    subst
    (λ (k : KeeperState g.row.D.Denot). HasCommittedAndNoted g.D.Disk k r.0 r.1.end r.2)
    (sym c.of.ensures) kept

pub returns-in-Ok : goal.returns-in-Ok
returns-in-Ok g c =
    let r = c.join.result in
    subst
    (λ (k : KeeperState g.row.D.Denot). HasCommittedAndNoted g.D.Disk k r.0 r.1.end r.2)
    (ap (λ p. p.before.value) c.in-Ok.ensures.ok ∙ c.of.ensures) c.join.ensures

pub returns-in-Err : goal.returns-in-Err
returns-in-Err g c = rw c.in-Err.ensures.err at c.spawn_with.ensures
