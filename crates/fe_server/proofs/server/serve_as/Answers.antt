use Rattle.std.proofs.Common.{Bool, inl, sym, subst, ◌∙◌}
use Rattle.std.specs.Prelude.{IfOk}
use Rattle.fe_keeper.specs.Keeper.{KeeperState}
use Rattle.fe_hall.specs.declared.commit_end.CommitEnd.TheVariants.{Stopped}
use Rattle.fe_server.specs.Acknowledged.{IsAcknowledged, HasCommitted, account_in}
use Rattle.fe_server.specs.FinishedConnections.{IsSettled}
use Rattle.fe_server.specs.declared.served.Served.{Served}
use Rattle.fe_server.proofs.Acknowledged.{ended_acknowledged, unbegun_acknowledged}
use Rattle.fe_server.proofs.Leavings.{no_transcripts}
use Rattle.fe_server.proofs.server.serve_as.Goals as goal

pub returns-in-Err : goal.returns-in-Err
returns-in-Err g c =
    let u = c.unserved in record {
      committed = (Stopped, u.ensures.committed.0, inl u.ensures.fault);
      acknowledged = (
        Stopped,
        inl u.ensures.fault,
        unbegun_acknowledged g.D.Disk c.args.keeper u.result.keeper Stopped u.result.account c.args.history.acts u.ensures.committed
            (u.ensures.account ∙ c.account-nothing.ensures.account) c.requires.begun c.account-nothing.ensures.legal,
      );
      settled = tt;
      transcripts = no_transcripts u.result u.ensures.transcripts;
    }

pub returns : goal.returns
returns g c =
    let r = c.run-keeper.result in
    let e = c.closed.ensures in
    let answer = c.closed.result in
    let account = account_in answer in record {
      committed = (
        r.1.end,
        subst (λ (k : KeeperState g.row.D.Denot). HasCommitted g.D.Disk c.args.keeper k r.1.end) (sym e.keeper) c.run-keeper.ensures.0,
        e.answer,
      );
      acknowledged = (
        r.1.end,
        e.answer,
        subst (λ (k : KeeperState g.row.D.Denot). IsAcknowledged g.D.Disk c.args.keeper k r.1.end account) (sym e.keeper)
            (ended_acknowledged g.D.Disk c.args.keeper r.0 r.1.end r.2 account e.leaves.0.items e.leaves.0.history c.run-keeper.ensures e.leaves.1 e.issued),
      );
      settled = subst (λ (k : Bool). IfOk answer (λ (s : Served g.row.D.Denot). IsSettled k s.keeper.state s.audit)) c.in-Ok.ensures.keeps e.settled;
      transcripts = e.transcripts;
    }
