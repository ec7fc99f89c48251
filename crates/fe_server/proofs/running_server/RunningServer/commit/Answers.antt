use Rattle.std.proofs.Common.{Some, List, subst, sym}
use Rattle.fe_hall.specs.Commits.{AppendsAreNoted}
use Rattle.fe_history.specs.declared.act.Act.{Act}
use Rattle.fe_hall.specs.declared.commit_end.CommitEnd.{CommitEnd}
use Rattle.fe_server.specs.Acknowledged.{HasCommittedAndNoted}
use Rattle.fe_server.proofs.running_server.RunningServer.commit.Goals as goal

pub returns : goal.returns
returns g c =
    let e = c.commit_side-ended.ensures in
    let keeper = c.commit_side-ended.new.keeper in
    let seat = c.commit_side-ended.new.seat in
    subst
    (λ (end : CommitEnd). HasCommittedAndNoted g.D.Disk c.args.keeper keeper end seat)
    (sym c.end-over.ensures) (
      record { commits = e.commits.0; stands = e.stands; ended_as = e.ended_as; honesty = e.honesty },
      subst (λ (h : List Act). AppendsAreNoted g.D.Disk e.commits.0.appends (Some c.commit_side-ended.result) h seat) c.requires e.commits.1,
    )
