use Rattle.std.proofs.Common.{◌≡◌, sym, inl, inr, Option, Some, None, refl, subst, ◌∙◌, rules}
use Rattle.fe_hall.specs.Commits.{AppendsAreNoted, Commits, end_in}
use Rattle.fe_hall.specs.within.Sides.{StoresOn}
use Rattle.fe_keeper.specs.Ends.{IsStill}
use Rattle.fe_hall.specs.declared.commit_end.CommitEnd.{CommitEnd}
use Rattle.fe_hall.proofs.Committed.{kept_noted, both_commits, turn_commits, ended_noted, rests_itself, still_itself, still_both}
use Rattle.fe_hall.proofs.committing.commit_side.Goals as goal

pub loop-init : goal.loop-init
loop-init g c =
    let old = c.args.keeper.now in
    let rests = rests_itself g.D.Disk g.met.D.Disk.only_now old c.state.ensures.durable in
    record {
      commits = kept_noted g.D.Disk old old None rests c.args.seat.now;
      stands = c.state.ensures.durable;
      still = still_itself g.D.Disk old;
      begun = inl refl;
      honesty = rests.honesty;
      next = search rules;
      finite = search rules;
    }

pub returns-in-Err-clause-commits : goal.returns-in-Err-clause-commits
returns-in-Err-clause-commits g c =
    let here = c.loop.invariant in
    let stored = c.in-Err.ensures.commits.commits in
    let old = c.args.keeper.now in
    let new = c.commit.new.keeper in
    subst (λ (end : CommitEnd). (all : Commits g.D.Disk old new (Some end)) × AppendsAreNoted g.D.Disk all.appends (Some end) c.args.seat.now c.commit.new.seat)
    (sym c.broken-in-Err.ensures)
    (both_commits g.D.Disk old c.loop.keeper new (Some c.in-Err.why) c.args.seat.now c.loop.seat c.commit.new.seat here.still.works here.honesty
    here.commits.0 here.commits.1 stored.0 stored.1)

pub loop-preserved : goal.loop-preserved
loop-preserved g c =
    let old = c.args.keeper.now in
    let before = c.loop.keeper in
    let after = c.commit.new.keeper in
    let new = c.tend.new.keeper in
    let here = c.loop.invariant in
    let rests = c.tend.ensures.keeps.0 in
    let none : end_in c.commit.result ≡ None = search rules in
    let went : StoresOn g.D.Disk before after None c.loop.seat c.commit.new.seat =
    subst (λ (end : Option CommitEnd). StoresOn g.D.Disk before after end c.loop.seat c.commit.new.seat) none c.commit.ensures.commits in
    let stored = went.commits in
    let still : IsStill g.D.Disk before after = went.ended_as in
    let later : IsStill g.D.Disk after new = c.in-Ok.ensures.still in
    record {
      commits =
          turn_commits g.D.Disk old before after new None c.args.seat.now c.loop.seat c.commit.new.seat here.still.works still.works here.honesty
          went.honesty here.commits.0 here.commits.1 stored.0 stored.1 rests;
      stands = c.tend.ensures.keeps.1;
      still = still_both g.D.Disk old after new (still_both g.D.Disk old before after here.still still) later;
      begun = inr (later.works ∙ still.works ∙ c.in_default.ensures.works);
      honesty = (λ h. here.honesty.0 (went.honesty.0 (rests.honesty.0 h)), λ h. rests.honesty.1 (went.honesty.1 (here.honesty.1 h)));
      next = search rules;
      finite = search rules;
    }

pub returns-in-Err-tend-clause-commits : goal.returns-in-Err-tend-clause-commits
returns-in-Err-tend-clause-commits g c =
    let before = c.loop.keeper in
    let after = c.commit.new.keeper in
    let here = c.loop.invariant in
    let none : end_in c.commit.result ≡ None = search rules in
    let went : StoresOn g.D.Disk before after None c.loop.seat c.commit.new.seat =
    subst (λ (end : Option CommitEnd). StoresOn g.D.Disk before after end c.loop.seat c.commit.new.seat) none c.commit.ensures.commits in
    let stored = went.commits in
    let still : IsStill g.D.Disk before after = went.ended_as in
    turn_commits g.D.Disk c.args.keeper.now before after c.tend.new.keeper (Some c.broken-in-Err-tend.result) c.args.seat.now c.loop.seat c.commit.new.seat
    here.still.works still.works here.honesty went.honesty here.commits.0 here.commits.1 stored.0 stored.1 c.tend.ensures.keeps.0

pub returns-in-Stopped-clause-commits : goal.returns-in-Stopped-clause-commits
returns-in-Stopped-clause-commits g c =
    let here = c.loop.invariant.commits in
    ended_noted g.D.Disk c.args.keeper.now c.loop.keeper (Some c.stopped.result) c.args.seat.now c.loop.seat here.0 here.1

pub returns-in-Strange-clause-commits : goal.returns-in-Strange-clause-commits
returns-in-Strange-clause-commits g c =
    let here = c.loop.invariant.commits in
    ended_noted g.D.Disk c.args.keeper.now c.loop.keeper (Some c.broken.result) c.args.seat.now c.loop.seat here.0 here.1
