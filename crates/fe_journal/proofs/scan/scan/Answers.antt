use Rattle.std.proofs.Common.{arith}
use Rattle.fe_journal.proofs.Openings.{reaches_none, reaches_more, reaches_end, reaches_odd}
use Rattle.fe_journal.proofs.scan.scan.Goals as goal

pub loop-at-init : goal.loop-at-init
loop-at-init c = record { within = omega arith; reaches = reaches_none c.args.format c.args.area.now }

pub loop-at-preserved : goal.loop-at-preserved
loop-at-preserved c =
    let found = c.in-Some.ensures in
    record {
      within = let w = found.1.within in omega arith;
      reaches = reaches_more c.args.format c.args.area.now c.loop-at.at c.in-Some.payload c.requires c.loop-at.invariant.reaches c.loop-at-test.true found.0 found.1;
    }

pub returns-clause-ends : goal.returns-clause-ends
returns-clause-ends c = reaches_end c.args.format c.args.area.now c.loop-at.at c.loop-at.invariant.reaches c.loop-at-test.false

pub returns-in_default-clause-odd : goal.returns-in_default-clause-odd
returns-in_default-clause-odd c = reaches_odd c.args.format c.args.area.now c.loop-at.at c.loop-at.invariant.reaches c.loop-at-test.true c.in_default.ensures
