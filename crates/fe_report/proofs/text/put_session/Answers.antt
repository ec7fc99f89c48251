use Rattle.fe_report.proofs.Lengths.{grown, length-session_line}
use Rattle.fe_report.specs.Report.{session_line}
use Rattle.fe_report.proofs.text.put_session.Goals as goal

pub returns-clause-few : goal.returns-clause-few
returns-clause-few c =
    grown c.args.text.now c.write.new.self (session_line (c.args.session, c.args.count)) 46 (length-session_line c.args.session c.args.count c.ranges.session.fits c.ranges.count.fits) c.in_ok-write.ensures.bytes
