use Rattle.fe_report.proofs.Lengths.{grown, length-count_line}
use Rattle.fe_report.specs.Report.{count_line}
use Rattle.fe_report.proofs.text.put_count.Goals as goal

pub returns-clause-few : goal.returns-clause-few
returns-clause-few c =
    grown c.args.text.now c.write.new.self (count_line c.args.count) 19 (length-count_line c.args.count c.ranges.count.fits) c.in_ok-write.ensures.bytes
