use Rattle.std.proofs.Common.{◌+◌, ◌++◌, rules}
use Rattle.fe_schedules.proofs.Taking.{too_long}
use Rattle.fe_schedules.proofs.run.Run.whole_line.Goals as goal

pub returns-in_err-begin_line-clause-err : goal.returns-in_err-begin_line-clause-err
returns-in_err-begin_line-clause-err c =
    search (rules, too_long c.in_err-begin_line.field-0.0 (c.args.self.now.lines + 1) (c.args.self.now.begun.items ++ c.args.bytes.now) c.in_err-begin_line.ensures.err)
