use Rattle.std.proofs.Common.{◌≡◌, ◌++◌, map, take}
use Rattle.fe_report.specs.within.Rows.{row_of}
use Rattle.fe_report.proofs.rows.add_session.Given as goal

abbrev pub invariant-loop-row : goal.invariant-loop-row
invariant-loop-row l = l.rows.items ≡ l.fn.rows.items ++ map (row_of l.session) (take l.row-index l.row-items)
