use Rattle.std.proofs.Common.{◌≤◌, ℕ, IsSome, length}
use Rattle.std.specs.Ordering.{nat_cmp}
use Rattle.std.specs.FinMap.{get, find}
use Rattle.fe_table.proofs.TableCopyLemmas.{made}
use Rattle.fe_report.specs.Report.{by_session}
use Rattle.fe_report.specs.within.Rows.{ArePart}
use Rattle.fe_report.proofs.rows.rows_by_session.Given as goal

abbrev pub invariant-loop-k : goal.invariant-loop-k
invariant-loop-k l = record {
  part : ArePart (by_session l.front.service.waiting) l.rows.entries;
  whole : (q : ℕ) → IsSome (get (made l.state.sessions l.k) q) → IsSome (get (by_session l.front.service.waiting) q) → IsSome (find nat_cmp q l.rows.entries);
  few : length l.rows.entries ≤ l.k;
}
