use Rattle.fe_table.proofs.TableCopyLemmas.{made}
use Rattle.fe_report.proofs.Added.{AreRows}
use Rattle.fe_report.proofs.rows.rows_by_word.Given as goal

abbrev pub invariant-loop-k : goal.invariant-loop-k
invariant-loop-k l = AreRows l.front.service.waiting (made l.state.sessions l.k) l.rows.items
