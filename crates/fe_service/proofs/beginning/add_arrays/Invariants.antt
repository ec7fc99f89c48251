use Rattle.std.proofs.Common.{◌≡◌, ◌≤◌, ℕ}
use Rattle.std.specs.FinMap.{get, len}
use Rattle.fe_table.proofs.TableCopyLemmas.{made}
use Rattle.fe_state.specs.Directory.{words_in}
use Rattle.fe_service.proofs.beginning.add_arrays.Given as goal

abbrev pub invariant-loop-k : goal.invariant-loop-k
invariant-loop-k l = record {
  tied : (id : ℕ) → get l.waits.arrays id ≡ words_in (get (made l.state.arrays l.k) id);
  few : len l.waits.arrays ≤ l.k;
  members : l.waits.members ≡ l.fn.waits.members;
}
