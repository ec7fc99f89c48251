use Rattle.std.proofs.Common.{◌≡◌, ℕ, true, IsSome}
use Rattle.std.specs.FinMap.{get}
use Rattle.fe_table.proofs.TableCopyLemmas.{made}
use Rattle.fe_service.specs.AttachmentsState.{count_of}
use Rattle.fe_front.specs.Front.{is_attached}
use Rattle.fe_report.proofs.rows.do_all_wait.Given as goal

abbrev pub invariant-loop-k : goal.invariant-loop-k
invariant-loop-k l = record {
  attached_is : l.attached ≡ true → (s : ℕ) × (is_attached l.front s ≡ true);
  attached_all : (s : ℕ) → IsSome (get (made l.state.sessions l.k) s) → is_attached l.front s ≡ true → l.attached ≡ true;
  idle_is : l.idle ≡ true → (s : ℕ) × (is_attached l.front s ≡ true) × (count_of l.front.service.waiting s ≡ 0);
  idle_all : (s : ℕ) → IsSome (get (made l.state.sessions l.k) s) → is_attached l.front s ≡ true → count_of l.front.service.waiting s ≡ 0 → l.idle ≡ true;
}
