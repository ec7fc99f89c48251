use Rattle.std.proofs.Common.{◌≡◌, ◌≤◌, ℕ}
use Rattle.std.specs.Option.{option_map}
use Rattle.std.specs.FinMap.{get, len}
use Rattle.fe_table.proofs.TableCopyLemmas.{made}
use Rattle.fe_service.specs.AttachmentsState.{free_attachment}
use Rattle.fe_service.proofs.beginning.begin_sessions.Given as goal

abbrev pub invariant-loop-k : goal.invariant-loop-k
invariant-loop-k l = record {
  tied : (session : ℕ) → get l.attachments.attachments session ≡ option_map (λ _. free_attachment) (get (made l.state.sessions l.k) session);
  few : len l.attachments.attachments ≤ l.k;
  waiting : l.attachments.waiting ≡ l.fn.attachments.waiting;
  arrays : l.attachments.arrays ≡ l.fn.attachments.arrays;
}
