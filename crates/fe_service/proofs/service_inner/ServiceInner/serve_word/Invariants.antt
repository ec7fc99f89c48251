use Rattle.std.proofs.Common.{◌≡◌, ◌+◌, ℕ, Some, List, length}
use Rattle.std.specs.FinMap.{get, len}
use Rattle.fe_waits.specs.Waiting.{WaitingAccess, IsWord}
use Rattle.fe_state.specs.declared.entry.Entry.{Entry}
use Rattle.fe_service.specs.within.ServiceInner.{MayServe, IsQuietAt, TakesTurns}
use Rattle.fe_service.proofs.service_inner.ServiceInner.serve_word.Given as goal

abbrev pub invariant-loop-count : goal.invariant-loop-count
invariant-loop-count l = record {
  served : (es : List Entry) × TakesTurns l.fn.self l.self es × (l.count ≡ length es);
  counted : l.count + len l.self.attachments.waiting ≡ len l.fn.self.attachments.waiting;
  word : IsWord l.self.attachments.arrays l.array l.index;
  able : MayServe l.self;
  within : (key : ℕ × ℕ) (w : WaitingAccess) → get l.self.attachments.waiting key ≡ Some w → get l.fn.self.attachments.waiting key ≡ Some w;
  beside : (b j : ℕ) → ¬ ((b ≡ l.array) × (j ≡ l.index)) → IsQuietAt l.fn.self.state l.fn.self.attachments.waiting b j → IsQuietAt l.self.state l.self.attachments.waiting b j;
}

abbrev pub decreases-loop-count : goal.decreases-loop-count
decreases-loop-count l = len l.self.attachments.waiting
