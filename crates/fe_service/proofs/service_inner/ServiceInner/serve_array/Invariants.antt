use Rattle.std.proofs.Common.{◌≡◌, ◌≢◌, ◌<◌, ℕ, List, length}
use Rattle.fe_words.specs.declared.word.Tag.{Tag}
use Rattle.fe_state.specs.declared.entry.Entry.{Entry}
use Rattle.fe_service.specs.within.ServiceInner.{IsQuietAt, WaitAtTag, TakesTurns}
use Rattle.fe_service.proofs.service_inner.ServiceInner.serve_array.Given as goal

abbrev pub invariant-loop-index : goal.invariant-loop-index
invariant-loop-index l = record {
  served : (es : List Entry) × TakesTurns l.fn.self l.self es × (l.count ≡ length es);
  here : (tag : ℕ → Tag) (j : ℕ) → j < l.index → WaitAtTag l.fn.self.attachments.waiting l.array j (tag j) → IsQuietAt l.self.state l.self.attachments.waiting l.array j;
  beside : (b j : ℕ) → b ≢ l.array → IsQuietAt l.fn.self.state l.fn.self.attachments.waiting b j → IsQuietAt l.self.state l.self.attachments.waiting b j;
}
