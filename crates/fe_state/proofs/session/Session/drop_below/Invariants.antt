use Rattle.std.proofs.Common.{◌≡◌, ℕ, Some, nat_le}
use Rattle.std.specs.Prelude.{vec_capacity}
use Rattle.std.specs.FinMap.{get, retain_keys}
use Rattle.fe_state.specs.declared.kept.Kept.{Kept}
use Rattle.fe_state.specs.DroppedAnswers.{WereDropped}
use Rattle.fe_state.specs.Sessions.{IsInWindow}
use Rattle.fe_state.proofs.session.Session.drop_below.Given as goal

abbrev pub invariant-loop-number : goal.invariant-loop-number
invariant-loop-number l = record {
  floor : l.self.floor ≡ l.initial.self.floor;
  kept : l.self.kept ≡ retain_keys l.initial.self.kept (nat_le l.number);
  in_window : (n : ℕ) (k : Kept) → get l.initial.self.kept n ≡ Some k → IsInWindow l.initial.self.floor n;
  dropped : WereDropped l.initial.self.floor l.number l.initial.self.kept l.self.kept l.initial.dropped.items l.dropped.items;
  capacity : vec_capacity l.dropped ≡ vec_capacity l.initial.dropped;
}
