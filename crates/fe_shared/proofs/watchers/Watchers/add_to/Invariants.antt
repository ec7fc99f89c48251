use Rattle.std.proofs.Common.{◌≡◌, ℕ, true, take}
use Rattle.std.specs.Prelude.{◌==◌, IsTrue}
use Rattle.std.specs.List.{list_any}
use Rattle.fe_front.specs.Posting.{may_have}
use Rattle.fe_shared.proofs.watchers.Watchers.add_to.Given as goal

-- those before this one are added
abbrev pub invariant-loop-watcher : goal.invariant-loop-watcher
invariant-loop-watcher l = record {
  added : (conn : ℕ) → list_any (λ w. w.conn == conn) (take l.watcher-index l.self.items.items) ≡ true → IsTrue (may_have l.set conn);
  still : (other : ℕ) → IsTrue (may_have l.initial.set other) → IsTrue (may_have l.set other);
}
