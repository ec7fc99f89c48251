use Rattle.std.specs.Sync.Mutex.{mutex_guard_value as under}
use Rattle.std.specs.Prelude.{◌≡◌, false}
use Rattle.fe_hall.proofs.hall.Hall.drain.Given as goal

abbrev pub invariant-loop : goal.invariant-loop
invariant-loop g l = ((under l.hold).used ≡ false) × (l.seat ≡ l.fn.seat) × ((goal.iterator-loop g).can_next l.iterator' × (goal.iterator-loop g).is_finite l.iterator')
