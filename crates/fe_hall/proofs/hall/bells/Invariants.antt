use Rattle.std.specs.Prelude.{◌≡◌, length}
use Rattle.fe_hall.proofs.hall.bells.Given as goal

abbrev pub invariant-loop-k : goal.invariant-loop-k
invariant-loop-k l = length l.bells.items ≡ l._k
