use Rattle.fe_history.proofs.Kept.{OfFirst, AllAsIssued}
use Rattle.fe_history.proofs.strange.keeps_other.Given as goal

abbrev pub invariant-loop-k : goal.invariant-loop-k
invariant-loop-k l = OfFirst l.state.sessions (AllAsIssued l.receipt) l.k
