use Rattle.fe_waits.proofs.SearchLemmas.{IsSearched}
use Rattle.fe_waits.proofs.waits.Waits.node_of.Given as goal

abbrev pub invariant-loop : goal.invariant-loop
invariant-loop l = IsSearched l.self-inside.pool l.self-inside.sessions l.slot l.number l.at l.counter l.end
