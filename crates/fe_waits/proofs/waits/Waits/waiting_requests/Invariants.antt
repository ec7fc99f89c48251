use Rattle.fe_waits.proofs.ListingLemmas.{IsListing}
use Rattle.fe_waits.proofs.waits.Waits.waiting_requests.Given as goal

abbrev pub invariant-loop : goal.invariant-loop
invariant-loop l = IsListing l.self-inside.pool l.self-inside.sessions l.slot l.at l.counter l.end l.waiting_requests.items
