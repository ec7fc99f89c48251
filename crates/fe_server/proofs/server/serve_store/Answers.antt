use Rattle.fe_server.proofs.Ends.{settled, settled_whole}
use Rattle.fe_server.proofs.server.serve_store.Goals as goal

pub returns-clause-add_up : goal.returns-clause-add_up
returns-clause-add_up g c = settled _ _ _ (λ s all. all.add_up) c.serve_as.ensures.settled

pub returns-clause-unspent : goal.returns-clause-unspent
returns-clause-unspent g c = settled _ _ _ (λ s all. all.unspent) c.serve_as.ensures.settled

pub returns-clause-borne_out : goal.returns-clause-borne_out
returns-clause-borne_out g c = settled _ _ _ (λ s all. all.borne_out) c.serve_as.ensures.settled

pub returns-clause-whole : goal.returns-clause-whole
returns-clause-whole g c = settled_whole _ _ c.serve_as.ensures.settled
