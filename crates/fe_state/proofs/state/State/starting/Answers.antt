use Rattle.fe_state.proofs.Empty.{empty_within}
use Rattle.fe_state.proofs.state.State.starting.Goals as goal

pub invariant_of-result : goal.invariant_of-result
invariant_of-result c =
    rw (c.in_ok-directory.ensures, c.in_ok-sessions.ensures.empty) (empty_within c.args.place c.args.next_id c.requires.place c.requires.least c.requires.most)
