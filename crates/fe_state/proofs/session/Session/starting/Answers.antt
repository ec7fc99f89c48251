use Rattle.fe_state.proofs.SessionLemmas.{window_none}
use Rattle.fe_state.proofs.session.Session.starting.Goals as goal

pub returns-clause-kept : goal.returns-clause-kept
returns-clause-kept c = window_none c.args.floor
