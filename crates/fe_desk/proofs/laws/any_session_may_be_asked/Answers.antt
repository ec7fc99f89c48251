use Rattle.fe_desk.proofs.Answering as answering
use Rattle.fe_desk.proofs.laws.any_session_may_be_asked.Goals as goal

pub returns : goal.returns
returns g c = answering.any_session
