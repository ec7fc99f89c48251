use Rattle.fe_service.proofs.Turns.{serves_legally}
use Rattle.fe_service.proofs.laws.service_is_legal.Goals as goal

pub returns : goal.returns
returns c = serves_legally
