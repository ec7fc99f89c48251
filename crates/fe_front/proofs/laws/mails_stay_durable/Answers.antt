use Rattle.fe_front.proofs.BoxLaws.{durable_always}
use Rattle.fe_front.proofs.laws.mails_stay_durable.Goals as goal

pub returns : goal.returns
returns c = durable_always
