use Rattle.fe_desk.proofs.Answering as answering
use Rattle.fe_desk.proofs.laws.acknowledged_answers_stand.Goals as goal

pub returns : goal.returns
returns g c = answering.acknowledged_stand g.D.Disk
