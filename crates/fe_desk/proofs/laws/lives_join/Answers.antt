use Rattle.fe_desk.proofs.Lives as lives
use Rattle.fe_desk.proofs.laws.lives_join.Goals as goal

pub returns : goal.returns
returns c = lives.lives_join
