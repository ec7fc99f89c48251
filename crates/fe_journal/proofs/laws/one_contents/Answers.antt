use Rattle.fe_journal.proofs.Contents as contents
use Rattle.fe_journal.proofs.laws.one_contents.Goals as goal

pub returns : goal.returns
returns c = contents.one_contents
