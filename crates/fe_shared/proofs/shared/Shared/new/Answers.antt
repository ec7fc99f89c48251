use Rattle.fe_shared.proofs.Marks.{begun_marked}
use Rattle.fe_shared.proofs.shared.Shared.new.Goals as goal

pub invariant_of-shared : goal.invariant_of-shared
invariant_of-shared g c = (begun_marked c.args.front c.args.history c.requires.begun c.requires.legal, (c.requires.calls.2, c.requires.mails.2))
