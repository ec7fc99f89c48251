use Rattle.fe_wire.proofs.ReplyLaws.{one_reply}
use Rattle.fe_wire.proofs.laws.one_reply_spelling.Goals as goal

pub returns : goal.returns
returns c = one_reply
