use Rattle.fe_wire.proofs.ReplyLaws.{one_reading_of_replies}
use Rattle.fe_wire.proofs.laws.one_reply_reading.Goals as goal

pub returns : goal.returns
returns c = one_reading_of_replies
