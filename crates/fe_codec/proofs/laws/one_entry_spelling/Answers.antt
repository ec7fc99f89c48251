use Rattle.fe_codec.proofs.RecordLaws.{one_record_first}
use Rattle.fe_codec.proofs.laws.one_entry_spelling.Goals as goal

pub returns : goal.returns
returns c = one_record_first
