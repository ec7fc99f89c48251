use Rattle.fe_front.proofs.Rising.{books_rise}
use Rattle.fe_front.proofs.laws.books_rise.Goals as goal

pub returns : goal.returns
returns c = books_rise
