use Rattle.std.proofs.Common.{rules, sym}
use Rattle.fe_history.proofs.Acts.{receipts_issued}
use Rattle.fe_hall.proofs.Written.{as_taken}
use Rattle.fe_hall.proofs.writing.write_side.Goals as goal

pub of-requires : goal.of-requires
of-requires g c =
    let w = c.write_all-end.ensures.wrote in
    let took = as_taken w.1 (search rules) c.depart.ensures.untaken in
    receipts_issued c.begin_side-seat.result.0.conn _ w.0 _ took.receipts w.3

pub returns-clause-wrote : goal.returns-clause-wrote
returns-clause-wrote g c =
    let w = c.write_all-end.ensures.wrote in
    rw (sym c.begin_side-seat.ensures, c.of.ensures) (w.0, as_taken w.1 (search rules) c.depart.ensures.untaken, (λ known. (w.2 known).1), w.3)

pub returns-clause-is_known : goal.returns-clause-is_known
returns-clause-is_known g c = λ known. (c.write_all-end.ensures.wrote.2 known).0
