use Rattle.fe_text.proofs.LineLemmas.{none_found, before_found, at_found}
use Rattle.fe_text.proofs.Results.{if_none}
use Rattle.fe_text.proofs.input.first_line.Goals as goal

pub returns-in_err-at-clause-none : goal.returns-in_err-at-clause-none
returns-in_err-at-clause-none c = if_none c.from_residual.result (none_found c.args.bytes.now c.in_err-at.ensures.place)

pub returns-clause-parts : goal.returns-clause-parts
returns-clause-parts c = at_found c.args.bytes.now c.in_ok-at.at c.in_ok-at.ensures.place

pub returns-clause-first : goal.returns-clause-first
returns-clause-first c = before_found c.args.bytes.now c.in_ok-at.at c.in_ok-at.ensures.place
