use Rattle.std.proofs.Common.{rules}
use Rattle.fe_desk.proofs.Bits.{none_before, none_from, within_word}
use Rattle.fe_desk.proofs.port_set.zeros_from.Goals as goal

pub returns-then-rest-eq0-clause-zeros : goal.returns-then-rest-eq0-clause-zeros
returns-then-rest-eq0-clause-zeros c = λ i le lt. none_from c.args.word c.args.bit i c.if-rest-eq0.true le

pub returns-clause-within : goal.returns-clause-within
returns-clause-within c = within_word c.args.word c.args.bit (search rules) (search rules) (search rules)

pub returns-clause-zeros : goal.returns-clause-zeros
returns-clause-zeros c = none_before c.args.word c.args.bit (search rules) (search rules) (search rules)
