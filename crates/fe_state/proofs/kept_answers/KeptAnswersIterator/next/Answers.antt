use Rattle.std.proofs.Common.{◌+◌, length, ap, arith}
use Rattle.std.specs.FinMap.{len-entries}
use Rattle.fe_state.specs.Sessions.{answers_from}
use Rattle.fe_state.proofs.kept_answers.KeptAnswersIterator.next.Goals as goal

pub invariant_of-self : goal.invariant_of-self
invariant_of-self c =
    let here = c.self.inside.session.now in
    let fewer = ap length c.in_ok-number.ensures.first in (
      omega (arith, c.self.invariant.0, c.in_ok-number.ensures.least),
      omega (arith, c.self.invariant.1, fewer, len-entries (answers_from here c.self.inside.next), len-entries (answers_from here (c.in_ok-number.number + 1))),
    )
