use Rattle.std.proofs.Common.{length, ap, arith}
use Rattle.std.specs.FinMap.{len-entries}
use Rattle.fe_state.proofs.kept_answers.KeptAnswers.len.Goals as goal

pub loop-answer-preserved : goal.loop-answer-preserved
loop-answer-preserved c = record {
  counted = let fewer = ap length c.in-Some.ensures.steps in omega (arith, c.loop-answer.invariant.counted, fewer, len-entries c.loop-answer._answer-iterator, len-entries c.next.new.self);
  few = c.loop-answer.invariant.few;
}

pub returns-clause-count : goal.returns-clause-count
returns-clause-count c =
    let none = ap length c.in-None.ensures.steps.0 in
    omega (arith, c.loop-answer.invariant.counted, none, len-entries c.loop-answer._answer-iterator)
