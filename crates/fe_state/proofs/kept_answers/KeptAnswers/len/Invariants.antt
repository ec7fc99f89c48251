use Rattle.std.proofs.Common.{◌≡◌, ◌+◌, ◌≤◌}
use Rattle.std.specs.FinMap.{len}
use Rattle.fe_state.specs.Limits.{window_length}
use Rattle.fe_state.proofs.kept_answers.KeptAnswers.len.Given as goal

abbrev pub invariant-loop-answer : goal.invariant-loop-answer
invariant-loop-answer l = record {
  counted : l.count + len l._answer-iterator ≡ len l.fn.self;
  few : len l.fn.self ≤ window_length;
}
