use Rattle.std.proofs.Common.{◌-◌}
use denote.Text.{Utf8}
use denote.Shadow.{shadow}
use Rattle.test_laboratory.proofs.run_script.Given as goal

-- The name of the case is text.
abbrev pub invariant-loop-line : goal.invariant-loop-line
invariant-loop-line g l =
    (goal.iterator-loop-line g).can_next l.line-iterator ×
    (goal.iterator-loop-line g).is_finite l.line-iterator ×
    shadow (Utf8 l.name)
