use Rattle.std.proofs.Common.{◌≡◌, ◌++◌, string_bytes, map}
use Rattle.std.specs.List.{flat_map}
use Rattle.fe_text.specs.Printed.{report_line}
use Rattle.fe_text.proofs.printing.print_report.Given as goal

-- the lines so far are printed
abbrev pub invariant-loop-line : goal.invariant-loop-line
invariant-loop-line l = string_bytes l.text ≡ string_bytes l.initial.text ++ flat_map (report_line l.conn) (map (λ x. x.now) l.yielded)
