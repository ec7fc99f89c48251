use Rattle.std.proofs.Common.{◌++◌, List, ℕ, ap, ◌∙◌, string_bytes}
use Rattle.std.specs.List.{flat_map}
use Rattle.std.proofs.lemmas.Iterator.Splits.{YieldsList-from_lines}
use Rattle.std.proofs.lemmas.Iterator.Consumers.{YieldsList-end}
use Rattle.fe_text.specs.Printed.{report_line}
use Rattle.fe_text.proofs.printing.print_report.Goals as goal

pub returns : goal.returns
returns c =
    let t = YieldsList-end (YieldsList-from_lines c.args.report.now cc) c.loop-line.yielded _ c.loop-line.yielded_by _ _ c.in-None.is c.next.ensures.steps in
    c.loop-line.invariant ∙ ap (λ (ls : List (List ℕ)). string_bytes c.args.text.now ++ flat_map (report_line c.args.conn) ls) t.0
