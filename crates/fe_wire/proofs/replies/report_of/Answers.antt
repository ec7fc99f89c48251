use Rattle.std.proofs.Common.{◌≡◌, ◌≤◌, eqb, false, List, ℕ, zero, suc, length, Some, sym, ap, ◌∙◌, arith}
use Rattle.fe_wire.specs.declared.server_message.ServerMessage.TheVariants.{Report}
use Rattle.fe_wire.proofs.ReplyLaws.{report_again, no_report}
use Rattle.fe_wire.proofs.replies.report_of.Goals as goal

positive : (n : ℕ) → eqb n 0 ≡ false → 1 ≤ n
positive zero e = absurd cc
positive (suc n) e = omega arith

pub returns-in_default-clause-value : goal.returns-in_default-clause-value
returns-in_default-clause-value c = sym (no_report c.args.body.now c.in_default.ensures.cases.0)

pub returns-clause-value : goal.returns-clause-value
returns-clause-value c =
    let body : List ℕ = c.args.body.now in
    let some : 1 ≤ length body = positive (length body) (sym c.is_empty.ensures ∙ c.if-is_empty.false) in
    let utf8 = c.in-Ok.ensures.cases in
    let same : c.new.result ≡ body = c.new.ensures ∙ c.in_ok-text.ensures.ok ∙ utf8.0 in
    ap (λ (t : List ℕ). Some (Report t)) same ∙ sym (report_again body (some, c.if-body-gt-REPORT_BYTES.false, utf8.1))
