use Rattle.std.proofs.Common.{◌≡◌, ◌+◌, ◌≤◌, ◌∙◌, ℕ, [], ◌∷◌, List, drop, length, sym, ap, arith, rules}
use Rattle.std.specs.FinMap.{entries, get-entries}
use Rattle.std.proofs.lemmas.List.{length-drop}
use Rattle.fe_state.specs.declared.kept.Kept.{Kept}
use Rattle.fe_codec.proofs.Elements.{all_found, all_taken, front_at, front_rest}
use Rattle.fe_codec.proofs.Found.{get_at, holds_found}
use Rattle.fe_history.specs.Receipts.{IsAsIssued}
use Rattle.fe_history.proofs.strange.holds_other.Goals.{else-kept-receipt-via-then-kept-receipt+else-not-is_as_issued, else-kept-receipt-via-else-kept-receipt}
use Rattle.fe_history.proofs.strange.holds_other.Goals as goal

pub returns-then-not-is_as_issued-clause-other : goal.returns-then-not-is_as_issued-clause-other
returns-then-not-is_as_issued-clause-other c =
    let es : List (ℕ × Kept) = entries c.args.answers in
    let inv = c.loop-number.invariant in
    let e : ℕ × Kept = (c.in-Some.number, c.in-Some.kept.now) in
    let front : drop inv.0 es ≡ e ∷ entries c.next.new.self = inv.1 ∙ c.in-Some.ensures.steps in
    (c.in-Some.number, c.in-Some.kept.now, get_at c.args.answers inv.0 e (front_at es inv.0 e (entries c.next.new.self) front), search rules, search rules)

pub loop-number-preserved : goal.loop-number-preserved
loop-number-preserved c =
    let es : List (ℕ × Kept) = entries c.args.answers in
    let inv = c.loop-number.invariant in
    let e : ℕ × Kept = (c.in-Some.number, c.in-Some.kept.now) in
    let front : drop inv.0 es ≡ e ∷ entries c.next.new.self = inv.1 ∙ c.in-Some.ensures.steps in
    let issued : c.in-Some.kept.now.place ≡ c.args.receipt.now.place → IsAsIssued c.args.receipt.now c.args.session c.in-Some.number c.in-Some.kept.now =
    λ same. elim c.else-kept-receipt.branch [
      | else-kept-receipt-via-then-kept-receipt+else-not-is_as_issued w ↦ search rules
      | else-kept-receipt-via-else-kept-receipt w ↦ absurd (omega arith)
    ] in (
      inv.0 + 1,
      sym (front_rest es inv.0 e (entries c.next.new.self) front),
      all_found (λ d. d.1.place ≡ c.args.receipt.now.place → IsAsIssued c.args.receipt.now c.args.session d.0 d.1) es inv.0 e (front_at es inv.0 e (entries c.next.new.self) front) inv.2 issued,
    )

-- where nothing is left, all were taken
taken_all : (es rest : List (ℕ × Kept)) (k : ℕ) → drop k es ≡ rest → rest ≡ [] → length es ≤ k
taken_all es rest k is none = omega (arith, ap length (is ∙ none), length-drop k es)

pub returns-clause-none : goal.returns-clause-none
returns-clause-none c =
    let es : List (ℕ × Kept) = entries c.args.answers in
    let inv = c.loop-number.invariant in
    let all : length es ≤ inv.0 = taken_all es _ inv.0 inv.1 c.in-None.ensures.steps.0 in
    let each = all_taken (λ d. d.1.place ≡ c.args.receipt.now.place → IsAsIssued c.args.receipt.now c.args.session d.0 d.1) es inv.0 all inv.2 in
    λ number k kept same. holds_found (λ d. d.1.place ≡ c.args.receipt.now.place → IsAsIssued c.args.receipt.now c.args.session d.0 d.1) es number k each (sym (get-entries c.args.answers number) ∙ kept) same
