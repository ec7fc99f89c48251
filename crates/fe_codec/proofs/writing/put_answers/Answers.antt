use Rattle.std.proofs.Common.{◌≡◌, ◌+◌, ◌≤◌, ◌∙◌, ℕ, true, [], ◌∷◌, List, drop, length, sym, ap, arith}
use Rattle.std.specs.FinMap.{entries}
use Rattle.std.proofs.lemmas.List.{length-drop}
use Rattle.fe_state.specs.declared.kept.Kept.{Kept}
use Rattle.fe_codec.specs.Image.{kept_spelling, entry_of_kept}
use Rattle.fe_codec.specs.Record.{FieldsFit}
use Rattle.fe_codec.proofs.Appends.{found_appended, found_failed, items_appended, failed}
use Rattle.fe_codec.proofs.Elements.{all_found, all_taken, front_at, front_rest}
use Rattle.fe_codec.proofs.writing.put_answers.Goals as goal

pub loop-number-preserved : goal.loop-number-preserved
loop-number-preserved c =
    let es : List (ℕ × Kept) = entries c.args.answers in
    let inv = c.loop-number.invariant in
    let e : ℕ × Kept = (c.in-Some.number, c.in-Some.kept.now) in
    let front : drop inv.0 es ≡ e ∷ entries c.next.new.self = inv.1 ∙ c.in-Some.ensures.steps in
    let at = front_at es inv.0 e (entries c.next.new.self) front in (
      inv.0 + 1,
      sym (front_rest es inv.0 e (entries c.next.new.self) front),
      found_appended (kept_spelling c.args.format c.args.session) es inv.0 e at _ _ _ _ _ _ true inv.2 c.in_ok-put_kept.ensures.appends,
      all_found (λ k. FieldsFit (entry_of_kept c.args.session k)) es inv.0 e at inv.3 c.in_ok-put_kept.ensures.fits,
    )

pub returns-in_err-put_kept-clause-appends : goal.returns-in_err-put_kept-clause-appends
returns-in_err-put_kept-clause-appends c =
    let es : List (ℕ × Kept) = entries c.args.answers in
    let inv = c.loop-number.invariant in
    let e : ℕ × Kept = (c.in-Some.number, c.in-Some.kept.now) in
    let front : drop inv.0 es ≡ e ∷ entries c.next.new.self = inv.1 ∙ c.in-Some.ensures.steps in
    failed c.from_residual.result _ _ _ _ _ c.from_residual.ensures.0
    (found_failed (kept_spelling c.args.format c.args.session) es inv.0 e (front_at es inv.0 e (entries c.next.new.self) front) _ _ _ _ _ _ inv.2 c.in_err-put_kept.ensures.appends)

-- where nothing is left, all were taken
taken_all : (es rest : List (ℕ × Kept)) (k : ℕ) → drop k es ≡ rest → rest ≡ [] → length es ≤ k
taken_all es rest k is none = omega (arith, ap length (is ∙ none), length-drop k es)

pub returns : goal.returns
returns c =
    let es : List (ℕ × Kept) = entries c.args.answers in
    let inv = c.loop-number.invariant in
    let all : length es ≤ inv.0 = taken_all es _ inv.0 inv.1 c.in-None.ensures.steps.0 in
    record {
      appends = items_appended (kept_spelling c.args.format c.args.session) es _ _ _ _ inv.0 all inv.2;
      fits = all_taken (λ k. FieldsFit (entry_of_kept c.args.session k)) es inv.0 all inv.3;
    }
