use Rattle.std.proofs.Common.{◌≡◌, ◌≢◌, ◌+◌, ℕ, List, [], ◌++◌, length, sym, ap, ◌∙◌, string_bytes}
use Rattle.fe_schedules.specs.Runs.{IsFaultOf, Whole, Ended, last_disk}
use Rattle.fe_schedules.proofs.FrameLemmas.{is_nothing, not_empty}
use Rattle.fe_text.proofs.Results.{match_of, then_ok, err_then, err_both}
use Rattle.fe_schedules.proofs.Taking.{ends_between, ends_within, last_fails}
use Rattle.fe_schedules.proofs.run.Run.end_last.Goals as goal

pub returns-then-is_empty-clause-ended : goal.returns-then-is_empty-clause-ended
returns-then-is_empty-clause-ended c = λ read before now so.
    let none : c.args.self.now.begun.items ≡ [] = sym c.as_slice-begun.ensures.value ∙ is_nothing c.as_slice-begun.result.now c.is_empty.result c.is_empty.ensures c.if-is_empty.true in
    ends_between read before now c.args.self.now so none

pub returns-clause-ended : goal.returns-clause-ended
returns-clause-ended c = λ read before now so.
    let r = c.args.self.now in
    let s = c.end_line.new.self in
    let line = r.begun.items ++ [] in
    let kept : List ℕ = string_bytes s.text in
    let some : r.begun.items ≢ [] = λ e. not_empty (length c.as_slice-begun.result.now) c.is_empty.result c.is_empty.ensures c.if-is_empty.false (ap (length {A = ℕ}) (c.as_slice-begun.ensures.value ∙ e)) in
    match_of c.end_line.result (Whole read before now kept (last_disk s.machine)) (λ end. Ended (λ _. ⊥) end read before now kept)
    (then_ok c.end_line.result (λ ran. ends_within read before now r s so some ran) c.end_line.ensures.ran)
    (err_then c.end_line.result (λ end both. last_fails (λ _. ⊥) end read before now r kept so some both.1 both.0)
    (err_both c.end_line.result (kept ≡ string_bytes r.text) (λ end. IsFaultOf (r.lines + 1) line end) c.end_line.ensures.text c.end_line.ensures.err))
