use Rattle.std.proofs.Common.{◌≡◌, ℕ, true, take, drop, vec_capacity}
use Rattle.std.specs.Prelude.{flat_map}
use Rattle.std.specs.List.{AllByRecursion}
use Rattle.std.specs.FinMap.{entries}
use Rattle.fe_codec.specs.Appending.{Appends}
use Rattle.fe_codec.specs.Image.{kept_spelling, entry_of_kept}
use Rattle.fe_codec.specs.Record.{FieldsFit}
use Rattle.fe_codec.proofs.writing.put_answers.Given as goal

abbrev pub invariant-loop-number : goal.invariant-loop-number
invariant-loop-number l = (k : ℕ) × (drop k (entries l.fn.answers) ≡ entries l.number-iterator)
    × Appends l.fn.out.items l.out.items (vec_capacity l.fn.out) (vec_capacity l.out) true (flat_map (kept_spelling l.format l.session) (take k (entries l.fn.answers)))
    × AllByRecursion (λ e. FieldsFit (entry_of_kept l.session e)) (take k (entries l.fn.answers))
