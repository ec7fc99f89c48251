use Rattle.std.proofs.Common.{◌≡◌, ℕ, ◌≤◌, ◌-◌, List, ◌++◌, length, drop, replicate, refl, arith, length-append, length-drop}
use Rattle.std.proofs.lemmas.List.{drop-replicate}
use Rattle.std.proofs.lemmas.Slice.{drop-append-drop}
use Rattle.fe_state.proofs.name.Name.new.Goals as goal

abbrev row : List ℕ
row = replicate 32 0

-- bytes written over the front of a row of zeros
written : (bytes cells : List ℕ) → cells ≡ bytes → length bytes ≤ 32 → (length bytes ≤ 32) × (length (cells ++ drop (length bytes) row) ≡ 32) × (drop (length bytes) (cells ++ drop (length bytes) row) ≡ replicate (32 - length bytes) 0)
written bytes cells same short = rw same (
  short,
  omega (arith, length-append bytes (drop (length bytes) row), length-drop (length bytes) row),
  rw (drop-append-drop (length bytes) row bytes (length bytes) (omega arith) refl, drop-replicate {X = ℕ} (length bytes) 32 0) refl,
)

pub invariant_of-result : goal.invariant_of-result
invariant_of-result c = written c.args.bytes.now _ c.copy_from_slice.ensures.after c.if-bytes-gt-NAME_BYTES.false
