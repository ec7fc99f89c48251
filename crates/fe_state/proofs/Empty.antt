-- A state with nothing in it is within the limits.
use Rattle.std.proofs.Common.{◌≡◌, ℕ, ◌+◌, ◌^◌, ◌<◌, ◌≤◌, List, [], ◌∷◌, length, Some, None, refl, sym, ◌∙◌, arith}
use Rattle.std.specs.Ordering.{nat_cmp}
use Rattle.std.specs.FinMap.{empty, entries, get, get-empty, len-empty, len-entries}
use Rattle.fe_state.specs.Directory.{IsDirectory, word_count}
use Rattle.fe_state.specs.State.{IsWithinLimits}
use Rattle.fe_state.specs.Sessions.{Session}
use Rattle.fe_state.specs.declared.array.Array.{Array}

none_long : {X : Type 0} (es : List X) → length es ≡ 0 → es ≡ []
none_long [] e = refl
none_long (x ∷ es) e = absurd (omega arith)

pub no_entries : entries (empty {X = Array} {R = nat_cmp}) ≡ []
no_entries = none_long _ (sym (len-entries empty) ∙ len-empty nat_cmp Array)

pub no_words : word_count empty ≡ 0
no_words = rw no_entries refl

none_some : {X : Type 0} (x : X) → None ≡ Some x → ⊥
none_some x e = cc

pub not_there : {X : Type 0} (k : ℕ) (x : X) → get (empty {X = X} {R = nat_cmp}) k ≡ Some x → ⊥
not_there {X} k x e = let none : get (empty {X = X} {R = nat_cmp}) k ≡ None = get-empty nat_cmp k in let same : None ≡ Some x = sym none ∙ e in none_some x same

pub empty_directory : (next_id : ℕ) → 1 ≤ next_id → IsDirectory (record { arrays = empty; next_id = next_id })
empty_directory next_id least = record {
  next_id = least;
  few_arrays = rw (len-empty nat_cmp Array) (omega arith);
  each = λ id a e. absurd (not_there id a e);
  names = λ i j a b p q same. absurd (not_there i a p);
  words = rw no_words (omega arith);
}

pub empty_within : (place next_id : ℕ) → place < 2 ^ 63 → 1 ≤ next_id → next_id ≤ place + 1 → IsWithinLimits (record { arrays = empty; sessions = empty; next_id = next_id; place = place })
empty_within place next_id fits least most = record {
  place = fits;
  directory = empty_directory next_id least;
  next_id = most;
  few_sessions = rw (len-empty nat_cmp Session) (omega arith);
  each = λ session x e. absurd (not_there session x e);
}
