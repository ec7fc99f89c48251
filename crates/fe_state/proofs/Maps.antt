-- What a finite map by numbers has at a key after a change.
use Rattle.std.proofs.Common.{◌≡◌, ℕ, ◌≢◌, Some, None, Bool, arith, rules, cond, ◌⊎◌, ap, sym}
use Rattle.std.proofs.lemmas.Bool.Decides.{nat_tests}
use Rattle.std.specs.Ordering.{nat_cmp}
use Rattle.std.specs.FinMap.{FinMap, get, insert, remove, retain_keys, gets, get-retain_keys, nat_cmp-IsAntisymmetric}

pub get_inserted : {X : Type 0} (m : FinMap nat_cmp X) (k : ℕ) (v : X) → get (insert m k v) k ≡ Some v
get_inserted m k v = grind (gets, rules)

pub get_beside : {X : Type 0} (m : FinMap nat_cmp X) (k : ℕ) (v : X) (q : ℕ) → q ≢ k → get (insert m k v) q ≡ get m q
get_beside m k v q ne = grind (gets, rules)

pub get_removed : {X : Type 0} (m : FinMap nat_cmp X) (k : ℕ) → get (remove m k) k ≡ None
get_removed m k = grind (gets, rules)

pub get_left : {X : Type 0} (m : FinMap nat_cmp X) (k q : ℕ) → q ≢ k → get (remove m k) q ≡ get m q
get_left m k q ne = grind (gets, rules)

-- two numbers are one or they are not
pub same_or_other : (a b : ℕ) → (a ≡ b) ⊎ (a ≢ b)
same_or_other a b = grind (arith, nat_tests)

pub get_retained : {X : Type 0} (m : FinMap nat_cmp X) (p : ℕ → Bool) (q : ℕ) → get (retain_keys m p) q ≡ cond (p q) (get m q) None
get_retained m p q = get-retain_keys m p q (λ x t. ap p (sym (nat_cmp-IsAntisymmetric q x t)))
