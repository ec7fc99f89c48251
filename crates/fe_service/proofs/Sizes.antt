-- Where the keys of one map are keys of another, that has as many at least.
use Rattle.std.proofs.Common.{◌≡◌, ℕ, zero, suc, ◌-◌, ◌≤◌, inl, inr, Some, true, cond, List, [], ◌∷◌, length, refl, sym, ap, ◌∙◌, arith}
use Rattle.std.specs.Prelude.{is_some}
use Rattle.std.specs.Ordering.{nat_cmp}
use Rattle.std.specs.Cmp.{nat_cmp_total, nat_cmp_is}
use Rattle.std.specs.FinMap.{FinMap, get, remove, len, entries, get-empty, get-entries, len-entries, len-remove, empty_of_len}
use Rattle.std.specs.FinMap.Entries.{find}
use Rattle.std.specs.declared.cmp.Ordering.TheVariants.{Equal}
use Rattle.fe_state.proofs.Maps.{get_removed, get_left, same_or_other}

same : (k : ℕ) → Equal ≡ nat_cmp k k
same k = nat_cmp_is k k Equal refl

find_first : {X : Type 0} (k : ℕ) (x : X) (es : List (ℕ × X)) → find nat_cmp k ((k, x) ∷ es) ≡ Some x
find_first k x es = rw (sym (same k)) refl

-- the first key is there
first_key : {X : Type 0} (m : FinMap nat_cmp X) (e : ℕ × X) (es : List (ℕ × X)) → entries m ≡ e ∷ es → get m e.0 ≡ Some e.1
first_key m e es is = get-entries m e.0 ∙ ap (find nat_cmp e.0) is ∙ find_first e.0 e.1 es

one_less : {X : Type 0} (m : FinMap nat_cmp X) (k : ℕ) → is_some (get m k) ≡ true → len (remove m k) ≡ len m - 1
one_less m k there = len-remove nat_cmp_total m k ∙ ap (λ b. cond b (len m - 1) (len m)) there

some_there : {X : Type 0} (m : FinMap nat_cmp X) (k : ℕ) → is_some (get m k) ≡ true → 1 ≤ len m
some_there {X} m k there = by_len (len m) refl
  where
    by_len : (n : ℕ) → len m ≡ n → 1 ≤ n
    by_len zero none = let gone = ap (λ m. is_some (get m k)) (empty_of_len m none) ∙ ap is_some (get-empty nat_cmp k) in cc
    by_len (suc n) some = omega arith

-- what is left without one key
left_within : {X Y : Type 0} (few : FinMap nat_cmp X) (many : FinMap nat_cmp Y) (k : ℕ) → ((j : ℕ) → is_some (get few j) ≡ true → is_some (get many j) ≡ true) → (j : ℕ) → is_some (get (remove few k) j) ≡ true → is_some (get (remove many k) j) ≡ true
left_within few many k within j here =
    elim (same_or_other j k) as (λ _. is_some (get (remove many k) j) ≡ true) [
      | inl equal ↦ let gone = ap (λ i. is_some (get (remove few k) i)) equal ∙ ap is_some (get_removed few k) in cc
      | inr other ↦ ap is_some (get_left many k j other) ∙ within j (sym (ap is_some (get_left few k j other)) ∙ here)
    ]

by_entries : {X Y : Type 0} (size : ℕ) (few : FinMap nat_cmp X) (many : FinMap nat_cmp Y) → len few ≡ suc size → ((k : ℕ) → is_some (get few k) ≡ true → is_some (get many k) ≡ true)
    → ((few : FinMap nat_cmp X) (many : FinMap nat_cmp Y) → len few ≡ size → ((k : ℕ) → is_some (get few k) ≡ true → is_some (get many k) ≡ true) → len few ≤ len many)
    → (es : List (ℕ × X)) → entries few ≡ es → len few ≤ len many
by_entries size few many sized within smaller [] is = let none = len-entries few ∙ ap length is in omega (arith, sized, none)
by_entries size few many sized within smaller (e ∷ es) is =
    let here : is_some (get few e.0) ≡ true = ap is_some (first_key few e es is) in
    let there = within e.0 here in
    let less = one_less few e.0 here in
    let fewer = one_less many e.0 there in
    let some = some_there many e.0 there in
    let rest = smaller (remove few e.0) (remove many e.0) (omega (arith, sized, less)) (left_within few many e.0 within) in
    omega (arith, less, fewer, some, rest, sized)

pub len_within : {X Y : Type 0} (size : ℕ) (few : FinMap nat_cmp X) (many : FinMap nat_cmp Y) → len few ≡ size → ((k : ℕ) → is_some (get few k) ≡ true → is_some (get many k) ≡ true) → len few ≤ len many
len_within zero few many sized within = omega (arith, sized)
len_within (suc size) few many sized within = by_entries size few many sized within (λ few many. len_within size few many) (entries few) refl
