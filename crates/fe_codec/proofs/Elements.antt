-- Elements of lists by their positions.
use Rattle.std.proofs.Common.{◌≡◌, ℕ, zero, suc, ◌+◌, ◌<◌, ◌≤◌, List, [], ◌∷◌, ◌++◌, length, take, drop, get_or, Option, Some, None, sym, ap, subst, ◌∙◌, arith}
use Rattle.std.specs.Prelude.{slice_get}
use Rattle.std.specs.List.{AllByRecursion}
use Rattle.std.specs.Option.{option_map}
use Rattle.std.proofs.lemmas.List.{take_more, take_all, drop_more, length-drop}
use Rattle.std.proofs.lemmas.Option.{same_Some, none-some, slice_get-get_or, slice_get_within, get_or_from_slice_get}

-- what holds of each element holds of the one at a position
pub all_at : {X : Type 0} (P : X → Type 0) (xs : List X) (i : ℕ) (x : X) → AllByRecursion P xs → slice_get xs i ≡ Some x → P x
all_at P [] i x h e = absurd (none-some x e)
all_at P (y ∷ ys) zero x h e = subst P (same_Some y x e) h.0
all_at P (y ∷ ys) (suc i) x h e = all_at P ys i x h.1 e

-- a look-up within the list finds something
pub found_within : {X Y : Type 0} (f : X → Y) (o : Option X) (xs : List Y) (i : ℕ) → option_map f o ≡ slice_get xs i → i < length xs → o ≡ None → ⊥
found_within f (Some x) xs i e lt none = none-some x (sym none)
found_within f None [] i e lt none = omega arith
found_within f None (y ∷ ys) i e lt none = none-some _ (e ∙ slice_get-get_or (y ∷ ys) i y lt)

-- what is left of a list begins with the element at its position, and goes on with the rest
module _ {X : Type 0} (xs : List X) (k : ℕ) (x : X) (rest : List X) (is : drop k xs ≡ x ∷ rest) where
  pub front_within : k < length xs
  front_within = omega (arith, ap length is, length-drop k xs)

  pub front_at : slice_get xs k ≡ Some x
  front_at = let more = drop_more xs k x front_within in let same : get_or xs k x ≡ x = cc in slice_get-get_or xs k x front_within ∙ ap Some same

  pub front_rest : rest ≡ drop (k + 1) xs
  front_rest = let more = drop_more xs k x front_within in cc

-- what holds of the elements so far, and of one more
module _ {X : Type 0} (P : X → Type 0) where
  pub all_push : (xs : List X) (x : X) → AllByRecursion P xs → P x → AllByRecursion P (xs ++ x ∷ [])
  all_push [] x h p = (p, tt)
  all_push (y ∷ ys) x h p = (h.0, all_push ys x h.1 p)

  pub all_more : (xs : List X) (i : ℕ) (d : X) → i < length xs → AllByRecursion P (take i xs) → P (get_or xs i d) → AllByRecursion P (take (i + 1) xs)
  all_more xs i d lt h p = subst (AllByRecursion P) (sym (take_more xs i d lt)) (all_push (take i xs) (get_or xs i d) h p)

  pub all_found : (xs : List X) (i : ℕ) (x : X) → slice_get xs i ≡ Some x → AllByRecursion P (take i xs) → P x → AllByRecursion P (take (i + 1) xs)
  all_found xs i x found h p = all_more xs i x (slice_get_within xs i x found) h (subst P (sym (get_or_from_slice_get xs i x x found)) p)

  pub all_taken : (xs : List X) (i : ℕ) → length xs ≤ i → AllByRecursion P (take i xs) → AllByRecursion P xs
  all_taken xs i le h = subst (AllByRecursion P) (take_all i xs le) h
