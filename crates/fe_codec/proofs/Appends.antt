-- Texts that are appended one after another.
use Rattle.std.proofs.Common.{◌≡◌, ℕ, ◌+◌, ◌<◌, ◌≤◌, Bool, true, false, List, [], ◌∷◌, ◌++◌, length, get_or, take, drop, refl, sym, ap, subst, ◌∙◌, append_assoc, arith}
use Rattle.std.specs.Prelude.{flat_map, slice_get, Some, Result, Ok, Err, is_ok, IsErr}
use Rattle.std.proofs.lemmas.Grind.{flat_map-append}
use Rattle.std.proofs.lemmas.List.{length-append, append-nil, take-take, take_more, take-append-drop, take_all}
use Rattle.std.proofs.lemmas.Option.{slice_get_within, get_or_from_slice_get}
use Rattle.fe_codec.specs.Appending.{Appends}

-- a call that appended the first text, and then one that was to append the second
pub appends_both : (a b c : List ℕ) (r r' r'' : ℕ) (first ok : Bool) (one two : List ℕ) → first ≡ true → Appends a b r r' first one → Appends b c r' r'' ok two → Appends a c r r'' ok (one ++ two)
appends_both a b c r r' r'' first ok one two went f s =
    let b_is : b ≡ a ++ one = f.done went in
    let long : length b ≡ length a + length one = ap length b_is ∙ length-append a one in
    record {
      done = λ e. s.done e ∙ ap (λ (t : List ℕ). t ++ two) b_is ∙ append_assoc a one two;
      kept = sym (take-take (length a) (length b) c (omega arith)) ∙ ap (λ (t : List ℕ). take (length a) t) s.kept ∙ f.kept;
      full = λ e. omega (arith, s.full e, long, length-append one two, f.grows);
      grows = omega (arith, f.grows, s.grows);
    }

-- a call that failed with the first text
pub appends_none : (a b : List ℕ) (r r' : ℕ) (ok : Bool) (one two : List ℕ) → ok ≡ false → Appends a b r r' ok one → Appends a b r r' false (one ++ two)
appends_none a b r r' ok one two failed f = record {
  done = λ e. absurd cc;
  kept = f.kept;
  full = λ e. omega (arith, f.full failed, length-append one two);
  grows = f.grows;
}

-- a call that appends nothing
pub appends_nothing : (a : List ℕ) (r r' : ℕ) → r ≤ r' → Appends a a r r' true []
appends_nothing a r r' le = record { done = λ _. sym (append-nil a); kept = take_all (length a) a (omega arith); full = λ e. absurd cc; grows = le }

module _ {X : Type 0} (f : X → List ℕ) (xs : List X) where
  -- one item more
  one_more : (i : ℕ) (d : X) → i < length xs → flat_map f (take i xs) ++ f (get_or xs i d) ≡ flat_map f (take (i + 1) xs)
  one_more i d lt =
      sym (ap (flat_map f) (take_more xs i d lt) ∙ flat_map-append f (take i xs) (get_or xs i d ∷ []) ∙ ap (λ (t : List ℕ). flat_map f (take i xs) ++ t) (append-nil (f (get_or xs i d))))

  -- the items so far, this one, and those after it
  all_items : (i : ℕ) (d : X) → i < length xs → (flat_map f (take i xs) ++ f (get_or xs i d)) ++ flat_map f (drop (i + 1) xs) ≡ flat_map f xs
  all_items i d lt =
      ap (λ (t : List ℕ). t ++ flat_map f (drop (i + 1) xs)) (one_more i d lt) ∙ sym (flat_map-append f (take (i + 1) xs) (drop (i + 1) xs)) ∙ ap (flat_map f) (take-append-drop (i + 1) xs)

  pub item_appended : (a b c : List ℕ) (r r' r'' : ℕ) (ok : Bool) (i : ℕ) (d : X) → i < length xs → Appends a b r r' true (flat_map f (take i xs)) → Appends b c r' r'' ok (f (get_or xs i d)) → Appends a c r r'' ok (flat_map f (take (i + 1) xs))
  item_appended a b c r r' r'' ok i d lt h s =
      subst (λ (t : List ℕ). Appends a c r r'' ok t) (one_more i d lt) (appends_both a b c r r' r'' true ok (flat_map f (take i xs)) (f (get_or xs i d)) refl h s)

  pub item_failed : (a b c : List ℕ) (r r' r'' : ℕ) (i : ℕ) (d : X) → i < length xs → Appends a b r r' true (flat_map f (take i xs)) → Appends b c r' r'' false (f (get_or xs i d)) → Appends a c r r'' false (flat_map f xs)
  item_failed a b c r r' r'' i d lt h s =
      subst (λ (t : List ℕ). Appends a c r r'' false t) (all_items i d lt)
      (appends_none a c r r'' false (flat_map f (take i xs) ++ f (get_or xs i d)) (flat_map f (drop (i + 1) xs)) refl (appends_both a b c r r' r'' true false (flat_map f (take i xs)) (f (get_or xs i d)) refl h s))

  pub items_appended : (a b : List ℕ) (r r' : ℕ) (i : ℕ) → length xs ≤ i → Appends a b r r' true (flat_map f (take i xs)) → Appends a b r r' true (flat_map f xs)
  items_appended a b r r' i le h = subst (λ (ys : List X). Appends a b r r' true (flat_map f ys)) (take_all i xs le) h

-- a result that is an error, or is none
pub failed : {A E : Type 0} (r : Result A E) (a b : List ℕ) (room room' : ℕ) (text : List ℕ) → IsErr r → Appends a b room room' false text → Appends a b room room' (is_ok r) text
failed (Err e) a b room room' text is h = h
failed (Ok x) a b room room' text is h = absurd cc

-- an item that is found at its position
module _ {X : Type 0} (f : X → List ℕ) (xs : List X) (i : ℕ) (x : X) (found : slice_get xs i ≡ Some x) (a b c : List ℕ) (r r' r'' : ℕ) where
  pub found_appended : (ok : Bool) → Appends a b r r' true (flat_map f (take i xs)) → Appends b c r' r'' ok (f x) → Appends a c r r'' ok (flat_map f (take (i + 1) xs))
  found_appended ok h s = item_appended f xs a b c r r' r'' ok i x (slice_get_within xs i x found) h (subst (λ (y : X). Appends b c r' r'' ok (f y)) (sym (get_or_from_slice_get xs i x x found)) s)

  pub found_failed : Appends a b r r' true (flat_map f (take i xs)) → Appends b c r' r'' false (f x) → Appends a c r r'' false (flat_map f xs)
  found_failed h s = item_failed f xs a b c r r' r'' i x (slice_get_within xs i x found) h (subst (λ (y : X). Appends b c r' r'' false (f y)) (sym (get_or_from_slice_get xs i x x found)) s)
