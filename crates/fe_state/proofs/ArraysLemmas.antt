-- The order of creation: where an id is in it, and what it is after one more.
use Rattle.std.proofs.Common.{◌≡◌, ℕ, zero, suc, ◌+◌, ◌<◌, ◌≤◌, false, List, [], ◌∷◌, length, take, map, nat_eq, position, slice_get, Option, Some, None, IsSome, is_some, true≢false, eqb-true, refl, sym, ap, subst, ◌∙◌, arith, add-one}
use Rattle.std.proofs.lemmas.List.{length-map, get_or-map, map-append}
use Rattle.std.proofs.lemmas.List.Quantifiers.{position-Some}
use Rattle.std.specs.Cmp.{unsigned_tied}
use Rattle.std.specs.Prelude.{IfSome, IfNone}
use Rattle.std.specs.FinMap.{FinMap, get, keys, entries, entries_sorted, contains_key-keys}
use Rattle.std.specs.FinMap.Entries.{is_some-find}
use Rattle.std.specs.List.{list_any}
use Rattle.std.specs.Ordering.{nat_cmp}
use Rattle.indexmap.specs.IndexSet.{insert_key}
use Rattle.fe_table.specs.Table.{IsAt}
use Rattle.fe_table.proofs.TableCopyLemmas.{take-push, find-take}

is_none : {X : Type 0} (o : Option X) → is_some o ≡ false → o ≡ None
is_none None h = refl
is_none (Some x) h = absurd (true≢false h)

pub length-take_keys : {X : Type 0} (es : List (ℕ × X)) (i : ℕ) → i ≤ length es → length (map (λ e. e.0) (take i es)) ≡ i
length-take_keys es zero le = refl
length-take_keys [] (suc i) le = absurd (omega arith)
length-take_keys (e ∷ es) (suc i) le = ap suc (length-take_keys es i (omega arith))

module _ {X : Type 0} (m : FinMap nat_cmp X) where
  module _ (ids : List ℕ) (id : ℕ) (order : ids ≡ keys m) where
    found_by : list_any (nat_eq id) ids ≡ is_some (get m id)
    found_by = ap (list_any (nat_eq id)) order ∙ sym (contains_key-keys m id ∙ ap (λ test. list_any test (keys m)) (λ j x. unsigned_tied id x j))

    -- an id that the set does not find has no array
    get_missed : false ≡ list_any (nat_eq id) ids → get m id ≡ None
    get_missed missed = is_none _ (sym (missed ∙ found_by))

    -- one that it finds is in the table where the set says
    at_position : (i : ℕ) → Some i ≡ position (nat_eq id) ids → IsAt (entries m) id i
    at_position i found =
        let seen = position-Some (nat_eq id) (keys m) i id (sym (found ∙ ap (position (nat_eq id)) order)) in
        let within = subst (λ n. i < n) (length-map (entries m) (λ e. e.0)) seen.0 in
        record {
          in_range = within;
          has_key = λ e. sym (get_or-map (λ e. e.0) (entries m) i e id within) ∙ sym (eqb-true id _ seen.1);
        }

  -- so a position that the set gives is the id's, and one that it does not give nobody has
  pub positions : (ids : List ℕ) (id : ℕ) → ids ≡ keys m → (found : Option ℕ) → found ≡ position (nat_eq id) ids → is_some found ≡ list_any (nat_eq id) ids
      → IfSome found (IsAt (entries m) id) × IfNone found (get m id ≡ None)
  positions ids id order None index there = (tt, get_missed ids id order there)
  positions ids id order (Some i) index there = (at_position ids id order i index, tt)

  -- the ids before a position, and the next one
  pub ids_next : (i : ℕ) (e : ℕ × X) → slice_get (entries m) i ≡ Some e
      → insert_key nat_eq (map (λ e. e.0) (take i (entries m))) e.0 ≡ map (λ e. e.0) (take (i + 1) (entries m))
  ids_next i e here =
      let before = map (λ e. e.0) (take i (entries m)) in
      let new : list_any (nat_eq e.0) before ≡ false =
      ap (λ test. list_any test before) (λ j x. sym (unsigned_tied e.0 x) j) ∙ sym (is_some-find nat_cmp e.0 (take i (entries m))) ∙ ap is_some (find-take (entries m) i e (entries_sorted m) here) in
      rw (new) (
      sym (map-append (λ e. e.0) (take i (entries m)) (e ∷ []))
      ∙ ap (map (λ e. e.0)) (sym (take-push (entries m) i e here))
      ∙ ap (λ n. map (λ e. e.0) (take n (entries m))) (sym (add-one i))
      )

-- a look-up that finds a key that is there, and the position that it finds
pub position_there : {X : Type 0} (m : FinMap nat_cmp X) (id : ℕ) (found : Option ℕ) → IfNone found (get m id ≡ None) → IsSome (get m id) → IsSome found
position_there m id None none there = absurd (true≢false (sym there ∙ ap is_some none))
position_there m id (Some i) none there = refl

pub placed : {X : Type 0} (m : FinMap nat_cmp X) (id i : ℕ) (found : Option ℕ) → found ≡ Some i → IfSome found (IsAt (entries m) id) → IsAt (entries m) id i
placed m id i found is there = subst (λ o. IfSome o (IsAt (entries m) id)) is there
