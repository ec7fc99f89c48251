-- What is found in the entries of a map by numbers, and what holds of each of them.
use Rattle.std.proofs.Common.{◌≡◌, ℕ, ◌<◌, ◌≢◌, Bool, true, false, cond, ◌&&◌, List, [], ◌∷◌, Some, T, eqb-true, refl, sym, ap, subst, ◌∙◌, arith}
use Rattle.std.specs.Prelude.{◌==◌, slice_get}
use Rattle.std.specs.List.{AllByRecursion}
use Rattle.std.specs.Ordering.{nat_cmp, is_lt}
use Rattle.std.specs.declared.cmp.Ordering.{Ordering}
use Rattle.std.specs.declared.cmp.Ordering.TheVariants.{Less, Equal, Greater}
use Rattle.std.specs.Cmp.{unsigned_tied}
use Rattle.std.specs.FinMap.{FinMap, get, entries, get-entries, entries_sorted, is_sorted, find}
use Rattle.std.specs.FinMap.Entries.{below_all}
use Rattle.std.proofs.lemmas.Cmp.{ranked}
use Rattle.std.proofs.lemmas.Bool.Decides.{nat_tests}
use Rattle.std.proofs.lemmas.Option.{same_Some, none-some}
use Rattle.fe_codec.proofs.Elements.{all_at}

both_first : (a b : Bool) → T (a && b) → T a
both_first true b p = tt
both_first false b p = absurd p

both_second : (a b : Bool) → T (a && b) → T b
both_second true b p = p
both_second false b p = absurd p

less : (o : Ordering) → T (is_lt o) → o ≡ Less
less Less p = refl
less Equal p = absurd p
less Greater p = absurd p

same_number : (a b : ℕ) → a ≡ b → (a == b) ≡ true
same_number a b is = grind (arith, nat_tests)

other_number : (a b : ℕ) → a ≢ b → (a == b) ≡ false
other_number a b is = grind (arith, nat_tests)

module _ {X : Type 0} where
  abbrev pub AllAbove : ℕ → List (ℕ × X) → Type 0
  AllAbove k es = AllByRecursion (λ e. k < e.0) es

  above_each : (k : ℕ) (es : List (ℕ × X)) → T (below_all nat_cmp k es) → AllAbove k es
  above_each k [] h = tt
  above_each k (e ∷ es) h = (ranked k e.0 Less (sym (less _ (both_first _ _ h))), above_each k es (both_second _ _ h))

  pub rises_first : (e : ℕ × X) (es : List (ℕ × X)) → T (is_sorted nat_cmp (e ∷ es)) → AllAbove e.0 es
  rises_first e es h = above_each e.0 es (both_first _ _ h)

  pub rises_rest : (e : ℕ × X) (es : List (ℕ × X)) → T (is_sorted nat_cmp (e ∷ es)) → T (is_sorted nat_cmp es)
  rises_rest e es h = both_second _ _ h

  find_here : (q : ℕ) (e : ℕ × X) (es : List (ℕ × X)) → q ≡ e.0 → find nat_cmp q (e ∷ es) ≡ Some e.1
  find_here q e es is = ap (λ (b : Bool). cond b (Some e.1) (find nat_cmp q es)) (unsigned_tied q e.0 ∙ same_number q e.0 is)

  find_there : (q : ℕ) (e : ℕ × X) (es : List (ℕ × X)) → q ≢ e.0 → find nat_cmp q (e ∷ es) ≡ find nat_cmp q es
  find_there q e es is = ap (λ (b : Bool). cond b (Some e.1) (find nat_cmp q es)) (unsigned_tied q e.0 ∙ other_number q e.0 is)

  -- what holds of each entry holds of the one that is found
  pub holds_found : (P : ℕ × X → Type 0) (es : List (ℕ × X)) (q : ℕ) (x : X) → AllByRecursion P es → find nat_cmp q es ≡ Some x → P (q, x)
  holds_found P [] q x h is = absurd (none-some x is)
  holds_found P (e ∷ es) q x h is =
      elim (q == e.0) as (λ b. (q == e.0) ≡ b → P (q, x)) [
        | true ↦ λ t.
            let key : q ≡ e.0 = eqb-true q e.0 t in
            let value : e.1 ≡ x = same_Some e.1 x (sym (find_here q e es key) ∙ is) in
            subst (λ (k : ℕ). P (k, x)) (sym key) (subst (λ (y : X). P (e.0, y)) value h.0)
        | false ↦ λ t. holds_found P es q x h.1 (sym (ap (λ (b : Bool). cond b (Some e.1) (find nat_cmp q es)) (unsigned_tied q e.0 ∙ t)) ∙ is)
      ] refl

  -- what holds of each that is found holds of each entry
  pub holds_each : (P : ℕ × X → Type 0) (es : List (ℕ × X)) → T (is_sorted nat_cmp es) → ((q : ℕ) (x : X) → find nat_cmp q es ≡ Some x → P (q, x)) → AllByRecursion P es
  holds_each P [] rises h = tt
  holds_each P (e ∷ es) rises h = (
    h e.0 e.1 (find_here e.0 e es refl),
    holds_each P es (rises_rest e es rises) (λ q x is.
        let later : e.0 < q = holds_found (λ f. e.0 < f.0) es q x (rises_first e es rises) is in
        h q x (find_there q e es (λ same. omega (arith, later, same)) ∙ is)),
  )

-- the entry at a position is what the map has at its number
pub get_at : {X : Type 0} (m : FinMap nat_cmp X) (k : ℕ) (e : ℕ × X) → slice_get (entries m) k ≡ Some e → get m e.0 ≡ Some e.1
get_at m k e is =
    get-entries m e.0 ∙ all_at (λ d. find nat_cmp d.0 (entries m) ≡ Some d.1) (entries m) k e (holds_each _ (entries m) (entries_sorted m) (λ q x found. found)) is
