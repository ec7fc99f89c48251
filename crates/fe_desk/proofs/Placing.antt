-- Where the port of a connection number is, and which ports have numbers with the same remainder.
use Rattle.std.proofs.Common.{◌≡◌, ℕ, zero, suc, ◌+◌, ◌<◌, ◌≤◌, Bool, true, false, true≢false, List, [], ◌∷◌, length, map, Some, refl, sym, ap, ◌∙◌, subst, arith, ◌%◌, get_or, inl, inr}
use Rattle.std.specs.Prelude.{is_some, cond, nat_eq, slice_get, Result, Ok, Err, OnOk, OnErr}
use Rattle.std.specs.Map.{lookup}
use Rattle.std.specs.declared.alloc.AllocFailed.{AllocFailed}
use Rattle.std.proofs.lemmas.Option.{same_Some}
use Rattle.std.proofs.lemmas.Bool.{cases_eq}
use Rattle.std.proofs.lemmas.List.{length-map}
use Rattle.indexmap.specs.IndexMap.{IndexMap, Updates, IsUnchanged, get}
use Rattle.fe_desk.specs.DeskRunState.{Client, Extends}
use Rattle.fe_desk.proofs.Outputs.{output_of}
use Rattle.fe_desk.specs.Crash.{unwritten_to}
use Rattle.fe_desk.specs.declared.port_places.PortPlaces.{PortPlaces}
use Rattle.fe_front.specs.Posting.{remainder_count}
use Rattle.fe_desk.specs.declared.port.Port.{Port}
use Rattle.fe_desk.specs.within.Desk.{ArePlaces, IsFirstAt, alike_bit, client_number_at, client_of}
use Rattle.fe_desk.proofs.Places.{behind, numbers, first_by_numbers, client_number_at-numbers}
use Rattle.fe_desk.proofs.Emptying.{same_number}

-- ---- where the port of a number is

-- the first of a number is so where more is written and others come
pub first_extends : (cs ds : List Client) (conn at : ℕ) → Extends (map output_of cs) (map output_of ds) → IsFirstAt cs conn at → IsFirstAt ds conn at
first_extends [] ds conn at e p = let within = p.within in absurd (omega (arith, within))
first_extends (c ∷ cs) [] conn at e p = absurd e
first_extends (c ∷ cs) (d ∷ ds) conn zero e p = record {
  within = omega arith;
  here = ap (λ (n : ℕ). Some n) e.0 ∙ p.here;
  first = λ i lt. absurd (omega (arith, lt));
}
first_extends (c ∷ cs) (d ∷ ds) conn (suc at) e p =
    let q = first_extends cs ds conn at e.2 (behind c cs conn at p) in
    let within = q.within in
    record { within = omega (arith, within); here = q.here; first = λ i. by i q.first }
  where
    by : (i : ℕ) → ((k : ℕ) → k < at → client_number_at ds k ≡ Some conn → ⊥) → i < suc at → client_number_at (d ∷ ds) i ≡ Some conn → ⊥
    by zero rest lt is = p.first 0 (omega arith) (ap (λ (n : ℕ). Some n) (sym e.0) ∙ is)
    by (suc k) rest lt is = rest k (omega (arith, lt)) is

no_fewer : (cs ds : List Client) → Extends (map output_of cs) (map output_of ds) → length cs ≤ length ds
no_fewer [] ds e = omega arith
no_fewer (c ∷ cs) [] e = absurd e
no_fewer (c ∷ cs) (d ∷ ds) e = omega (arith, no_fewer cs ds e.2)

same_there : (cs ds : List Client) (at conn : ℕ) → Extends (map output_of cs) (map output_of ds) → at < length cs → client_number_at ds at ≡ Some conn → client_number_at cs at ≡ Some conn
same_there [] ds at conn e lt is = absurd (omega (arith, lt))
same_there (c ∷ cs) [] at conn e lt is = absurd e
same_there (c ∷ cs) (d ∷ ds) zero conn e lt is = ap (λ (n : ℕ). Some n) (sym e.0) ∙ is
same_there (c ∷ cs) (d ∷ ds) (suc at) conn e lt is = same_there cs ds at conn e.2 (omega (arith, lt)) is

pub places_extend : (p : PortPlaces) (cs ds : List Client) → Extends (map output_of cs) (map output_of ds) → ArePlaces p cs → ArePlaces p ds
places_extend p cs ds e are =
    let few = are.few in
    record {
      known = λ conn at is. first_extends cs ds conn at e (are.known conn at is);
      few = omega (arith, few, no_fewer cs ds e);
      sorted = λ at conn lt is. are.sorted at conn lt (same_there cs ds at conn e (omega (arith, lt, few)) is);
    }

-- an index that was found is known
pub noted : {S R : Type 0} (m n : IndexMap ℕ ℕ S) (conn at : ℕ) (cs : List Client) (r : Result R (AllocFailed (ℕ × ℕ))) → OnOk r (Updates nat_eq m n conn (Some at)) → OnErr r (IsUnchanged m n) → IsFirstAt cs conn at
    → ((q a : ℕ) → get nat_eq m q ≡ Some a → IsFirstAt cs q a) → (q a : ℕ) → get nat_eq n q ≡ Some a → IsFirstAt cs q a
noted m n conn at cs (Err e) updates same first are q a is = are q a (sym (ap (λ (es : List (ℕ × ℕ)). lookup (nat_eq q) es) same) ∙ is)
noted m n conn at cs (Ok x) updates same first are q a is = by (nat_eq conn q) refl (sym (updates.0 q) ∙ is)
  where
    by : (b : Bool) → nat_eq conn q ≡ b → cond b (Some at) (get nat_eq m q) ≡ Some a → IsFirstAt cs q a
    by true e found = subst (λ (n : ℕ). IsFirstAt cs n a) (same_number conn q e) (subst (λ (n : ℕ). IsFirstAt cs conn n) (same_Some _ _ found) first)
    by false e found = are q a found

-- where none is known
pub none_known : (p : PortPlaces) (cs : List Client) → p.indexes.entries ≡ [] → p.sorted ≡ 0 → ArePlaces p cs
none_known p cs none first = record {
  known = λ conn at is. absurd (true≢false (ap is_some (sym is ∙ ap (λ (es : List (ℕ × ℕ)). lookup (nat_eq conn) es) none)));
  few = omega (arith, first);
  sorted = λ at conn lt. absurd (omega (arith, lt, first));
}

-- the trace begins anew
anew_numbers : (cs : List Client) → numbers (map unwritten_to cs) ≡ numbers cs
anew_numbers [] = refl
anew_numbers (c ∷ cs) = ap (λ (ns : List ℕ). c.conn ∷ ns) (anew_numbers cs)

pub anew_places : (p : PortPlaces) (cs : List Client) → ArePlaces p cs → ArePlaces p (map unwritten_to cs)
anew_places p cs are =
    let same = anew_numbers cs in
    let few = are.few in
    record {
      known = λ conn at is. first_by_numbers cs (map unwritten_to cs) conn at same (are.known conn at is);
      few = omega (arith, few, length-map cs unwritten_to);
      sorted = λ at conn lt is. are.sorted at conn lt
          (client_number_at-numbers cs at ∙ ap (λ (ns : List ℕ). slice_get ns at) (sym same) ∙ sym (client_number_at-numbers (map unwritten_to cs) at) ∙ is);
    }

-- a port more is sorted
pub one_sorted : (p q : PortPlaces) (cs : List Client) (conn : ℕ) → p.sorted < length cs → client_number_at cs p.sorted ≡ Some conn → q.indexes ≡ p.indexes → q.sorted ≡ p.sorted + 1
    → alike_bit q.alike.items (conn % remainder_count) p.sorted ≡ 1 → ((r i : ℕ) → alike_bit p.alike.items r i ≡ 1 → alike_bit q.alike.items r i ≡ 1) → ArePlaces p cs → ArePlaces q cs
one_sorted p q cs conn lt here indexes next added still are = record {
  known = λ n at is. are.known n at (ap (λ m. get nat_eq m n) (sym indexes) ∙ is);
  few = omega (arith, lt, next);
  sorted = λ at n below is. elim (cases_eq at p.sorted) [
    | inl e ↦
        let same : n ≡ conn = same_Some _ _ (sym is ∙ ap (λ (i : ℕ). client_number_at cs i) e ∙ here) in
        ap (λ (m : ℕ). alike_bit q.alike.items (m % remainder_count) at) same ∙ ap (λ (i : ℕ). alike_bit q.alike.items (conn % remainder_count) i) e ∙ added
    | inr ne ↦ still (n % remainder_count) at (are.sorted at n (omega (arith, below, next, ne)) is)
  ];
}

-- the number of a port
pub number_here : (ports : List Port) (at : ℕ) (p : Port) → at < length ports → p ≡ get_or ports at p → client_number_at (map client_of ports) at ≡ Some p.conn
number_here [] at p lt is = absurd (omega (arith, lt))
number_here (q ∷ ports) zero p lt is = ap (λ (x : Port). Some x.conn) (sym is)
number_here (q ∷ ports) (suc at) p lt is = number_here ports at p (omega (arith, lt)) is

pub number_within : (cs : List Client) (at conn : ℕ) → client_number_at cs at ≡ Some conn → at < length cs
number_within [] zero conn is = absurd (true≢false (sym (ap is_some is)))
number_within [] (suc at) conn is = absurd (true≢false (sym (ap is_some is)))
number_within (c ∷ cs) zero conn is = omega arith
number_within (c ∷ cs) (suc at) conn is = omega (arith, number_within cs at conn is)
