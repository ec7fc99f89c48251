-- Whether lists of messages have a call after an attach.
use Rattle.std.proofs.Common.{◌≡◌, ◌↔◌, ◌⊎◌, inl, inr, ℕ, ◌+◌, ◌-◌, ◌<◌, ◌≤◌, Bool, true, false, IsTrue, List, map, length, take, drop, get_or, slice_get, Some, true≢false, refl, sym, ap, subst, ◌∙◌, arith, length-drop}
use Rattle.std.specs.Prelude.{All, Any, HoldsAt}
use Rattle.std.specs.Bool.{MatchBool}
use Rattle.std.specs.List.{AllWithin}
use Rattle.std.proofs.lemmas.Bool.{cases_lt}
use Rattle.std.proofs.lemmas.List.{get_or-drop, length-map, get_or-map, map-id, take_all}
use Rattle.std.proofs.lemmas.List.Elements.{All-map, All-from_all_within}
use Rattle.std.proofs.lemmas.Option.{slice_get_within, slice_get-get_or, get_or_from_slice_get, slice_get_cases}
use Rattle.fe_state.specs.declared.request.Request.{Request}
use Rattle.fe_wire.specs.declared.client_message.ClientMessage.{ClientMessage}
use Rattle.fe_wire.specs.declared.client_message.ClientMessage.TheVariants.{Attach, Call}
use Rattle.fe_history.specs.Receipts.{IsCalledBehind}

-- an element that is there, at its index
here : {X : Type 0} (xs : List X) (i : ℕ) (x d : X) → i < length xs → get_or xs i d ≡ x → slice_get xs i ≡ Some x
here xs i x d within is = slice_get-get_or xs i d within ∙ ap Some is

module _ (xs : List ClientMessage) (session number : ℕ) (request : Request) where
  -- what the first attach and the calls after it decide
  module _ (at : ℕ) (within : at < length xs) (attach : HoldsAt (λ x. x ≡ Attach session) xs at) (none : AllWithin (λ x. x ≡ Attach session → ⊥) xs 0 at) where
    d : ClientMessage
    d = Attach session

    size : length (drop (at + 1) xs) ≡ length xs - (at + 1)
    size = length-drop (at + 1) xs

    called : Any (λ x. x ≡ Call number request) (drop (at + 1) xs) → IsCalledBehind xs session number request
    called a =
        let fits : a.0 < length xs - (at + 1) = subst (λ n. a.0 < n) size a.2 in
        record {
          attach = at;
          call = at + 1 + a.0;
          is_attach = here xs at (Attach session) d within (attach d);
          is_call = here xs (at + 1 + a.0) (Call number request) a.1 (omega (arith, fits)) (sym (get_or-drop (at + 1) xs a.0 a.1) ∙ a.3 ∙ a.4);
          is_behind = omega arith;
        }

    behind_first : (c : IsCalledBehind xs session number request) → at ≤ c.attach → Any (λ x. x ≡ Call number request) (drop (at + 1) xs)
    behind_first c later =
        let k : ℕ = c.call - (at + 1) in
        let last : c.call < length xs = slice_get_within xs c.call (Call number request) c.is_call in
        let is : at + 1 + k ≡ c.call = omega (arith, c.is_behind, later) in
        let fits : k < length xs - (at + 1) = omega (arith, last, c.is_behind, later) in (
          k,
          Call number request,
          subst (λ n. k < n) (sym size) fits,
          get_or-drop (at + 1) xs k (Call number request) ∙ ap (λ i. get_or xs i (Call number request)) is ∙ get_or_from_slice_get xs c.call (Call number request) (Call number request) c.is_call,
          refl,
        )

    found : IsCalledBehind xs session number request → Any (λ x. x ≡ Call number request) (drop (at + 1) xs)
    found c = by_place (cases_lt c.attach at)
      where
        by_place : (c.attach < at) ⊎ (at ≤ c.attach) → Any (λ x. x ≡ Call number request) (drop (at + 1) xs)
        by_place (inl before) = absurd (none c.attach d (omega arith) before (get_or_from_slice_get xs c.attach (Attach session) d c.is_attach))
        by_place (inr later) = behind_first c later

    pub decided : (r : Bool) (n : ℕ) → IsTrue r ↔ Any (λ x. x ≡ Call number request) (take n (drop (at + 1) xs)) → length xs - (at + 1) ≤ n → IsTrue r ↔ IsCalledBehind xs session number request
    decided r n answer long =
        let whole : take n (drop (at + 1) xs) ≡ drop (at + 1) xs = take_all n (drop (at + 1) xs) (subst (λ m. m ≤ n) (sym size) long) in
        let issued : IsTrue r ↔ Any (λ x. x ≡ Call number request) (drop (at + 1) xs) = subst (λ (ys : List ClientMessage). IsTrue r ↔ Any (λ x. x ≡ Call number request) ys) whole answer in
        (λ e. called (issued.0 e), λ c. issued.1 (found c))

  -- without an attach there is none after it
  pub unattached : AllWithin (λ x. x ≡ Attach session → ⊥) xs 0 (length xs) → IsTrue false ↔ IsCalledBehind xs session number request
  unattached none = (
    λ e. absurd (true≢false (sym e)),
    λ c. absurd (none c.attach (Attach session) (omega arith) (slice_get_within xs c.attach (Attach session) c.is_attach) (get_or_from_slice_get xs c.attach (Attach session) (Attach session) c.is_attach)),
  )

-- ---- what was answered of the elements of a list, which are seen through a function

module _ {X Y : Type 0} (f : X → Y) (xs : List X) where
  -- an element, and what is seen of it
  element : (k : ℕ) → k < length xs → (x : X) × (k < length (map f xs)) × (get_or xs k x ≡ x) × (get_or (map f xs) k (f x) ≡ f x)
  element k within = elim (slice_get_cases xs k).1 [
    | inl x ↦ (x.0, omega (arith, length-map xs f, within), x.3, get_or-map f xs k x.0 (f x.0) within ∙ ap f x.3)
    | inr past ↦ absurd (omega (arith, past.0, within))
  ]

  pub any_decided : (P : Y → Type 0) (r : Bool) → MatchBool r ((k : ℕ) × (k < length xs) × HoldsAt (λ x. P (f x)) xs k) (AllWithin (λ x. P (f x) → ⊥) xs 0 (length xs)) → IsTrue r ↔ Any P (map f xs)
  any_decided P true found = let e = element found.0 found.1 in (λ _. (found.0, f e.0, e.1, e.3, subst (λ y. P (f y)) e.2 (found.2 e.0)), λ _. refl)
  any_decided P false none = (
    λ e. absurd (true≢false (sym e)),
    λ a.
        let within : a.0 < length xs = omega (arith, length-map xs f, a.2) in
        let e = element a.0 within in
        absurd (none a.0 e.0 (omega arith) within (subst P (sym a.3 ∙ get_or-map f xs a.0 e.0 a.1 within) a.4)),
  )

  module _ (P Q : Y → Type 0) (apart : (y : Y) → P y → Q y → ⊥) where
    -- what was answered of all of them
    abbrev pub AllAnswer : Bool → Type 0
    AllAnswer r = MatchBool r (AllWithin (λ x. P (f x)) xs 0 (length xs)) ((k : ℕ) × (k < length xs) × HoldsAt (λ x. Q (f x)) xs k)

    pub all_hold : (r : Bool) → AllAnswer r → r ≡ true → All P (map f xs)
    all_hold true all e = All-map P f xs (All-from_all_within (λ x. P (f x)) xs all)
    all_hold false all e = absurd (true≢false (sym e))

    pub one_does_not : (r : Bool) → AllAnswer r → r ≡ false → All P (map f xs) → ⊥
    one_does_not true one e all = absurd (true≢false e)
    one_does_not false one e all =
        let x = element one.0 one.1 in
        apart (f x.0) (subst P x.3 (all one.0 (f x.0) x.1)) (subst (λ y. Q (f y)) x.2 (one.2 x.0))

pub any_holds : {X : Type 0} (P : X → Type 0) (xs : List X) (r : Bool) → MatchBool r ((k : ℕ) × (k < length xs) × HoldsAt P xs k) (AllWithin (λ x. P x → ⊥) xs 0 (length xs)) → IsTrue r ↔ Any P xs
any_holds {X} P xs r answer = subst (λ (ys : List X). IsTrue r ↔ Any P ys) (map-id xs) (any_decided (λ x. x) xs P r answer)
