-- The numbers of a session under which nothing waits.
use Rattle.std.proofs.Common.{◌≡◌, ℕ, zero, suc, ◌+◌, ◌<◌, ◌≤◌, inl, inr, Bool, true, false, ◌||◌, ◌⊎◌, Option, Some, None, refl, sym, ap, ◌∙◌, arith}
use Rattle.std.specs.Prelude.{is_some, IsSomeAnd}
use Rattle.std.specs.Option.{option_map_or}
use Rattle.std.specs.FinMap.{get}
use Rattle.std.proofs.lemmas.Bool.{cases_lt}
use Rattle.fe_waits.specs.Waiting.{WaitingAccess}
use Rattle.fe_state.proofs.Maps.{same_or_other}
use Rattle.fe_state.specs.Sessions.{Session, IsUsable}
use Rattle.fe_service.specs.Service.{WaitingAccesses, ServiceState, IsService}
use Rattle.fe_service.specs.Events.{floor_of}
use Rattle.fe_front.specs.Call.{waits_below}

-- nothing of the session waits under a number below this one
abbrev pub NoneBelow : WaitingAccesses → ℕ → ℕ → Type 0
NoneBelow waiting session n = (number : ℕ) (w : WaitingAccess) → get waiting (session, number) ≡ Some w → n ≤ number

pub below-none : (waiting : WaitingAccesses) (session n : ℕ) → NoneBelow waiting session n → waits_below waiting session n ≡ false
below-none waiting session zero none = refl
below-none waiting session (suc n) none =
    let rest = below-none waiting session n (λ number w waits. let at = none number w waits in omega (arith, at)) in
    ap (λ b. b || is_some (get waiting (session, n))) rest ∙ by (get waiting (session, n)) refl
  where
    by : (o : Option WaitingAccess) → get waiting (session, n) ≡ o → is_some (get waiting (session, n)) ≡ false
    by None is = ap is_some is
    by (Some w) is = let at = none n w is in absurd (omega (arith, at))

or_true : (a : Bool) → (a || true) ≡ true
or_true true = refl
or_true false = refl

true_or : (a b : Bool) → a ≡ true → (a || b) ≡ true
true_or true b e = refl
true_or false b e = cc

pub below-some : (waiting : WaitingAccesses) (session number n : ℕ) → number < n → is_some (get waiting (session, number)) ≡ true → waits_below waiting session n ≡ true
below-some waiting session number zero below there = absurd (omega (arith, below))
below-some waiting session number (suc n) below there = elim (same_or_other number n) as (λ _. waits_below waiting session (suc n) ≡ true) [
  | inl same ↦ ap (λ b. waits_below waiting session n || b) (ap (λ k. is_some (get waiting (session, k))) (sym same) ∙ there) ∙ or_true (waits_below waiting session n)
  | inr other ↦ true_or (waits_below waiting session n) (is_some (get waiting (session, n))) (below-some waiting session number n (omega (arith, below, other)) there)
]

apart : {P : Type 0} → true ≡ false → P
apart e = cc

pub below-clear : (waiting : WaitingAccesses) (session n : ℕ) → waits_below waiting session n ≡ false → NoneBelow waiting session n
below-clear waiting session n clear number w waits = by_order (cases_lt number n)
  where
    by_order : (number < n) ⊎ (n ≤ number) → n ≤ number
    by_order (inr at) = at
    by_order (inl below) = apart (sym (below-some waiting session number n below (ap is_some waits)) ∙ clear)

-- one more number under which nothing waits
pub none_below-next : (waiting : WaitingAccesses) (session n : ℕ) → NoneBelow waiting session n → is_some (get waiting (session, n)) ≡ false → NoneBelow waiting session (n + 1)
none_below-next waiting session n none here number w waits = elim (same_or_other number n) as (λ _. n + 1 ≤ number) [
  | inl same ↦ apart (sym (ap is_some (ap (λ k. get waiting (session, k)) (sym same) ∙ waits)) ∙ here)
  | inr other ↦ let at = none number w waits in omega (arith, at, other)
]

-- nothing waits below a session's floor
pub none_below-floor : (s : ServiceState) (session : ℕ) → IsService s → NoneBelow s.waiting session (floor_of s session)
none_below-floor s session h number w waits = by (get s.state.sessions session) (h.usable (session, number) w waits)
  where
    by : (o : Option Session) → IsSomeAnd o (λ x. IsUsable x number) → option_map_or (λ (x : Session). x.floor) o 1 ≤ number
    by None e = absurd e
    by (Some x) e = e.in_window.not_below
