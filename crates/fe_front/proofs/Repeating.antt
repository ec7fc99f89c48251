-- A call that repeats what its number stands for is neither new nor waits anew.
use Rattle.std.proofs.Common.{◌≡◌, ℕ, Bool, true, false, Option, Some, None, [], refl}
use Rattle.std.specs.Prelude.{nat_lt, if◌then◌else◌}
use Rattle.std.specs.Option.{option_map_or}
use Rattle.fe_state.specs.declared.kept.Kept.{Kept}
use Rattle.fe_state.specs.declared.request.Request.{Request}
use Rattle.fe_front.specs.Call.{Called, kept_at, request_at, repeat_of, repeated}
use Rattle.fe_front.specs.Front.{FrontState}
use Rattle.fe_front.specs.declared.outcome.Outcome.{Outcome}
use Rattle.fe_front.specs.declared.outcome.Outcome.TheVariants as outcome

not_completed : (durable n : ℕ) (o : Option Kept) → outcome.Completed n ≡ option_map_or (λ (k : Kept). if nat_lt k.place durable then outcome.SentAgain else outcome.NotYetSynced) o outcome.AlreadyWaiting → ⊥
not_completed durable n None e = cc
not_completed durable n (Some k) e = by (nat_lt k.place durable) e
  where
    by : (b : Bool) → outcome.Completed n ≡ (if b then outcome.SentAgain else outcome.NotYetSynced) → ⊥
    by true e = cc
    by false e = cc

not_waits : (durable : ℕ) (o : Option Kept) → outcome.Waits ≡ option_map_or (λ (k : Kept). if nat_lt k.place durable then outcome.SentAgain else outcome.NotYetSynced) o outcome.AlreadyWaiting → ⊥
not_waits durable None e = cc
not_waits durable (Some k) e = by (nat_lt k.place durable) e
  where
    by : (b : Bool) → outcome.Waits ≡ (if b then outcome.SentAgain else outcome.NotYetSynced) → ⊥
    by true e = cc
    by false e = cc

pub called_again : (f : FrontState) (conn session number : ℕ) (request : Request) (o : Outcome) (f' : FrontState) → request_at f session number ≡ Some request
    → o ≡ repeat_of f session number → f' ≡ repeated f conn session number → Called f conn session number request o [] f'
called_again f conn session number request (outcome.Completed n) f' known is rest = absurd (not_completed f.durable n (kept_at f session number) is)
called_again f conn session number request outcome.Waits f' known is rest = absurd (not_waits f.durable (kept_at f session number) is)
called_again f conn session number request outcome.AlreadyWaiting f' known is rest = record { known = known; is = is; entries = refl; rest = rest }
called_again f conn session number request outcome.SentAgain f' known is rest = record { known = known; is = is; entries = refl; rest = rest }
called_again f conn session number request outcome.NotYetSynced f' known is rest = record { known = known; is = is; entries = refl; rest = rest }
