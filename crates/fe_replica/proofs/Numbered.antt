-- Legal entries have numbers and floors below 2^63, so that they can be put.
use Rattle.std.proofs.Common.{◌≡◌, ℕ, ◌^◌, ◌<◌, Option, Some, None, List, [], ◌∷◌, refl, arith}
use Rattle.std.specs.Prelude.{IsSomeAnd}
use Rattle.std.specs.List.{AllByRecursion}
use Rattle.std.specs.FinMap.{get}
use Rattle.fe_state.specs.Sessions.{Session, MayRise, IsUsable, MayAttach}
use Rattle.fe_state.specs.State.{ServerState, IsLegal, IsWithinLimits, after}
use Rattle.fe_state.specs.History.{AreLegal}
use Rattle.fe_state.specs.declared.entry.Entry.{Entry}
use Rattle.fe_state.specs.declared.entry.Entry.TheVariants.{Attached, Closed, Settled, Finished}
use Rattle.fe_state.proofs.LegalLimits.{limits_kept}
use Rattle.fe_codec.specs.Record.{IsNumbered, CanPut}
use Rattle.fe_format.specs.declared.format.Format.TheVariants.{Two}

attached : (s : ServerState) (session floor : ℕ) (here : Option Session) → get s.sessions session ≡ here → IsWithinLimits s → MayAttach s.sessions floor here → floor < 2 ^ 63
attached s session floor None is limits may = omega (arith, may.0)
attached s session floor (Some x) is limits may = omega (arith, may, (limits.each session x is).most)

settled : (floor : ℕ) (here : Option Session) → IsSomeAnd here (λ x. MayRise x.floor floor) → floor < 2 ^ 63
settled floor None may = absurd may
settled floor (Some x) may = omega (arith, may.within_limit)

finished : (s : ServerState) (session number : ℕ) (here : Option Session) → get s.sessions session ≡ here → IsWithinLimits s → IsSomeAnd here (λ x. IsUsable x number) → number < 2 ^ 63
finished s session number None is limits usable = absurd usable
finished s session number (Some x) is limits usable = omega (arith, usable.in_window.not_beyond, (limits.each session x is).most)

-- a legal entry's number or floor is below 2^63
pub legal_is_numbered : (s : ServerState) (e : Entry) → IsWithinLimits s → IsLegal s e → IsNumbered e
legal_is_numbered s (Attached session floor) limits legal = attached s session floor (get s.sessions session) refl limits legal.allowed
legal_is_numbered s (Closed session) limits legal = tt
legal_is_numbered s (Settled session floor) limits legal = settled floor (get s.sessions session) legal.allowed
legal_is_numbered s (Finished session number request answer) limits legal = finished s session number (get s.sessions session) refl limits legal.allowed

-- legal entries can be put in format 2
pub legal_can_be_put : (s : ServerState) (es : List Entry) → IsWithinLimits s → AreLegal s es → AllByRecursion (CanPut Two) es
legal_can_be_put s [] limits legal = tt
legal_can_be_put s (e ∷ es) limits legal =
    (record { of_format = tt; numbered = legal_is_numbered s e limits legal.0 }, legal_can_be_put (after s e) es (limits_kept s e limits legal.0) legal.1)
