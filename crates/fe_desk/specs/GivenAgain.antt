-- Steps that found no memory, and are given again until they are taken, come to what they would have come to
-- with memory enough: law `steps_are_given_again`. Whoever gives a step again rests on it, as the tests of
-- `crates/test_calls/src/desk.rt` do. A reader of the crash promise can skip this file (`docs/model.md`, "The
-- desk").
use Rattle.std.specs.Prelude.{◌≡◌, List, [], ◌∷◌, ◌⊎◌, Bool, true, false, map}
use Rattle.fe_desk.specs.declared.step.Step.{Step}
use Rattle.fe_desk.specs.declared.step.Step.TheVariants as step
use Rattle.fe_desk.specs.Crash.{DeskState}
use Rattle.fe_desk.specs.DeskRunState.{discharged}
use Rattle.fe_desk.specs.Ends.{FindsNoMemory}
use Rattle.fe_desk.specs.Steps.{DeskStep, DeskRun}

-- how a step that found no memory is given again: unchanged, or with an empty piece if its bytes were read
abbrev pub IsAgain : Bool → Step → Step → Type 0
IsAgain false before next = next ≡ before
IsAgain true (step.Bytes conn piece) (step.Bytes c p) = (c ≡ conn) × (p.items ≡ [])
IsAgain true before next = ⊥

-- A step is given until it is taken, again each time that it found no memory (`fed` says whether its piece
-- was read). Its mails may be owed then.
abbrev pub IsTakenAtLast : {D : Type 0} → DeskState D → Step → List Bool → DeskState D → Type 0
IsTakenAtLast d step [] e =
    DeskStep d.run_state step e.run_state ⊎ DeskStep d.run_state step (discharged e.run_state)
IsTakenAtLast {D} d step (fed ∷ more) e =
    (mid : DeskState D) × (next : Step) × FindsNoMemory fed step d mid × IsAgain fed step next
    × IsTakenAtLast mid next more e

-- steps one after another, each given until it is taken
abbrev pub AreTakenAtLast : {D : Type 0} → DeskState D → List (Step × List Bool) → DeskState D → Type 0
AreTakenAtLast d [] e = e ≡ d
AreTakenAtLast {D} d (given ∷ more) e =
    (mid : DeskState D) × IsTakenAtLast d given.0 given.1 mid × AreTakenAtLast mid more e

-- The law: steps that are given until they are taken are a run of them, each once. What is owed before them
-- is written first, and what they owe is written after them.
abbrev pub GivenAgain : Type 0 → Type 0
GivenAgain D = (d e : DeskState D) (given : List (Step × List Bool)) → AreTakenAtLast d given e
    → DeskRun (discharged d.run_state) (map (λ g. g.0) given) (discharged e.run_state)
