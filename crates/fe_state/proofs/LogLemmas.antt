-- What a log has without its latest entry.
use Rattle.std.proofs.Common.{◌≡◌, List, [], ◌∷◌, Option, Some, None, refl}
use Rattle.std.specs.Prelude.{slice_get}
use Rattle.std.specs.Option.{option_map}
use Rattle.fe_state.specs.declared.dropped.Dropped.{Dropped}
use Rattle.fe_state.specs.State.{ServerState}
use Rattle.fe_state.specs.UndoLog.{before_all, CanUndo, MayFollowAll}
use Rattle.fe_state.specs.declared.change.Change.{Change}
use Rattle.fe_state.specs.declared.undo.Undo.{Undo}

-- the latest of entries may be undone
pub latest_follows : (undos : List Undo) (dropped : List Dropped) (s : ServerState) (u : Undo) → MayFollowAll undos dropped s → slice_get undos 0 ≡ Some u → CanUndo u dropped s
latest_follows [] dropped s u h is = absurd (cc)
latest_follows (v ∷ us) dropped s u h is =
    let same : v ≡ u = cc in
    rw (← same) h.0

-- what it changed of the arrays is what the latest entry changed
pub latest_change : (found : Option Undo) (u : Undo) (change : Change) → Some change ≡ option_map (λ v. v.change) found → found ≡ Some u → change ≡ u.change
latest_change None u change is there = absurd (cc)
latest_change (Some v) u change is there = cc

-- with no latest entry the state is that at the beginning
pub before_all-none : (undos : List Undo) (dropped : List Dropped) (s : ServerState) → slice_get undos 0 ≡ None → before_all undos dropped s ≡ s
before_all-none [] dropped s none = refl
before_all-none (u ∷ us) dropped s none = absurd (cc)
