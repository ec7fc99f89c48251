-- Replaying the groups of a slot, one after the other: their entries are carried out on a state
-- (`docs/model.md`, "The keeper").
use Rattle.std.specs.Prelude.{◌≡◌, ℕ, Bool, true, false, List, [], ◌∷◌}
use Rattle.fe_state.specs.State.{ServerState}
use Rattle.fe_state.specs.History.{IsHistory}
use Rattle.fe_state.specs.declared.entry.Entry.{Entry}
use Rattle.fe_format.specs.declared.format.Format.{Format}
use Rattle.fe_journal.specs.Contents.{Cursor, Lists}
use Rattle.fe_replica.specs.Replaying.{Replays}
use Rattle.fe_keeper.specs.Stands.{AreGroups}

-- the payloads spell a history from the state on
pub record CanGoOn (format : Format) (payloads : List (List ℕ)) (s : ServerState) : Type 0 where
  pub groups : List (List Entry)
  pub groups_are : AreGroups format groups payloads
  pub legal : IsHistory s groups

-- the first payload was replayed, and the rest is still to be read; or there was none
abbrev pub IsNext : Format → List (List ℕ) → Cursor → ServerState → ServerState → Bool → Type 0
IsNext format [] groups old new more = (more ≡ false) × (new ≡ old)
IsNext format (payload ∷ payloads) groups old new more =
    (more ≡ true) × Replays format payload old new × Lists groups payloads
