-- What a stop leaves of a desk's store. A desk is the front, its connections' streams and the keeper of a
-- store, in one thread. See `docs/model.md`, "The desk".
use Rattle.std.specs.Prelude.{◌≡◌, ◌↔◌, ℕ, ◌≤◌, false, List, ◌++◌, take, [], map}
use Rattle.fe_disk.specs.Runs.{LeavesOnly}
use Rattle.fe_state.specs.State.{ServerState}
use Rattle.fe_state.specs.History.{IsHistory, after_groups}
use Rattle.fe_state.specs.declared.entry.Entry.{Entry}
use Rattle.fe_keeper.specs.Keeper.{KeeperState}
use Rattle.fe_keeper.specs.Stands.{LeavesPrefix}
use Rattle.fe_desk.specs.DeskRunState.{DeskRunState, Client}
use Rattle.fe_disk.specs.declared.disk.Disk.{Ghosts}

-- a desk as its callers see it: where its run stands, its keeper, and how many of the groups are known to be
-- stored
pub record DeskState (D : Type 0) : Type 0 where
  pub run_state : DeskRunState
  pub keeper : KeeperState D
  pub synced : ℕ

abbrev pub disk_of : {D : Type 0} → DeskState D → D
disk_of d = d.keeper.store.disk

-- The groups are a history from the state that was opened, and those that are stored lead to the replica.
pub record IsFrom {D : Type 0} (begun : ServerState) (d : DeskState D) : Type 0 where
  pub history : IsHistory begun d.run_state.groups
  pub replica : d.keeper.state ≡ after_groups begun (take d.synced d.run_state.groups)

-- What a desk does to its store: new groups come after the others, no fewer are stored, and a desk that was
-- from a state (`IsFrom`) still is. Over an honest disk that had not failed, each image that a stop leaves at
-- any moment stands for a prefix of the history with all groups that were stored before.
pub record Advances {D : Type 0} (model : Ghosts D) (old new : DeskState D) : Type 0 where
  pub more : List (List Entry)
  pub groups : new.run_state.groups ≡ old.run_state.groups ++ more
  pub synced : old.synced ≤ new.synced
  pub from : (begun : ServerState) → IsFrom begun old → IsFrom begun new
  pub any_moment : model.honest (disk_of old) → old.keeper.store.has_failed ≡ false → (begun : ServerState)
      → IsFrom begun old
      → LeavesOnly model (disk_of old) (disk_of new) (LeavesPrefix begun new.run_state.groups old.synced)
  pub honesty : model.honest (disk_of new) ↔ model.honest (disk_of old)

-- ---- a desk whose trace begins anew

-- the client, with nothing written to it
abbrev pub unwritten_to : Client → Client
unwritten_to c = record c { written = [] }

-- the state of the run, with no group and with nothing written to any client
abbrev pub anew : DeskRunState → DeskRunState
anew s = record s { groups = []; clients = map unwritten_to s.clients }

-- the desk, with such a state of its run and no group known to be stored
abbrev pub desk_anew : {D : Type 0} → DeskState D → DeskState D
desk_anew d = record d { run_state = anew d.run_state; synced = 0 }
