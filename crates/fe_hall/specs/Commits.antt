-- What the committing side of a hall, the thread that stores, does to the keeper that it is lent
-- (`docs/headline.md`, "Whole groups, whatever stops it").
use Rattle.std.specs.Prelude.{◌≡◌, ◌⊎◌, ℕ, ◌+◌, ◌≤◌, true, false, List, [], ◌∷◌, ◌++◌, length, map, take}
use Rattle.std.specs.Prelude.{Option, Some, None, Result, Ok, Err}
use mathlib.Core.List.{IsPrefix}
use Rattle.fe_disk.specs.Runs.{LeavesOnly}
use Rattle.fe_state.specs.State.{ServerState, after_all}
use Rattle.fe_state.specs.History.{IsHistory, after_groups}
use Rattle.fe_state.specs.declared.batch.Batch.{Batch}
use Rattle.fe_state.specs.declared.entry.Entry.{Entry}
use Rattle.fe_keeper.specs.Ends.{IsStill, Breaks}
use Rattle.fe_keeper.specs.Keeper.{KeeperState}
use Rattle.fe_keeper.specs.Stands.{LeavesPrefix}
use Rattle.fe_keeper.specs.declared.fault.Fault.{Fault}
use Rattle.fe_keeper.specs.declared.fault.Fault.TheVariants.{Device, Failed, NoMemory, Mismatch, Damaged}
use Rattle.fe_keeper.specs.declared.fault.Fault.TheVariants.{Unformatted}
use Rattle.fe_history.specs.Acts.{stores_in}
use Rattle.fe_shared.specs.declared.shared.batches.Unposted.{Unposted}
use Rattle.fe_shared.specs.declared.shared.batches.Unposted.TheVariants as unposted
use Rattle.fe_history.specs.declared.act.Act.{Act}
use Rattle.fe_hall.specs.declared.commit_end.CommitEnd.{CommitEnd}
use Rattle.fe_hall.specs.declared.commit_end.CommitEnd.TheVariants.{Store, Strange, Spent}
use Rattle.fe_disk.specs.declared.disk.Disk.{Ghosts}

-- an append that succeeded: the batch, the keeper before it, and the keeper after it
pub record Append (D : Type 0) : Type 0 where
  pub batch : Batch
  pub before : KeeperState D
  pub after : KeeperState D

-- the appends stored the groups from the state on, one by one
abbrev pub AreAppends : {D : Type 0} → ServerState → List (List Entry) → List (Append D) → Type 0
AreAppends s [] [] = Unit {0}
AreAppends s (group ∷ groups) (append ∷ appends) =
    (append.before.state ≡ s) × (append.after.state ≡ after_all s group) × (append.batch.entries ≡ group)
    × AreAppends (after_all s group) groups appends
AreAppends s _ _ = ⊥

-- From this disk on, up to the last, each image that a stop leaves stands for a prefix of the history with at
-- least n groups; from the end of the next append on, with one more; and so on. Each append begins when the
-- one before it has ended, or later.
abbrev pub HoldsSince : {D : Type 0} → Ghosts D → ServerState → List (List Entry) → ℕ → D → List (Append D)
    → D → Type 0
HoldsSince model begun history n here [] last = LeavesOnly model here last (LeavesPrefix begun history n)
HoldsSince model begun history n here (append ∷ appends) last =
    LeavesOnly model here last (LeavesPrefix begun history n)
    × (model.moment here ≤ model.moment append.before.store.disk)
    × (model.moment append.before.store.disk ≤ model.moment append.after.store.disk)
    × HoldsSince model begun history (n + 1) append.after.store.disk appends last

-- The groups that were appended are a history from the keeper's state. The keeper's state has all of them, or
-- all but the last if the side ended because the device failed. Over an honest disk that had not failed, each
-- image that a stop leaves at any moment stands for a prefix of that history, with all groups whose appends
-- had ended by then. An end of `None`: the side goes on.
pub record Commits {D : Type 0} (model : Ghosts D) (old new : KeeperState D)
    (end : Option CommitEnd) : Type 0 where
  pub groups : List (List Entry)
  pub history : IsHistory old.state groups
  pub stored : ℕ
  pub all : (stored ≡ length groups) ⊎ ((stored + 1 ≡ length groups) × (end ≡ Some (Store Device)))
  pub state_is : new.state ≡ after_groups old.state (take stored groups)
  pub appends : List (Append D)
  pub are_appends : AreAppends old.state (take stored groups) appends
  pub any_moment : model.honest old.store.disk → old.store.has_failed ≡ false
      → HoldsSince model old.state groups 0 old.store.disk appends new.store.disk

-- what the history notes of an append: the batch, and the moment of its end
abbrev pub note_of : {D : Type 0} → Ghosts D → Append D → Batch × ℕ
note_of model append = (append.batch, model.moment append.after.store.disk)

-- What was noted of these appends, in their order: all of them, or all but the last if the side ended as
-- `Strange`.
abbrev pub AreNotesOf : {D : Type 0} → Ghosts D → List (Append D) → Option CommitEnd → List (Batch × ℕ)
    → Type 0
AreNotesOf model appends end notes = (notes ≡ map (note_of model) appends)
    ⊎ ((end ≡ Some Strange) × (last : Batch × ℕ) × (notes ++ last ∷ [] ≡ map (note_of model) appends))

-- The history notes these appends in their order, and none besides.
abbrev pub AppendsAreNoted : {D : Type 0} → Ghosts D → List (Append D) → Option CommitEnd → List Act
    → List Act → Type 0
AppendsAreNoted model appends end before after =
    IsPrefix before after × (notes : List (Batch × ℕ)) × (stores_in after ≡ stores_in before ++ notes)
    × AreNotesOf model appends end notes

-- ---- ends

-- the end of the side after a fault of an append
abbrev pub end_of : Fault → CommitEnd
end_of Device = Store Device
end_of Failed = Store Failed
end_of (NoMemory error) = Store (NoMemory error)
end_of (Mismatch place) = Strange
end_of (Damaged offset) = Store (Damaged offset)
end_of Unformatted = Store Unformatted

-- the end of the side after an answer; `None` says that the side goes on
abbrev pub end_in : {A : Type 0} → Result A CommitEnd → Option CommitEnd
end_in (Ok a) = None
end_in (Err end) = Some end

-- the end of the side after a batch was not posted
abbrev pub end_of_post : Unposted → CommitEnd
end_of_post (unposted.Full full) = Spent
end_of_post (unposted.Strange strange) = Strange

-- what the end of the side says of the keeper's disk; an end of `None` says that the side goes on
abbrev pub EndsAs : {D : Type 0} → Ghosts D → KeeperState D → KeeperState D → Option CommitEnd → Type 0
EndsAs model old new (Some (Store Device)) = Breaks model old new
EndsAs model old new (Some (Store Failed)) = (old.store.has_failed ≡ true) × (new ≡ old)
EndsAs model old new (Some (Store (NoMemory error))) = IsStill model old new
EndsAs model old new (Some (Store _)) = ⊥
EndsAs model old new _ = IsStill model old new
