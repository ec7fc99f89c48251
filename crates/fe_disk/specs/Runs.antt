-- What a run of device calls leaves: the images of a stop, the count of faults, and how many reads, writes
-- and syncs were made. See `docs/model.md`, "The disk".
use Rattle.std.specs.Prelude.{◌≡◌, ◌⊎◌, ◌↔◌, ℕ, ◌+◌, ◌≤◌, List, Result, Ok, Err, IsErr, IsErrOf, OnOk}
use Rattle.fe_disk.specs.Disk.{Elapses, Rises, MakesAtMost, EndsCall}
use Rattle.fe_disk.specs.declared.disk.Disk.{Ghosts}

-- Time went on through a run of calls, as it does through one.
abbrev pub HasElapsed : {D : Type 0} → Ghosts D → D → D → Type 0
HasElapsed model old new = Elapses model.moment model.left_since model.may_leave old new

-- A stop at any moment of a run of calls, from `old` to `new`, leaves an image that has P.
pub record LeavesOnly {D : Type 0} (model : Ghosts D) (old new : D) (P : List ℕ → Type 0) : Type 0 where
  pub later : model.moment old ≤ model.moment new
  pub each : (image : List ℕ) → model.left_since new (model.moment old) image → P image
  -- a stop since an earlier moment left what it might have left before the run, or an image that has P
  pub before : (t : ℕ) (image : List ℕ) → t ≤ model.moment old → model.left_since new t image
      → model.left_since old t image ⊎ P image

-- A run of this many calls ends as one call does.
abbrev pub Asks : {D T E : Type 0} → Ghosts D → ℕ → ℕ → ℕ → Result T E → D → D → Type 0
Asks model reads writes syncs result old new =
    EndsCall model.size model.failures model.calls model.honest reads writes syncs result old new

-- A run of at most this many calls ends as one call does.
pub record AsksAtMost {D T E : Type 0} (model : Ghosts D) (reads writes syncs : ℕ) (result : Result T E)
    (old new : D) : Type 0 where
  pub fault : IsErr result ↔ Rises (model.failures old) (model.failures new)
  pub still : OnOk result (model.failures new ≡ model.failures old)
  pub one_fault : model.failures new ≤ model.failures old + 1
  pub most : MakesAtMost reads writes syncs (model.calls old) (model.calls new)
  pub honesty : model.honest new ↔ model.honest old
  pub same_size : model.size new ≡ model.size old

-- A run of at most this many calls, of a function with other faults beside `device`: `device` comes only if
-- the count of faults rose, and every other result leaves that count as it was.
pub record Runs {D T E : Type 0} (model : Ghosts D) (reads writes syncs : ℕ) (device : E)
    (result : Result T E) (old new : D) : Type 0 where
  pub fault : IsErrOf result device → Rises (model.failures old) (model.failures new)
  pub still : (IsErrOf result device → ⊥) → model.failures new ≡ model.failures old
  pub most : MakesAtMost reads writes syncs (model.calls old) (model.calls new)
  pub honesty : model.honest new ↔ model.honest old
  pub same_size : model.size new ≡ model.size old

-- a result without the disk that is given back beside the fault
abbrev pub without_disk : {D T E : Type 0} → Result T (E × D) → Result T E
without_disk (Ok x) = Ok x
without_disk (Err refused) = Err refused.0
