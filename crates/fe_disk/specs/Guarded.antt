-- What contracts see of a `Guarded` disk, whose policy lets some calls through to another disk and fails the
-- others. See `docs/proved.md`, "The store".
use Rattle.std.specs.Prelude.{◌≡◌, ◌↔◌, ℕ, ◌-◌, ◌^◌, ◌<◌, Result, IsErr, ◌==◌, Option, Some, None}
use Rattle.std.specs.Prelude.{if◌then◌else◌}
use Rattle.fe_disk.specs.Disk.{Rises}
use Rattle.fe_disk.specs.declared.guarded.Guarded.{Guarded}
use Rattle.fe_disk.specs.declared.disk.Disk.{Ghosts}
use Rattle.fe_disk.specs.declared.fail_once.FailOnce.{FailOnce}
use Rattle.fe_disk.specs.declared.fuse.Fuse.{Fuse}

-- the disk that it passes calls on to
abbrev pub disk_of : {D P : Type 0} → Guarded D P → D
disk_of disk = disk.inner

-- what the inner disk shows, as a number or as a statement
abbrev pub inner : {D P T : Type 0} → (D → T) → Guarded D P → T
inner f disk = f (disk_of disk)

abbrev pub inner_holds : {D P : Type 0} → (D → Type 0) → Guarded D P → Type 0
inner_holds P disk = P (disk_of disk)

-- the policy, which says which calls are passed on
abbrev pub policy_of : {D P : Type 0} → Guarded D P → P
policy_of disk = disk.policy

-- its count of faults, which starts with the disk's
abbrev pub fault_count : {D P : Type 0} → Guarded D P → ℕ
fault_count disk = disk.failures

-- The policy counts each call. A call that it doesn't pass on fails and leaves the disk as it is. Any other
-- call fails exactly if the disk's count of faults rises; nothing is said once the guard's own count is at
-- 2^64 - 1.
pub record Guards {D P T E : Type 0} (passes : P → Type 0) (next : P → P) (model : Ghosts D)
    (result : Result T E) (old new : Guarded D P) : Type 0 where
  pub counted : policy_of new ≡ next (policy_of old)
  pub refused : (passes (policy_of old) → ⊥) → IsErr result × (disk_of new ≡ disk_of old)
  pub passed : passes (policy_of old) → fault_count old < 2 ^ 64 - 1
      → (IsErr result ↔ Rises (model.failures (disk_of old)) (model.failures (disk_of new)))

-- ---- the policy that fails one call

-- how many calls it passes before the one that it fails, or None once it has failed that one
abbrev pub calls_before : FailOnce → Option ℕ
calls_before once = once.calls_before

-- that number, once one more call was made
abbrev pub one_fewer : Option ℕ → Option ℕ
one_fewer None = None
one_fewer (Some calls) = if calls == 0 then None else Some (calls - 1)

-- the policy after a call
abbrev pub counted : FailOnce → FailOnce
counted once = record once { calls_before = one_fewer once.calls_before }

-- ---- the policy that fails every call from some call on

-- how many calls it still passes
abbrev pub calls_left : Fuse → ℕ
calls_left fuse = fuse.calls_left

-- the policy after a call, which spends one of those left, if any
abbrev pub burnt : Fuse → Fuse
burnt fuse = record fuse { calls_left = fuse.calls_left - 1 }
