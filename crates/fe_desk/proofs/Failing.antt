-- What a fault of a keeper's call leaves of the desk.
use Rattle.std.proofs.Common.{◌≡◌, ℕ, false, refl, subst}
use Rattle.fe_memory.specs.Memory.{out_of_memory}
use Rattle.fe_keeper.specs.Ends.{Breaks, Refuses, Fails}
use Rattle.fe_keeper.specs.Keeper.{KeeperState}
use Rattle.fe_keeper.specs.declared.fault.Fault.{Fault}
use Rattle.fe_keeper.specs.declared.fault.Fault.TheVariants.{Device, Failed, NoMemory, Mismatch, Damaged, Unformatted}
use Rattle.fe_disk.specs.declared.disk.Disk.{Ghosts}

module _ {D : Type 0} (model : Ghosts D) (Cause : Fault → Type 0) (fault : Fault) (old new : KeeperState D) where
  -- no memory
  pub short_given : fault ≡ NoMemory out_of_memory → Fails model Cause old new fault → Cause (NoMemory out_of_memory) × Refuses old new
  short_given is fails = subst (Fails model Cause old new) is fails

  -- the device
  pub device_fault : fault ≡ Device → Fails model Cause old new fault → Cause Device × Breaks model old new
  device_fault is fails = subst (Fails model Cause old new) is fails

-- the device alone is left
pub only_device : {D : Type 0} (model : Ghosts D) (Cause : Fault → Type 0) (fault : Fault) (old new : KeeperState D) → old.store.has_failed ≡ false → (fault ≡ NoMemory out_of_memory → ⊥) → ((place : ℕ) → Cause (Mismatch place) → ⊥)
    → Fails model Cause old new fault → fault ≡ Device
only_device model Cause Device old new works memory mismatch fails = refl
only_device model Cause Failed old new works memory mismatch fails = let had = fails.0 in absurd (cc (had, works))
only_device model Cause (NoMemory error) old new works memory mismatch fails = absurd (memory refl)
only_device model Cause (Mismatch place) old new works memory mismatch fails = absurd (mismatch place fails.0)
only_device model Cause (Damaged offset) old new works memory mismatch fails = absurd fails
only_device model Cause Unformatted old new works memory mismatch fails = absurd fails
