-- What one reading of a store says, over a disk that nobody else writes (`docs/store.md`, "A copy while the
-- store is written").
use Rattle.std.specs.Prelude.{◌≡◌, ◌≢◌, ◌↔◌, ◌+◌, ◌≤◌, ℕ, List, length, Result, IsErr, IsErrOf, OnOk, ◌⊎◌}
use Rattle.fe_memory.specs.Memory.{out_of_memory}
use Rattle.fe_disk.specs.declared.calls.Calls.{Calls}
use Rattle.fe_journal.specs.Layout.{device_bytes}
use Rattle.fe_journal.specs.Contents.{Contents, Holds}
use Rattle.fe_journal.specs.Damage.{IsUnformatted, IsDamagedAt}
use Rattle.fe_disk.specs.Disk.{Rises}
use Rattle.fe_disk.specs.declared.disk.Disk.{Ghosts}
use Rattle.fe_journal.specs.Journal.{OnlyReads}
use Rattle.fe_store.specs.declared.fault.OpenFault.{OpenFault}
use Rattle.fe_store.specs.declared.fault.OpenFault.TheVariants as fault
use Rattle.fe_look.specs.declared.reading.Reading.{Reading}
use Rattle.fe_look.specs.declared.reading.Reading.TheVariants.{Unformatted, Overtaken, Whole}

-- A store and its copy show the same: both have the same size; the same slot counts in both, with the same
-- contents; if one has no valid slot, neither has the other; and the first damage is at the same offset.
-- Bytes that show nothing of these may differ.
pub record IsCopyOf (image copy : List ℕ) : Type 0 where
  pub whole : length copy ≡ length image
  pub holds : (c : Contents) → Holds c image ↔ Holds c copy
  pub unformatted : IsUnformatted image ↔ IsUnformatted copy
  pub damaged : (offset : ℕ) → IsDamagedAt image offset ↔ IsDamagedAt copy offset

-- at least this many more reads of a disk were counted
abbrev pub HasRead : ℕ → Calls → Calls → Type 0
HasRead count before now = before.reads + count ≤ now.reads

-- exactly this many more reads were counted
abbrev pub ReadsJust : ℕ → Calls → Calls → Type 0
ReadsJust count before now = now.reads ≡ before.reads + count

-- exactly this many more syncs were counted
abbrev pub SyncsJust : ℕ → Calls → Calls → Type 0
SyncsJust count before now = now.syncs ≡ before.syncs + count

-- No write of the disk was counted. It has its size, and is honest exactly if it was. If so, it was only read
-- or synced.
pub record KeepsDisk {D : Type 0} (model : Ghosts D) (old new : D) : Type 0 where
  pub unwritten : (model.calls new).writes ≡ (model.calls old).writes
  pub counts : HasRead 0 (model.calls old) (model.calls new)
  pub honesty : model.honest new ↔ model.honest old
  pub same_size : model.size new ≡ model.size old
  pub reads : model.honest old → OnlyReads model old new

-- The same of a call that fails exactly if the count of faults rose, and leaves that count as it was if it
-- succeeds. It makes no sync.
pub record OnlyAsks {D T E : Type 0} (model : Ghosts D) (result : Result T E) (old new : D) : Type 0 where
  pub fault : IsErr result ↔ Rises (model.failures old) (model.failures new)
  pub still : OnOk result (model.failures new ≡ model.failures old)
  pub unsynced : SyncsJust 0 (model.calls old) (model.calls new)
  pub kept : KeepsDisk model old new

-- What a reading read: if no slot counts, just both headers and their gates; else also, in five reads or
-- more, the image, a gate, the journal area, and the header and its gate again.
abbrev pub ReadsFor : Reading → Calls → Calls → Type 0
ReadsFor Unformatted before now = ReadsJust 4 before now
ReadsFor Overtaken before now = HasRead 9 before now
ReadsFor (Whole bytes) before now = HasRead 9 before now

-- A store is given up, without a fault of its disk and with the size of a store, only after a hundred
-- readings, each of which makes four reads at least, of both headers and their gates. It is `Unformatted`
-- only if none made more, and `Device` only if one made five more.
pub record GivesUpLate {D T : Type 0} (model : Ghosts D) (result : Result T OpenFault)
    (old new : D) : Type 0 where
  pub device : IsErrOf result fault.Device
      → Rises (model.failures old) (model.failures new) ⊎ HasRead 405 (model.calls old) (model.calls new)
  pub unformatted : IsErrOf result fault.Unformatted
      → (model.size old ≢ device_bytes) ⊎ ReadsJust 400 (model.calls old) (model.calls new)

-- What a reading found is true of the image, and no checkpoint began meanwhile.
abbrev pub TellsReading : List ℕ → Reading → Type 0
TellsReading image Unformatted = IsUnformatted image
TellsReading image Overtaken = ⊥
TellsReading image (Whole bytes) = IsCopyOf image bytes.items

abbrev pub IsDeviceOrMemory : OpenFault → Type 0
IsDeviceOrMemory why = (why ≡ fault.Device) ⊎ (why ≡ fault.Memory out_of_memory)
