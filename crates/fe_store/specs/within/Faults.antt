-- Which fault is reported when a store is not opened (`docs/operating.md`, "What a server says").
use Rattle.std.specs.Prelude.{◌≡◌}
use Rattle.fe_disk.specs.declared.file_fault.FileFault.{FileFault}
use Rattle.fe_disk.specs.declared.file_fault.FileFault.TheVariants as file
use Rattle.fe_keeper.specs.declared.fault.Fault as keeper
use Rattle.fe_keeper.specs.declared.fault.Fault.TheVariants as store
use Rattle.fe_store.specs.declared.fault.OpenFault.{OpenFault}
use Rattle.fe_store.specs.declared.fault.OpenFault.TheVariants as fault

-- the fault when no disk can be made over a file; a missing file is reported as `Device` too
abbrev pub fault_of_file : FileFault → OpenFault
fault_of_file file.Missing = fault.Device
fault_of_file (file.WrongSize found) = fault.Size found
fault_of_file file.Device = fault.Device

-- the fault when a keeper is not opened; opening never ends with `Failed` or `Mismatch`
abbrev pub IsOpenFaultOf : keeper.Fault → OpenFault → Type 0
IsOpenFaultOf store.Device answer = answer ≡ fault.Device
IsOpenFaultOf (store.NoMemory error) answer = answer ≡ fault.Memory error
IsOpenFaultOf (store.Damaged offset) answer = answer ≡ fault.Damaged offset
IsOpenFaultOf store.Unformatted answer = answer ≡ fault.Unformatted
IsOpenFaultOf store.Failed answer = ⊥
IsOpenFaultOf (store.Mismatch place) answer = ⊥
