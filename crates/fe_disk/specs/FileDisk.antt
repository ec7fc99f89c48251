-- What contracts see of a `FileDisk`: its file, its count of faults, and the bytes that the file has to have
-- (`docs/store.md`, "The file").
use Rattle.std.specs.Prelude.{ℕ}
use Rattle.fe_disk.specs.declared.file_disk.FileDisk.{FileDisk}
use Rattle.fe_disk.specs.declared.samples.Samples.{Samples}

-- its file
abbrev pub file_of : {D : Type 0} → FileDisk D → D
file_of disk = disk.file

-- what the file shows, as a number or as a statement
abbrev pub inner : {D T : Type 0} → (D → T) → FileDisk D → T
inner f disk = f (file_of disk)

abbrev pub inner_holds : {D : Type 0} → (D → Type 0) → FileDisk D → Type 0
inner_holds P disk = P (file_of disk)

-- its count of faults, which starts with the file's
abbrev pub fault_count : {D : Type 0} → FileDisk D → ℕ
fault_count disk = disk.failures

-- what it knows of the bytes that the file has to have
abbrev pub samples_of : {D : Type 0} → FileDisk D → Samples
samples_of disk = disk.samples
