-- What contracts see of a `Liar`, the disk that always reads the same bytes (`docs/proved.md`, "The store").
use Rattle.std.specs.Prelude.{ℕ, List, length}
use Rattle.fe_disk.specs.declared.calls.Calls.{Calls}
use Rattle.fe_disk.specs.declared.liar.Liar.{Liar}

-- the bytes that it reads, whatever is written
abbrev pub liar_bytes : Liar → List ℕ
liar_bytes disk = disk.bytes.items

abbrev pub byte_count : Liar → ℕ
byte_count disk = length (liar_bytes disk)

-- how many calls of each kind were made
abbrev pub calls_of : Liar → Calls
calls_of disk = disk.calls

abbrev pub fault_count : Liar → ℕ
fault_count disk = disk.failures
