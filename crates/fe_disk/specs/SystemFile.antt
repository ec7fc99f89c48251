-- What contracts see of a `SystemFile`: its size and its counts, and nothing of its bytes (`docs/store.md`,
-- "The file").
use Rattle.std.specs.Prelude.{ℕ}
use Rattle.fe_disk.specs.declared.calls.Calls.{Calls}
use Rattle.fe_disk.specs.declared.system_file.SystemFile.{SystemFile}

abbrev pub file_size : SystemFile → ℕ
file_size file = file.size

abbrev pub fault_count : SystemFile → ℕ
fault_count file = file.failures

-- how many calls of each kind were made
abbrev pub calls_of : SystemFile → Calls
calls_of file = file.calls
