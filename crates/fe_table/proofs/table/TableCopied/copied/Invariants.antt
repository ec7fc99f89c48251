use Rattle.std.proofs.Common.{◌≡◌, ◌≤◌, take}
use Rattle.std.specs.FinMap as map
use Rattle.fe_table.proofs.table.TableCopied.copied.Given as goal

abbrev pub invariant-loop-position : goal.invariant-loop-position
invariant-loop-position g l = (l.copy ≡ map.from_entries (take l.position (map.entries l.self))) × (map.len l.copy ≤ l.position)
