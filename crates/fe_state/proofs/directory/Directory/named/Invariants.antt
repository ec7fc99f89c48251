use Rattle.std.proofs.Common.{◌≡◌, drop}
use Rattle.std.specs.List.{find}
use Rattle.std.specs.Str.{bytes_eq}
use Rattle.std.specs.FinMap.{entries}
use Rattle.fe_state.specs.Directory.{named}
use Rattle.fe_state.proofs.directory.Directory.named.Given as goal

abbrev pub invariant-loop-k : goal.invariant-loop-k
invariant-loop-k l = find (λ e. bytes_eq e.1.name l.name) (drop l.k (entries l.table)) ≡ named l.table l.name
