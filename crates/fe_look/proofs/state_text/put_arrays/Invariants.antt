use Rattle.std.proofs.Common.{◌≡◌, ◌++◌, take, string_bytes}
use Rattle.std.specs.Prelude.{flat_map}
use Rattle.std.specs.FinMap.{entries}
use Rattle.fe_look.specs.Look.{array_line}
use Rattle.fe_look.proofs.state_text.put_arrays.Given as goal

abbrev pub invariant-loop-k : goal.invariant-loop-k
invariant-loop-k l = string_bytes l.text ≡ string_bytes l.fn.text ++ flat_map array_line (take l.k (entries l.state.arrays))
