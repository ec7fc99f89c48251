use Rattle.std.proofs.Common.{true, take, vec_capacity}
use Rattle.std.specs.Prelude.{flat_map}
use Rattle.std.specs.List.{AllByRecursion}
use Rattle.std.specs.FinMap.{entries}
use Rattle.fe_codec.specs.Appending.{Appends}
use Rattle.fe_codec.specs.Image.{array_spelling, ArrayFits}
use Rattle.fe_codec.proofs.writing.put_arrays.Given as goal

abbrev pub invariant-loop-k : goal.invariant-loop-k
invariant-loop-k l = Appends l.fn.out.items l.out.items (vec_capacity l.fn.out) (vec_capacity l.out) true (flat_map (array_spelling l.format) (take l.k (entries l.state.arrays)))
    × AllByRecursion ArrayFits (take l.k (entries l.state.arrays))
