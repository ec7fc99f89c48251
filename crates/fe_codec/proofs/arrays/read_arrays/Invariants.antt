use Rattle.std.proofs.Common.{◌≡◌, ◌-◌, ◌≤◌, None}
use Rattle.std.specs.FinMap.{len}
use Rattle.fe_codec.specs.FirstFault.{repeated, next_array}
use Rattle.fe_codec.specs.Loading.{HasNoneAfter}
use Rattle.fe_codec.proofs.arrays.read_arrays.Given as goal

abbrev pub invariant-loop : goal.invariant-loop
invariant-loop l =
    (repeated (next_array l.format) (l.count - l.counter) (l.previous, l.state, l.rest) ≡ repeated (next_array l.format) l.count (None, l.fn.state, l.bytes))
    × HasNoneAfter l.previous l.state.arrays
    × (len l.state.arrays ≤ l.counter)
    × (l.state.sessions ≡ l.fn.state.sessions)
