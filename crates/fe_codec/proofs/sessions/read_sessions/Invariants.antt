use Rattle.std.proofs.Common.{◌≡◌, ◌-◌, ◌≤◌, None}
use Rattle.std.specs.FinMap.{len}
use Rattle.fe_codec.specs.FirstFault.{repeated, next_session}
use Rattle.fe_codec.specs.Loading.{HasNoneAfter}
use Rattle.fe_codec.proofs.sessions.read_sessions.Given as goal

abbrev pub invariant-loop : goal.invariant-loop
invariant-loop l =
    (repeated (next_session l.format) (l.count - l.counter) (l.previous, l.state, l.rest) ≡ repeated (next_session l.format) l.count (None, l.fn.state, l.bytes))
    × HasNoneAfter l.previous l.state.sessions
    × (len l.state.sessions ≤ l.counter)
