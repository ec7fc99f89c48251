use Rattle.std.proofs.Common.{◌≡◌, ◌-◌, Some, None}
use Rattle.std.specs.FinMap.{get}
use Rattle.std.specs.Option.{option_map}
use Rattle.fe_codec.specs.FirstFault.{repeated, next_kept}
use Rattle.fe_codec.specs.Loading.{KeepsKeys}
use Rattle.fe_codec.proofs.sessions.load_window.Given as goal

abbrev pub invariant-loop : goal.invariant-loop
invariant-loop l =
    (repeated (next_kept l.format l.session l.floor) (l.count - l.counter) (l.previous, l.state, l.rest) ≡ repeated (next_kept l.format l.session l.floor) l.count (None, l.fn.state, l.bytes))
    × (option_map (λ x. x.floor) (get l.state.sessions l.session) ≡ Some l.floor)
    × KeepsKeys l.fn.state.sessions l.state.sessions
