use Rattle.std.proofs.Common.{None, arith}
use Rattle.std.proofs.lemmas.Result.{err_from_is_err_and}
use Rattle.fe_codec.specs.FirstFault.{next_session}
use Rattle.fe_codec.proofs.Repeats.{begins, goes_on, stops, is_done}
use Rattle.fe_codec.proofs.sessions.read_sessions.Goals as goal

pub loop-init : goal.loop-init
loop-init c = (begins (next_session c.args.format) c.args.count (None, c.args.state.now, c.args.bytes.now), c.requires.fresh, omega (arith, c.requires.none))

pub next_session-requires-clause-few : goal.next_session-requires-clause-few
next_session-requires-clause-few c = omega (arith, c.loop.invariant.2, c.requires.few)

pub returns-in_err-session : goal.returns-in_err-session
returns-in_err-session c =
    let p = err_from_is_err_and c.from_residual.result c.from_residual.ensures.1 in
    rw (p.1, p.2) (stops (next_session c.args.format) c.args.count c.loop.counter (c.loop.previous, c.loop.state, c.loop.rest.now) _ c.loop.invariant.0 c.in_err-session.field-0.0 (omega arith) c.in_err-session.ensures.given)

pub loop-preserved : goal.loop-preserved
loop-preserved c = (
  goes_on (next_session c.args.format) c.args.count c.loop.counter (c.loop.previous, c.loop.state, c.loop.rest.now) _ c.loop.invariant.0 _ (omega arith) c.in_ok-session.ensures.given,
  c.in_ok-session.ensures.fresh,
  omega (arith, c.in_ok-session.ensures.few, c.loop.invariant.2),
)

pub returns : goal.returns
returns c = is_done (next_session c.args.format) c.args.count c.loop.counter (c.loop.previous, c.loop.state, c.loop.rest.now) _ c.loop.invariant.0 (omega arith)
