use Rattle.std.proofs.Common.{None, refl, ◌∙◌, arith}
use Rattle.std.proofs.lemmas.Result.{err_from_is_err_and}
use Rattle.fe_codec.specs.FirstFault.{next_array}
use Rattle.fe_codec.proofs.Repeats.{begins, goes_on, stops, is_done}
use Rattle.fe_codec.proofs.arrays.read_arrays.Goals as goal

pub loop-init : goal.loop-init
loop-init c = (begins (next_array c.args.format) c.args.count (None, c.args.state.now, c.args.bytes.now), c.requires.fresh, omega (arith, c.requires.none), refl)

pub returns-in_err-id-clause-given : goal.returns-in_err-id-clause-given
returns-in_err-id-clause-given c =
    let p = err_from_is_err_and c.from_residual.result c.from_residual.ensures.1 in
    rw (p.1, p.2) (stops (next_array c.args.format) c.args.count c.loop.counter (c.loop.previous, c.loop.state, c.loop.rest.now) _ c.loop.invariant.0 c.in_err-id.field-0.0 (omega arith) c.in_err-id.ensures.given)

pub next_array-requires-clause-few : goal.next_array-requires-clause-few
next_array-requires-clause-few c = omega (arith, c.loop.invariant.2, c.requires.few)

pub loop-preserved : goal.loop-preserved
loop-preserved c = (
  goes_on (next_array c.args.format) c.args.count c.loop.counter (c.loop.previous, c.loop.state, c.loop.rest.now) _ c.loop.invariant.0 _ (omega arith) c.in_ok-id.ensures.given,
  c.in_ok-id.ensures.added.fresh,
  omega (arith, c.in_ok-id.ensures.added.few, c.loop.invariant.2),
  c.in_ok-id.ensures.added.sessions ∙ c.loop.invariant.3,
)

pub returns : goal.returns
returns c = record {
  given = is_done (next_array c.args.format) c.args.count c.loop.counter (c.loop.previous, c.loop.state, c.loop.rest.now) _ c.loop.invariant.0 (omega arith);
  sessions = c.loop.invariant.3;
}
