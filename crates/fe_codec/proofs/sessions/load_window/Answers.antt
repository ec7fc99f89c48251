use Rattle.std.proofs.Common.{◌≡◌, ℕ, List, Option, Some, None, Ok, refl, arith}
use Rattle.fe_format.specs.declared.format.Format.{Format}
use Rattle.fe_state.specs.State.{ServerState}
use Rattle.fe_state.specs.declared.kept.Kept.{Kept}
use Rattle.fe_codec.specs.declared.fault.Fault.{Fault}
use Rattle.fe_codec.specs.FirstFault.{next_kept, kept_at, with_kept}
use Rattle.fe_codec.specs.Loading.{GivesFault}
use Rattle.fe_codec.proofs.Repeats.{begins, goes_on, stops, stopped, is_done}
use Rattle.fe_codec.proofs.LoadingLemmas.{keys_same, keys_then, kept_put}
use Rattle.fe_codec.proofs.sessions.load_window.Goals as goal

-- an answer that is read is kept
goes : (format : Format) (session floor : ℕ) (previous : Option ℕ) (s t : ServerState) (number : ℕ) (kept : Kept) (bytes rest : List ℕ) → kept_at format s.place session floor previous bytes ≡ Ok ((number, kept), rest) → t ≡ with_kept s session (number, kept)
    → next_kept format session floor (previous, s, bytes) ≡ Ok (Some number, t, rest)
unfolding next_kept
goes format session floor previous s t number kept bytes rest read is = rw (read, is) refl

-- and a fault in it is one of the session
fails : (format : Format) (session floor : ℕ) (previous : Option ℕ) (s : ServerState) (bytes : List ℕ) (fault : Fault) → GivesFault fault (kept_at format s.place session floor previous bytes) → GivesFault fault (next_kept format session floor (previous, s, bytes))
unfolding next_kept
fails format session floor previous s bytes fault h = stopped fault (kept_at format s.place session floor previous bytes) _ h

pub loop-init : goal.loop-init
loop-init c = (begins (next_kept c.args.format c.args.session c.args.floor) c.args.count (None, c.args.state.now, c.args.bytes.now), c.requires.floor, keys_same c.args.state.now.sessions)

pub returns-in-Err-clause-given : goal.returns-in-Err-clause-given
returns-in-Err-clause-given c =
    stops (next_kept c.args.format c.args.session c.args.floor) c.args.count c.loop.counter (c.loop.previous, c.loop.state, c.loop.rest.now) _ c.loop.invariant.0 c.in-Err.fault (omega arith)
    (fails c.args.format c.args.session c.args.floor c.loop.previous c.loop.state c.loop.rest.now c.in-Err.fault (rw c.place.ensures.place at c.in-Err.ensures.given))

pub loop-preserved : goal.loop-preserved
loop-preserved c =
    let s = c.loop.state in
    let put = kept_put s.sessions c.args.session c.args.floor c.in-Ok.number c.in-Ok.kept c.loop.invariant.1 in (
      goes_on (next_kept c.args.format c.args.session c.args.floor) c.args.count c.loop.counter (c.loop.previous, s, c.loop.rest.now) _ c.loop.invariant.0 _ (omega arith)
          (goes c.args.format c.args.session c.args.floor c.loop.previous s c.load_kept.new.self c.in-Ok.number c.in-Ok.kept c.loop.rest.now c.in-Ok.behind.now (rw c.place.ensures.place at c.in-Ok.ensures.given) c.load_kept.ensures),
      rw c.load_kept.ensures put.0,
      keys_then _ _ _ c.loop.invariant.2 (rw c.load_kept.ensures put.1),
    )

pub returns : goal.returns
returns c = record {
  given = is_done (next_kept c.args.format c.args.session c.args.floor) c.args.count c.loop.counter (c.loop.previous, c.loop.state, c.loop.rest.now) _ c.loop.invariant.0 (omega arith);
  keys = c.loop.invariant.2;
}
