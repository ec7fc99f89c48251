use Rattle.std.proofs.Common.{true, sym, arith}
use Rattle.std.specs.FinMap.{entries, len-entries}
use Rattle.fe_codec.specs.Image.{session_spelling, SessionFits}
use Rattle.fe_codec.proofs.Appends.{appends_nothing, found_appended, found_failed, items_appended, failed}
use Rattle.fe_codec.proofs.Elements.{all_at, found_within, all_found, all_taken}
use Rattle.fe_codec.proofs.writing.put_sessions.Goals as goal
use Rattle.fe_codec.proofs.writing.put_sessions.Goals.{in-Some+in_ok-put_session, in_default}

pub loop-k-init : goal.loop-k-init
loop-k-init c = (appends_nothing _ _ _ (omega arith), tt)

pub put_session-requires : goal.put_session-requires
put_session-requires c = all_at _ (entries c.args.state.now.sessions) c.loop-k.k _ c.requires (sym c.in-Some.ensures)

pub returns-in_err-put_session-clause-appends : goal.returns-in_err-put_session-clause-appends
returns-in_err-put_session-clause-appends c =
    failed c.from_residual.result _ _ _ _ _ c.from_residual.ensures.0
    (found_failed (session_spelling c.args.format) (entries c.args.state.now.sessions) c.loop-k.k _ (sym c.in-Some.ensures) _ _ _ _ _ _ c.loop-k.invariant.0 c.in_err-put_session.ensures.appends)

pub loop-k-preserved : goal.loop-k-preserved
loop-k-preserved c =
    elim c.match-session_entry.branch [
      | in-Some+in_ok-put_session w ↦ rw w.out-is (found_appended (session_spelling c.args.format) (entries c.args.state.now.sessions) c.loop-k.k _ (sym w.in-Some.ensures) _ _ _ _ _ _ true c.loop-k.invariant.0 w.in_ok-put_session.ensures.appends, all_found SessionFits (entries c.args.state.now.sessions) c.loop-k.k _ (sym w.in-Some.ensures) c.loop-k.invariant.1 w.in_ok-put_session.ensures.fits)
      | in_default w ↦ absurd (found_within _ c.session_entry.result (entries c.args.state.now.sessions) c.loop-k.k c.session_entry.ensures (omega (arith, len-entries c.args.state.now.sessions)) w.in_default.is)
    ]

pub returns : goal.returns
returns c = record {
  appends = items_appended (session_spelling c.args.format) (entries c.args.state.now.sessions) _ _ _ _ c.loop-k.k (omega (arith, len-entries c.args.state.now.sessions)) c.loop-k.invariant.0;
  fits = all_taken SessionFits (entries c.args.state.now.sessions) c.loop-k.k (omega (arith, len-entries c.args.state.now.sessions)) c.loop-k.invariant.1;
}
