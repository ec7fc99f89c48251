use Rattle.std.proofs.Common.{◌≡◌, ◌∙◌, ◌+◌, ℕ, Some, refl, sym, arith}
use Rattle.std.specs.FinMap.{empty, len}
use Rattle.fe_state.proofs.Maps.{get_inserted}
use Rattle.fe_state.specs.Sessions.{Session}
use Rattle.fe_codec.proofs.LoadingLemmas.{fresh_next, fresh_kept, one_more}
use Rattle.fe_codec.proofs.sessions.next_session.Goals as goal

-- a session that keeps nothing
abbrev blank : ℕ → Session
blank floor = record { floor = floor; kept = empty }

pub load_window-requires-clause-floor : goal.load_window-requires-clause-floor
load_window-requires-clause-floor c = rw (c.load_session.ensures, get_inserted c.args.state.now.sessions c.in_ok-session.session (blank c.in_ok-floor.floor)) refl

pub returns-clause-fresh : goal.returns-clause-fresh
returns-clause-fresh c =
    fresh_kept (Some c.in_ok-session.session) c.load_session.new.self.sessions c.load_window.new.state.sessions
    (rw c.load_session.ensures (fresh_next c.args.previous c.args.state.now.sessions c.in_ok-session.session (blank c.in_ok-floor.floor) c.requires.fresh (sym c.is_after.ensures ∙ c.if-not-is_after.false)))
    c.in_ok-rest.ensures.keys

pub returns-clause-few : goal.returns-clause-few
returns-clause-few c =
    let came : len c.load_session.new.self.sessions ≡ len c.args.state.now.sessions + 1 =
    rw c.load_session.ensures (one_more c.args.state.now.sessions c.in_ok-session.session (blank c.in_ok-floor.floor) (c.requires.fresh c.in_ok-session.session (sym c.is_after.ensures ∙ c.if-not-is_after.false))) in
    omega (arith, came, c.in_ok-rest.ensures.keys.count)
