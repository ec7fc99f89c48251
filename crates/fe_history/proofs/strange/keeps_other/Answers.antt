use Rattle.std.proofs.Common.{◌<◌, sym, ap, subst, ◌∙◌, arith}
use Rattle.std.proofs.lemmas.Bool.{OnTrue_at, OnFalse_at}
use Rattle.std.specs.Cmp.{nat_cmp_total}
use Rattle.std.specs.Option.{option_map}
use Rattle.std.specs.FinMap.{nat_cmp-IsAntisymmetric}
use Rattle.fe_state.specs.Sessions.{kept_in}
use Rattle.fe_state.specs.State.{shown_session}
use Rattle.fe_state.proofs.Listed.{entry_there}
use Rattle.fe_report.proofs.Listed.{get-at}
use Rattle.fe_history.proofs.Kept.{AllAsIssued, of_none, of_one_more, kept_as_issued}
use Rattle.fe_history.proofs.strange.keeps_other.Goals as goal

pub loop-k-init : goal.loop-k-init
loop-k-init c = of_none c.args.state.now.sessions (AllAsIssued c.args.receipt.now)

pub unwrap-session-requires : goal.unwrap-session-requires
unwrap-session-requires c = entry_there shown_session c.args.state.now.sessions c.loop-k.k c.session_entry.result c.session_entry.ensures (subst (λ n. c.loop-k.k < n) c.session_count-k-end.ensures c.loop-k-test.true)

pub returns-then-holds_other-clause-other : goal.returns-then-holds_other-clause-other
returns-then-holds_other-clause-other c =
    let sessions = c.args.state.now.sessions in
    let e = shown_session c.unwrap-session.result in
    let entry = sym c.session_entry.ensures ∙ ap (option_map shown_session) c.unwrap-session.ensures in
    let there = get-at nat_cmp_total nat_cmp-IsAntisymmetric sessions c.loop-k.k e entry in
    let found = OnTrue_at c.if-holds_other.true c.holds_other.ensures.other in
    (e.0, found.0, found.1, ap (λ o. kept_in o found.0) there ∙ found.2, found.3, found.4)

pub loop-k-preserved : goal.loop-k-preserved
loop-k-preserved c =
    let e = shown_session c.unwrap-session.result in
    let entry = sym c.session_entry.ensures ∙ ap (option_map shown_session) c.unwrap-session.ensures in
    of_one_more c.args.state.now.sessions (AllAsIssued c.args.receipt.now) c.loop-k.k e entry (OnFalse_at c.if-holds_other.false c.holds_other.ensures.none) c.loop-k.invariant

pub returns-clause-none : goal.returns-clause-none
returns-clause-none c = kept_as_issued c.args.state.now c.args.receipt.now c.loop-k.k (omega (arith, c.session_count-k-end.ensures, c.loop-k-test.false)) c.loop-k.invariant
