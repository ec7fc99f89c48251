use Rattle.std.proofs.Common.{ℕ, ◌<◌, IsSome, length, sym, ap, subst, ◌∙◌, arith, rules}
use Rattle.std.proofs.lemmas.List.Sorted.{answers_always}
use Rattle.std.specs.FinMap.{get, len-entries}
use Rattle.fe_state.specs.Sessions.{Session}
use Rattle.fe_state.proofs.Listed.{entry_of_key, key_there}
use Rattle.fe_table.proofs.TableCopyLemmas.{made_all}
use Rattle.fe_report.specs.Report.{by_word}
use Rattle.fe_report.proofs.Added.{no_rows, more_rows}
use Rattle.fe_report.proofs.Parts.{whole}
use Rattle.fe_report.proofs.Rising.{sorted_part, sorted_there}
use Rattle.fe_report.proofs.Seen.{word_session_there}
use Rattle.fe_report.proofs.Spots.{spot_cmp_total, spot_cmp-IsAntisymmetric}
use Rattle.fe_report.proofs.WaitingAccesses.{len-by_word, row_there}
use Rattle.fe_report.proofs.rows.rows_by_word.Goals as goal

pub loop-k-init : goal.loop-k-init
loop-k-init c = no_rows c.args.front.now.service.waiting c.state-state.result.now.sessions _ (ap length c.in_ok-rows.ensures.items)

pub unwrap-session-requires : goal.unwrap-session-requires
unwrap-session-requires c = subst IsSome (sym c.session_at.ensures) (key_there c.state-state.result.now.sessions c.loop-k.k (subst (λ n. c.loop-k.k < n) c.session_count-k-end.ensures c.loop-k-test.true))

pub loop-k-preserved : goal.loop-k-preserved
loop-k-preserved c =
    let got = entry_of_key c.state-state.result.now.sessions c.loop-k.k c.unwrap-session.result (sym c.session_at.ensures ∙ c.unwrap-session.ensures) in
    let e : ℕ × Session = (c.unwrap-session.result, got.0) in
    let entry = got.1 in
    more_rows c.args.front.now.service.waiting c.state-state.result.now.sessions c.loop-k.k e entry _ _ c.loop-k.invariant c.in_ok-add_session.ensures.added

pub returns-clause-rows : goal.returns-clause-rows
returns-clause-rows c =
    let f = c.args.front.now in
    let all = made_all c.state-state.result.now.sessions c.loop-k.k (omega (arith, c.session_count-k-end.ensures, c.loop-k-test.false)) in
    let rows = c.loop-k.invariant in
    let sorts = c.sort_unstable_by_key.ensures in
    let sorted = sorts.sorted (λ e. e.0) (answers_always _ _ _ (λ g a r h called. search rules)) in
    let m = by_word f.service.waiting in
    let part = sorted_part spot_cmp_total spot_cmp-IsAntisymmetric m _ _ sorts.permutation sorted rows.once (λ q op d. (rows.sound q op d).0) in
    whole spot_cmp_total spot_cmp-IsAntisymmetric m _ part (λ q row.
    let one = row_there (get m q) row in
    let seen = subst (λ n. IsSome (get n q.1.0)) (sym all) (subst (λ state. IsSome (get state.sessions q.1.0)) (sym c.state-state.ensures.state) (word_session_there f.service c.state-state.ensures.front.service q row)) in
    sorted_there spot_cmp_total spot_cmp-IsAntisymmetric m _ _ sorts.permutation sorted rows.once q one.0 (rows.whole q one.0 one.1 seen))

pub returns-clause-few : goal.returns-clause-few
returns-clause-few c =
    let f = c.args.front.now in
    let size = ap length (returns-clause-rows c) ∙ sym (len-entries (by_word f.service.waiting)) in
    omega (arith, size, len-by_word f.service.waiting, c.state-state.ensures.front.few_waiting)
