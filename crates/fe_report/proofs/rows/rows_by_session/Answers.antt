use Rattle.std.proofs.Common.{◌≡◌, ℕ, ◌<◌, inl, inr, Some, IsSome, is_some, length, sym, ap, subst, ◌∙◌, arith}
use Rattle.std.specs.Cmp.{nat_cmp_total}
use Rattle.std.specs.Ordering.{nat_cmp}
use Rattle.std.specs.FinMap.{get, find, nat_cmp-IsAntisymmetric}
use Rattle.fe_state.specs.Sessions.{Session}
use Rattle.fe_state.proofs.Listed.{entry_of_key, key_there}
use Rattle.fe_table.proofs.TableCopyLemmas.{made_all}
use Rattle.fe_service.specs.AttachmentsState.{count_of}
use Rattle.fe_report.specs.Report.{by_session}
use Rattle.fe_report.specs.within.Rows.{ArePart}
use Rattle.fe_report.proofs.Parts.{no_part, more, still_there, now_there, whole, one_more_at_most}
use Rattle.fe_report.proofs.Seen.{none_seen, one_more_seen, counted_session_there}
use Rattle.fe_report.proofs.WaitingAccesses.{get-by_session, count-counted}
use Rattle.fe_report.proofs.rows.rows_by_session.Goals as goal
use Rattle.fe_report.proofs.rows.rows_by_session.Goals.{then-count-gt0+in_ok-insert, else-count-gt0}

pub loop-k-init : goal.loop-k-init
loop-k-init c = record {
  part = no_part nat_cmp_total nat_cmp-IsAntisymmetric (by_session c.args.front.now.service.waiting) c.new-rows.result.entries c.new-rows.ensures.empty;
  whole = λ q seen _. none_seen c.state-state.result.now.sessions q seen;
  few = let size = ap length c.new-rows.ensures.empty in omega (arith, size);
}

pub unwrap-session-requires : goal.unwrap-session-requires
unwrap-session-requires c = subst IsSome (sym c.session_at.ensures) (key_there c.state-state.result.now.sessions c.loop-k.k (subst (λ n. c.loop-k.k < n) c.session_count-k-end.ensures c.loop-k-test.true))

pub loop-k-preserved : goal.loop-k-preserved
loop-k-preserved c =
    let waiting = c.args.front.now.service.waiting in
    let sessions = c.state-state.result.now.sessions in
    let got = entry_of_key c.state-state.result.now.sessions c.loop-k.k c.unwrap-session.result (sym c.session_at.ensures ∙ c.unwrap-session.ensures) in
    let e : ℕ × Session = (c.unwrap-session.result, got.0) in
    let entry = got.1 in
    let seen = one_more_seen sessions c.loop-k.k e entry in
    let old = c.loop-k.rows.entries in
    let new = c.if-count-gt0.rows.entries in
    let count = c.count_of-count.result in
    let counted : count ≡ count_of waiting e.0 = c.count_of-count.ensures ∙ ap (λ w. count_of w e.0) (c.attachments.ensures.waiting ∙ ap (λ service. service.waiting) c.service.ensures) in
    elim c.if-count-gt0.branch [
      | then-count-gt0+in_ok-insert w ↦
          let made_now = ap (λ rows. rows.entries) w.rows-is ∙ w.in_ok-insert.ensures.entries in
          let row = get-by_session waiting e.0 (subst (λ n. 0 < n) counted w.if-count-gt0.true) ∙ ap Some (sym counted) in
          record {
            part = more nat_cmp_total nat_cmp-IsAntisymmetric (by_session waiting) old new e.0 count made_now c.loop-k.invariant.part row;
            whole = λ q there row. elim (seen q there) as (λ _. IsSome (find nat_cmp q new)) [
              | inl same ↦ now_there nat_cmp_total nat_cmp-IsAntisymmetric old new e.0 count made_now q same
              | inr before ↦ still_there nat_cmp_total nat_cmp-IsAntisymmetric old new e.0 count made_now q (c.loop-k.invariant.whole q before row)
            ];
            few = one_more_at_most (is_some w.in_ok-insert.field-0) (length new) (length old) c.loop-k.k (ap (λ rows. length rows.entries) w.rows-is ∙ w.in_ok-insert.ensures.len) c.loop-k.invariant.few;
          }
      | else-count-gt0 w ↦
          let kept = ap (λ rows. rows.entries) w.rows-is in
          record {
            part = subst (λ es. ArePart (by_session waiting) es) (sym kept) c.loop-k.invariant.part;
            whole = λ q there row. elim (seen q there) as (λ _. IsSome (find nat_cmp q new)) [
              | inl same ↦
                  let some : 0 < count = subst (λ n. 0 < n) (sym (counted ∙ ap (count_of waiting) (sym same))) (count-counted waiting q row) in
                  absurd (omega (arith, some, w.if-count-gt0.false))
              | inr before ↦ subst (λ es. IsSome (find nat_cmp q es)) (sym kept) (c.loop-k.invariant.whole q before row)
            ];
            few = let size = ap length kept in omega (arith, size, c.loop-k.invariant.few);
          }
    ]

pub returns-clause-rows : goal.returns-clause-rows
returns-clause-rows c =
    let f = c.args.front.now in
    let all = made_all c.state-state.result.now.sessions c.loop-k.k (omega (arith, c.session_count-k-end.ensures, c.loop-k-test.false)) in
    whole nat_cmp_total nat_cmp-IsAntisymmetric (by_session f.service.waiting) c.loop-k.rows.entries c.loop-k.invariant.part
    (λ q row.
    c.loop-k.invariant.whole
    q
    (subst (λ m. IsSome (get m q)) (sym all) (subst (λ state. IsSome (get state.sessions q)) (sym c.state-state.ensures.state) (counted_session_there f.service c.state-state.ensures.front.service q row)))
    row)
