use Rattle.std.proofs.Common.{◌≡◌, ◌<◌, ◌||◌, ◌&&◌, ◌==◌, not, ℕ, inl, inr, true, true≢false, IsSome, sym, ap, subst, ◌∙◌, arith}
use Rattle.std.specs.FinMap.{get}
use Rattle.fe_state.specs.Sessions.{Session}
use Rattle.fe_state.proofs.Listed.{entry_of_key, key_there}
use Rattle.fe_table.proofs.TableCopyLemmas.{made_all}
use Rattle.fe_service.specs.AttachmentsState.{count_of}
use Rattle.fe_front.specs.Front.{is_attached}
use Rattle.fe_report.proofs.AllWait.{or_either, or_left, or_right, and_first, and_second, and_both, same_zero, zero_same, attached_there, all_wait}
use Rattle.fe_report.proofs.Seen.{none_seen, one_more_seen}
use Rattle.fe_report.proofs.rows.do_all_wait.Goals as goal

pub loop-k-init : goal.loop-k-init
loop-k-init c = record {
  attached_is = λ e. absurd (true≢false (sym e));
  attached_all = λ s seen _. none_seen c.state-state.result.now.sessions s seen;
  idle_is = λ e. absurd (true≢false (sym e));
  idle_all = λ s seen _ _. none_seen c.state-state.result.now.sessions s seen;
}

pub unwrap-session-requires : goal.unwrap-session-requires
unwrap-session-requires c = subst IsSome (sym c.session_at.ensures) (key_there c.state-state.result.now.sessions c.loop-k.k (subst (λ n. c.loop-k.k < n) c.session_count-k-end.ensures c.loop-k-test.true))

pub loop-k-preserved : goal.loop-k-preserved
loop-k-preserved c =
    let f = c.args.front.now in
    let got = entry_of_key c.state-state.result.now.sessions c.loop-k.k c.unwrap-session.result (sym c.session_at.ensures ∙ c.unwrap-session.ensures) in
    let e : ℕ × Session = (c.unwrap-session.result, got.0) in
    let entry = got.1 in
    let here = c.attached-here.result in
    let none = c.count_of-none.result == 0 in
    let count : c.count_of-none.result ≡ count_of f.service.waiting e.0 = c.count_of-none.ensures ∙ ap (λ waiting. count_of waiting e.0) (c.attachments.ensures.waiting ∙ ap (λ service. service.waiting) c.service.ensures) in
    let seen = one_more_seen c.state-state.result.now.sessions c.loop-k.k e entry in
    record {
      attached_is = λ h. elim (or_either c.loop-k.attached here h) as (λ _. (s : ℕ) × (is_attached f s ≡ true)) [
        | inl before ↦ c.loop-k.invariant.attached_is before
        | inr now ↦ (e.0, sym c.attached-here.ensures ∙ now)
      ];
      attached_all = λ s there h. elim (seen s there) as (λ _. (c.loop-k.attached || here) ≡ true) [
        | inl same ↦ or_right c.loop-k.attached here (c.attached-here.ensures ∙ ap (is_attached f) (sym same) ∙ h)
        | inr before ↦ or_left c.loop-k.attached here (c.loop-k.invariant.attached_all s before h)
      ];
      idle_is = λ h. elim (or_either c.loop-k.idle (here && none) h) as (λ _. (s : ℕ) × (is_attached f s ≡ true) × (count_of f.service.waiting s ≡ 0)) [
        | inl before ↦ c.loop-k.invariant.idle_is before
        | inr now ↦ (e.0, sym c.attached-here.ensures ∙ and_first here none now, sym count ∙ same_zero _ (and_second here none now))
      ];
      idle_all = λ s there h z. elim (seen s there) as (λ _. (c.loop-k.idle || (here && none)) ≡ true) [
        | inl same ↦ or_right c.loop-k.idle (here && none) (and_both here none (c.attached-here.ensures ∙ ap (is_attached f) (sym same) ∙ h) (zero_same _ (count ∙ ap (count_of f.service.waiting) (sym same) ∙ z)))
        | inr before ↦ or_left c.loop-k.idle (here && none) (c.loop-k.invariant.idle_all s before h z)
      ];
    }

pub returns-then-attached : goal.returns-then-attached
returns-then-attached c =
    let f = c.args.front.now in
    let sessions = c.state-state.result.now.sessions in
    let all = made_all sessions c.loop-k.k (omega (arith, c.session_count-k-end.ensures, c.loop-k-test.false)) in
    let seen = λ (s : ℕ) (h : is_attached f s ≡ true). subst (λ m. IsSome (get m s)) (sym all) (subst (λ state. IsSome (get state.sessions s)) (sym c.state-state.ensures.state) (attached_there f c.state-state.ensures.front.service s h)) in
    ap (λ a. a && not c.loop-k.idle) (sym c.if-attached.true)
    ∙ all_wait
    f
    c.loop-k.attached
    c.loop-k.idle
    c.loop-k.invariant.attached_is
    (λ s h. c.loop-k.invariant.attached_all s (seen s h) h)
    c.loop-k.invariant.idle_is
    (λ s h z. c.loop-k.invariant.idle_all s (seen s h) h z)

pub returns-else-attached : goal.returns-else-attached
returns-else-attached c =
    let f = c.args.front.now in
    let sessions = c.state-state.result.now.sessions in
    let all = made_all sessions c.loop-k.k (omega (arith, c.session_count-k-end.ensures, c.loop-k-test.false)) in
    let seen = λ (s : ℕ) (h : is_attached f s ≡ true). subst (λ m. IsSome (get m s)) (sym all) (subst (λ state. IsSome (get state.sessions s)) (sym c.state-state.ensures.state) (attached_there f c.state-state.ensures.front.service s h)) in
    c.if-attached.false
    ∙ ap (λ a. a && not c.loop-k.idle) (sym c.if-attached.false)
    ∙ all_wait
    f
    c.loop-k.attached
    c.loop-k.idle
    c.loop-k.invariant.attached_is
    (λ s h. c.loop-k.invariant.attached_all s (seen s h) h)
    c.loop-k.invariant.idle_is
    (λ s h z. c.loop-k.invariant.idle_all s (seen s h) h z)
