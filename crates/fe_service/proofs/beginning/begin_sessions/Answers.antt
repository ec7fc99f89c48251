use Rattle.std.proofs.Common.{ℕ, ◌≤◌, ◌<◌, ◌+◌, IsSome, refl, sym, ap, subst, ◌∙◌, arith}
use Rattle.std.specs.Option.{option_map}
use Rattle.std.specs.FinMap.{get, len}
use Rattle.fe_state.specs.Sessions.{Session}
use Rattle.fe_state.proofs.Listed.{entry_of_key, key_there}
use Rattle.fe_table.proofs.TableCopyLemmas.{made_all}
use Rattle.fe_service.specs.AttachmentsState.{free_attachment}
use Rattle.fe_service.proofs.Remade.{tied_first, first_len, tied_new, tied_len, tied_next}
use Rattle.fe_service.proofs.beginning.begin_sessions.Goals as goal

pub loop-k-init : goal.loop-k-init
loop-k-init c = record {
  tied = tied_first c.args.state.now.sessions (λ _. free_attachment) c.args.attachments.now.attachments c.requires;
  few = first_len c.args.state.now.sessions (λ _. free_attachment) c.args.attachments.now.attachments c.requires;
  waiting = refl;
  arrays = refl;
}

pub unwrap-session-requires : goal.unwrap-session-requires
unwrap-session-requires c = subst IsSome (sym c.session_at.ensures) (key_there c.args.state.now.sessions c.loop-k.k (subst (λ n. c.loop-k.k < n) c.session_count-k-end.ensures c.loop-k-test.true))

pub begin_session-requires-clause-new : goal.begin_session-requires-clause-new
begin_session-requires-clause-new c =
    let got = entry_of_key c.args.state.now.sessions c.loop-k.k c.unwrap-session.result (sym c.session_at.ensures ∙ c.unwrap-session.ensures) in
    tied_new
    c.args.state.now.sessions
    (λ _. free_attachment)
    c.loop-k.attachments.attachments
    c.loop-k.k
    (c.unwrap-session.result, got.0)
    got.1
    c.loop-k.invariant.tied

pub loop-k-preserved : goal.loop-k-preserved
loop-k-preserved c =
    let got = entry_of_key c.args.state.now.sessions c.loop-k.k c.unwrap-session.result (sym c.session_at.ensures ∙ c.unwrap-session.ensures) in
    let e : ℕ × Session = (c.unwrap-session.result, got.0) in
    let here = got.1 in
    record {
      tied = λ q. ap (λ m. get m q) c.begin_session.ensures.attachments ∙ tied_next c.args.state.now.sessions (λ _. free_attachment) c.loop-k.attachments.attachments c.loop-k.k e here c.loop-k.invariant.tied q;
      few = subst (λ m. len m ≤ c.loop-k.k + 1) (sym c.begin_session.ensures.attachments) (tied_len c.args.state.now.sessions (λ _. free_attachment) c.loop-k.attachments.attachments c.loop-k.k e here c.loop-k.invariant.tied c.loop-k.invariant.few);
      waiting = c.begin_session.ensures.waiting ∙ c.loop-k.invariant.waiting;
      arrays = c.begin_session.ensures.arrays ∙ c.loop-k.invariant.arrays;
    }

pub returns-clause-attachments : goal.returns-clause-attachments
returns-clause-attachments c =
    let all = made_all c.args.state.now.sessions c.loop-k.k (omega (arith, c.session_count-k-end.ensures, c.loop-k-test.false)) in
    λ q. c.loop-k.invariant.tied q ∙ ap (λ m. option_map (λ _. free_attachment) (get m q)) all
