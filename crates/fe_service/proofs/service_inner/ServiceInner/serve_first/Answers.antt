use Rattle.std.proofs.Common.{◌≡◌, Some, is_some, sym, ap, subst, ◌∙◌, arith}
use Rattle.std.specs.FinMap.{remove}
use Rattle.fe_waits.proofs.MemberLemmas.{len-positive}
use Rattle.fe_state.specs.State.{reply}
use Rattle.fe_state.specs.declared.entry.Entry.TheVariants.{Finished}
use Rattle.fe_service.specs.AttachmentsState.{key_of, request_of_node, waiting_access_of}
use Rattle.fe_service.specs.within.Slots.{by_session}
use Rattle.fe_service.proofs.KeptLemmas.{kept-waits}
use Rattle.fe_service.proofs.OwnerLemmas.{owned-remove}
use Rattle.fe_service.proofs.RequestLemmas.{row-there, node-removed}
use Rattle.fe_service.proofs.service_inner.ServiceInner.serve_first.Goals as goal

pub enter-requires-clause-legal : goal.enter-requires-clause-legal
enter-requires-clause-legal c =
    let waiting_request = c.in-Some.first.1 in
    let some = len-positive c.args.self.now.attachments.waiting (key_of waiting_request) (waiting_access_of waiting_request) c.in-Some.ensures.on_word.waits in
    record {
      has_place = omega (arith, some, c.requires.able.places);
      allowed = c.requires.able.usable (key_of waiting_request) (waiting_access_of waiting_request) c.in-Some.ensures.on_word.waits;
      answered = sym c.in-Some-look.ensures.answer;
    }

pub enter-requires-clause-room : goal.enter-requires-clause-room
enter-requires-clause-room c =
    let waiting_request = c.in-Some.first.1 in
    let some = len-positive c.args.self.now.attachments.waiting (key_of waiting_request) (waiting_access_of waiting_request) c.in-Some.ensures.on_word.waits in
    omega (arith, some, c.requires.able.room)

pub finish-requires : goal.finish-requires
finish-requires c =
    row-there c.attachments.inside.waits c.attachments.inside.occupants c.attachments.inside.owners.items c.in-Some.first.0
    (ap is_some (ap (λ s. request_of_node s c.in-Some.first.0) c.attachments.view_is ∙ c.in-Some.ensures.on_word.of_node))

pub invariant_of-attachments : goal.invariant_of-attachments
invariant_of-attachments c = kept-waits _ _ _ _ _ c.attachments.invariant _ (rw c.finish.ensures.removed.members (owned-remove _ _ c.attachments.invariant.agree _ c.attachments.invariant.owned _))

pub returns-clause-served : goal.returns-clause-served
returns-clause-served c =
    let waiting_request = c.in-Some.first.1 in
    let on = c.in-Some.ensures.on_word in
    let of_node = ap (λ s. request_of_node s c.in-Some.first.0) c.attachments.view_is ∙ on.of_node in
    let removed = ap (by_session c.attachments.inside.owners.items) c.finish.ensures.removed.members ∙ node-removed _ _ _ _ _ c.attachments.invariant _ _ c.finish.ensures.row c.finish.ensures.member waiting_request of_node in
    λ _. (
      Finished waiting_request.session waiting_request.number c.request_of-request.result c.in-Some-look.answer,
      record {
        turn = record {
          session = waiting_request.session;
          number = waiting_request.number;
          waiter = waiting_access_of waiting_request;
          answer = c.in-Some-look.answer;
          waits = on.waits;
          answered = subst (λ r. reply c.args.self.now.state r ≡ Some c.in-Some-look.answer) c.request_of-request.ensures (sym c.in-Some-look.ensures.answer);
          entry = ap (λ r. Finished waiting_request.session waiting_request.number r c.in-Some-look.answer) c.request_of-request.ensures;
        };
        on_word = on.on_word;
        state = c.enter.ensures.state;
        waiting = ap (λ s. s.waiting) c.enter.ensures.attachments ∙ removed ∙ ap (λ s. remove s.waiting (key_of waiting_request)) c.attachments.view_is;
        attachments = ap (λ s. s.attachments) c.enter.ensures.attachments ∙ ap (λ s. s.attachments) c.attachments.view_is;
        arrays = ap (λ s. s.arrays) c.enter.ensures.attachments ∙ c.finish.ensures.removed.arrays ∙ ap (λ s. s.arrays) c.attachments.view_is;
        pending = c.enter.ensures.pending;
      },
    )
