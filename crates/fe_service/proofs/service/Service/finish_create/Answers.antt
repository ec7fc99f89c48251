use Rattle.fe_state.specs.State.{reply}
use Rattle.std.proofs.Common.{◌≡◌, Some, [], refl, sym, ap, subst, ◌∙◌, arith}
use Rattle.std.specs.FinMap.{get, insert, len, remove}
use Rattle.fe_state.proofs.Undone.{remove-insert}
use Rattle.fe_state.specs.Directory.{words_in}
use Rattle.fe_state.specs.declared.answer.Answer.TheVariants as answers
use Rattle.fe_state.specs.declared.request.Request.TheVariants.{Create}
use Rattle.fe_service.specs.Service.{ServiceState}
use Rattle.fe_service.specs.declared.service_inner.ServiceInner.{ServiceInner}
use Rattle.fe_service.specs.within.Slots.{by_session, attachments_state_of}
use Rattle.fe_service.proofs.RequestLemmas.{none-on_array_back}
use Rattle.fe_service.proofs.Staying.{same_service}
use Rattle.fe_service.proofs.Quiet.{none_on_absent}
use Rattle.fe_service.proofs.Completing.{IsEntered, free_in, completes_in, entered_service, entered_completes}
use Rattle.fe_service.proofs.Creating.{created_is, created_quiet, created_lengths, few_arrays, id_absent}
use Rattle.fe_service.proofs.Serving.{none_taken}
use Rattle.fe_service.proofs.service.Service.finish_create.Goals as goal

pub add_array-requires-clause-new : goal.add_array-requires-clause-new
add_array-requires-clause-new c = ap (λ s. get s.arrays c.args.id) c.attachments.view_is ∙ id_absent c.self.inside.inner c.args.name c.args.length c.args.tag c.args.id c.args.length c.self.invariant c.limits.ensures.state (ap (λ (s : ServiceState). reply s.state (Create c.args.name c.args.length c.args.tag)) c.self.view_is ∙ c.requires.answered)

pub add_array-requires-clause-room : goal.add_array-requires-clause-room
add_array-requires-clause-room c =
    let (next, same, few) = created_is c.self.inside.inner.state c.args.name c.args.length c.args.tag c.args.id c.args.length (ap (λ (s : ServiceState). reply s.state (Create c.args.name c.args.length c.args.tag)) c.self.view_is ∙ c.requires.answered) in
    let same = ap (λ s. len s.arrays) c.attachments.view_is in
    omega (arith, same, few_arrays c.self.inside.inner c.self.invariant few)

pub drop_array-requires : goal.drop_array-requires
drop_array-requires c =
    let old = c.self.inside.inner in
    let absent = sym (c.self.invariant.arrays c.args.id) ∙ id_absent old c.args.name c.args.length c.args.tag c.args.id c.args.length c.self.invariant c.limits.ensures.state (ap (λ (s : ServiceState). reply s.state (Create c.args.name c.args.length c.args.tag)) c.self.view_is ∙ c.requires.answered) in
    let none = none_on_absent old.state old.attachments.waiting c.args.id c.self.invariant.service.quiet absent in
    let listed = none-on_array_back _ _ c.attachments.invariant.agree _ c.attachments.invariant.owned c.args.id (rw (← c.attachments.view_is) at none) in
    record { unused = λ key w waits. listed key w (subst (λ m. get m key ≡ Some w) c.in_ok-add_array.ensures.ok.members waits) }

pub invariant_of-self-in-Err : goal.invariant_of-self-in-Err
invariant_of-self-in-Err c =
    let old = c.self.inside.inner in
    let arrays =
    c.drop_array.ensures.dropped.arrays
    ∙ ap (λ m. remove m c.args.id) c.in_ok-add_array.ensures.ok.arrays
    ∙ remove-insert c.attachments.inside.waits.arrays c.args.id c.args.length (ap (λ s. get s.arrays c.args.id) c.attachments.view_is ∙ id_absent old c.args.name c.args.length c.args.tag c.args.id c.args.length c.self.invariant c.limits.ensures.state (ap (λ (s : ServiceState). reply s.state (Create c.args.name c.args.length c.args.tag)) c.self.view_is ∙ c.requires.answered))
    ∙ ap (λ s. s.arrays) c.attachments.view_is
    in
    let waiting = ap (by_session c.attachments.inside.owners.items) (c.drop_array.ensures.dropped.members ∙ c.in_ok-add_array.ensures.ok.members) ∙ ap (λ s. s.waiting) c.attachments.view_is in
    record {
      service = same_service _ _ c.in-Err.ensures.err (ap (λ s. s.attachments) c.attachments.view_is) waiting refl c.self.invariant.service;
      arrays = λ id. ap (λ m. get m id) arrays ∙ c.self.invariant.arrays id ∙ sym (ap (λ s. words_in (get s.arrays id)) c.in-Err.ensures.err);
    }

pub invariant_of-self-2 : goal.invariant_of-self-2
invariant_of-self-2 c =
    let old = c.self.inside.inner in
    let new : ServiceInner = record { state = c.advance.new.self; attachments = attachments_state_of c.add_array.new.self c.attachments.inside.occupants c.attachments.inside.owners.items; pending = c.push.new.self } in
    let answer = answers.Array c.args.id c.args.length in
    let entered : IsEntered old new _ = record {
      state = c.in_default.ensures.ok;
      waiting = ap (by_session c.attachments.inside.owners.items) c.in_ok-add_array.ensures.ok.members ∙ ap (λ s. s.waiting) c.attachments.view_is;
      attachments = ap (λ s. s.attachments) c.attachments.view_is;
      pending = c.push.ensures;
    } in
    let quiet = created_quiet old new c.args.session c.args.number c.args.name c.args.length c.args.tag answer c.limits.ensures.state c.self.invariant.service.quiet entered in
    record {
      service = entered_service old new new c.args.session c.args.number (Create c.args.name c.args.length c.args.tag) answer [] c.self.invariant.service (free_in c.self.view_is c.requires.free) entered (none_taken new) quiet;
      arrays = λ id.
          ap (λ m. get m id) c.in_ok-add_array.ensures.ok.arrays
          ∙ ap (λ s. get (insert s.arrays c.args.id c.args.length) id) c.attachments.view_is
          ∙ created_lengths old.state old.attachments.arrays c.args.session c.args.number c.args.name c.args.length c.args.tag c.args.id c.args.length (ap (λ (s : ServiceState). reply s.state (Create c.args.name c.args.length c.args.tag)) c.self.view_is ∙ c.requires.answered) c.self.invariant.arrays id
          ∙ sym (ap (λ s. words_in (get s.arrays id)) c.in_default.ensures.ok);
    }

pub returns-clause-completes : goal.returns-clause-completes
returns-clause-completes c =
    let old = c.self.inside.inner in
    let new : ServiceInner = record { state = c.advance.new.self; attachments = attachments_state_of c.add_array.new.self c.attachments.inside.occupants c.attachments.inside.owners.items; pending = c.push.new.self } in
    let entered : IsEntered old new _ = record {
      state = c.in_default.ensures.ok;
      waiting = ap (by_session c.attachments.inside.owners.items) c.in_ok-add_array.ensures.ok.members ∙ ap (λ s. s.waiting) c.attachments.view_is;
      attachments = ap (λ s. s.attachments) c.attachments.view_is;
      pending = c.push.ensures;
    } in
    let quiet = created_quiet old new c.args.session c.args.number c.args.name c.args.length c.args.tag (answers.Array c.args.id c.args.length) c.limits.ensures.state c.self.invariant.service.quiet entered in
    completes_in c.self.view_is (entered_completes old new new _ [] entered (none_taken new) quiet)
