use Rattle.std.proofs.Common.{◌≡◌, inl, inr, length, length-append, refl, sym, ap, subst, ◌∙◌, arith}
use Rattle.std.specs.Prelude.{is_some}
use Rattle.std.specs.FinMap.{get, len, remove}
use Rattle.fe_state.proofs.Maps.{same_or_other, get_removed, get_left}
use Rattle.fe_state.specs.Directory.{words_in}
use Rattle.fe_state.specs.Effect.{effect_of}
use Rattle.fe_state.specs.State.{directory_of}
use Rattle.fe_state.specs.declared.request.Request.TheVariants.{Remove}
use Rattle.fe_state.specs.declared.entry.Entry.TheVariants.{Finished}
use Rattle.fe_service.specs.Service.{IsQuiet, ServiceState}
use Rattle.fe_service.specs.Events.{HasRoom, Completes}
use Rattle.fe_service.specs.within.Slots.{by_session}
use Rattle.fe_service.proofs.RequestLemmas.{none-on_array_back}
use Rattle.fe_service.proofs.Staying.{same_service}
use Rattle.fe_service.proofs.Effects.{removes}
use Rattle.fe_service.proofs.Quiet.{none_on_absent}
use Rattle.fe_service.proofs.Completing.{IsEntered, free_in, completes_in, entered_by, entered_usable, entered_service, entered_completes}
use Rattle.fe_service.proofs.Removing.{removed_quiet, removed_absent, removed_lengths}
use Rattle.fe_service.proofs.Serving.{taken_len, taken_lengths}
use Rattle.fe_service.proofs.service.Service.finish_remove.Goals.{After-serve_array-served}
use Rattle.fe_service.proofs.service.Service.finish_remove.Goals as goal

pub unwrap-length-requires : goal.unwrap-length-requires
unwrap-length-requires c =
    let here = get c.self.inside.inner.state.arrays c.args.array in
    let changes = ap (λ (s : ServiceState). effect_of (directory_of s.state) (Remove c.args.array)) c.self.view_is ∙ c.requires.changes in
    ap is_some c.length.ensures ∙ removes c.args.array here changes

pub serve_array-served-requires-clause-able : goal.serve_array-served-requires-clause-able
serve_array-served-requires-clause-able c =
    let entered : IsEntered c.self.inside.inner c.enter.new.self _ = entered_by c.self.inside.inner c.enter.new.self _ c.enter.ensures.state c.enter.ensures.attachments c.enter.ensures.pending in
    let room = subst HasRoom (sym c.self.view_is) c.requires.room in
    let places = ap (λ s. s.place) c.enter.ensures.state in
    let few = ap length c.enter.ensures.pending ∙ length-append c.self.inside.inner.pending _ in
    let same = ap (λ s. len s.waiting) c.enter.ensures.attachments in
    record {
      usable = entered_usable c.self.inside.inner c.enter.new.self c.args.session c.args.number (Remove c.args.array) c.args.answer c.self.invariant.service.usable (free_in c.self.view_is c.requires.free) entered;
      places = omega (arith, places, same, room.places, c.limits.ensures.attachments.all);
      room = omega (arith, few, same, room.few, c.limits.ensures.attachments.all);
    }

-- nobody that waits may be served any more
all_quiet : (c : After-serve_array-served) → IsQuiet c.serve_array-served.new.self.state c.serve_array-served.new.self.attachments.waiting
all_quiet c =
    let old = c.self.inside.inner in
    let mid = c.enter.new.self in
    let new = c.serve_array-served.new.self in
    let entered : IsEntered old mid _ = entered_by old mid _ c.enter.ensures.state c.enter.ensures.attachments c.enter.ensures.pending in
    let (es, t, counted) = c.serve_array-served.ensures.served in
    removed_quiet old mid new c.args.session c.args.number c.args.array c.unwrap-length.result c.args.answer es c.self.invariant.service.quiet entered t (sym c.length.ensures ∙ c.unwrap-length.ensures) c.serve_array-served.ensures.here c.serve_array-served.ensures.beside

pub drop_array-requires : goal.drop_array-requires
drop_array-requires c =
    let old = c.self.inside.inner in
    let mid = c.enter.new.self in
    let new = c.serve_array-served.new.self in
    let entered : IsEntered old mid _ = entered_by old mid _ c.enter.ensures.state c.enter.ensures.attachments c.enter.ensures.pending in
    let (es, t, counted) = c.serve_array-served.ensures.served in
    let quiet = all_quiet (goal.at.drop_array-requires c).After-serve_array-served in
    let none = none_on_absent new.state new.attachments.waiting c.args.array quiet (taken_lengths mid new es t c.args.array ∙ removed_absent old mid c.args.session c.args.number c.args.array c.args.answer entered) in
    record { unused = none-on_array_back _ _ c.attachments.invariant.agree _ c.attachments.invariant.owned c.args.array (rw (← c.attachments.view_is) at none) }

pub overflow_add-result : goal.overflow_add-result
overflow_add-result c =
    let (es, t, counted) = c.serve_array-served.ensures.served in
    let fewer = taken_len c.enter.new.self c.serve_array-served.new.self es t in
    let same = ap (λ s. len s.waiting) c.enter.ensures.attachments in
    omega (arith, counted, fewer, same, c.limits.ensures.attachments.all)

pub invariant_of-self : goal.invariant_of-self
invariant_of-self c =
    let old = c.self.inside.inner in
    let mid = c.enter.new.self in
    let new = c.serve_array-served.new.self in
    let entered : IsEntered old mid _ = entered_by old mid _ c.enter.ensures.state c.enter.ensures.attachments c.enter.ensures.pending in
    let (es, t, counted) = c.serve_array-served.ensures.served in
    let quiet = all_quiet (goal.at.invariant_of-self c).After-serve_array-served in
    let service = entered_service old mid new c.args.session c.args.number (Remove c.args.array) c.args.answer es c.self.invariant.service (free_in c.self.view_is c.requires.free) entered t quiet in
    record {
      service = same_service _ _ refl (ap (λ s. s.attachments) c.attachments.view_is) (ap (by_session c.attachments.inside.owners.items) c.drop_array.ensures.dropped.members ∙ ap (λ s. s.waiting) c.attachments.view_is) refl service;
      arrays = λ id.
          elim (same_or_other id c.args.array) as (λ _. get c.drop_array.new.self.arrays id ≡ words_in (get new.state.arrays id)) [
            | inl same ↦
                ap (λ m. get m id) c.drop_array.ensures.dropped.arrays
                ∙ ap (λ s. get (remove s.arrays c.args.array) id) c.attachments.view_is
                ∙ ap (get (remove new.attachments.arrays c.args.array)) same
                ∙ get_removed new.attachments.arrays c.args.array
                ∙ sym (removed_absent old mid c.args.session c.args.number c.args.array c.args.answer entered)
                ∙ sym (taken_lengths mid new es t c.args.array)
                ∙ ap (λ id. words_in (get new.state.arrays id)) (sym same)
            | inr other ↦
                ap (λ m. get m id) c.drop_array.ensures.dropped.arrays
                ∙ ap (λ s. get (remove s.arrays c.args.array) id) c.attachments.view_is
                ∙ get_left new.attachments.arrays c.args.array id other
                ∙ ap (λ m. get m id) t.arrays
                ∙ ap (λ s. get s.arrays id) c.enter.ensures.attachments
                ∙ c.self.invariant.arrays id
                ∙ sym (removed_lengths old mid c.args.session c.args.number c.args.array c.args.answer entered id other)
                ∙ sym (taken_lengths mid new es t id)
          ];
    }

pub returns : goal.returns
returns c =
    let old = c.self.inside.inner in
    let mid = c.enter.new.self in
    let new = c.serve_array-served.new.self in
    let entered : IsEntered old mid _ = entered_by old mid _ c.enter.ensures.state c.enter.ensures.attachments c.enter.ensures.pending in
    let (es, t, counted) = c.serve_array-served.ensures.served in
    let quiet = all_quiet (goal.at.returns c).After-serve_array-served in
    let completes = completes_in c.self.view_is (entered_completes old mid new _ es entered t quiet) in
    let attachments = sym (ap (λ s. s.attachments) c.attachments.view_is) in
    let waiting = sym (ap (by_session c.attachments.inside.owners.items) c.drop_array.ensures.dropped.members ∙ ap (λ s. s.waiting) c.attachments.view_is) in
    record {
      completes = (
        es,
        subst (λ s. Completes c.args.self.now s (Finished c.args.session c.args.number (Remove c.args.array) c.args.answer) es) (λ i. record { state = new.state; attachments = attachments i; waiting = waiting i; pending = new.pending }) completes,
        omega (arith, counted),
      );
    }
