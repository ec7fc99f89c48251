use Rattle.std.proofs.Common.{◌≡◌, [], refl, sym, ap, ◌∙◌}
use Rattle.std.specs.FinMap.{get}
use Rattle.fe_state.specs.Effect.{effect_of}
use Rattle.fe_state.specs.State.{directory_of, reply}
use Rattle.fe_state.specs.declared.effect.Effect.TheVariants.{Nothing}
use Rattle.fe_service.specs.Service.{ServiceState}
use Rattle.fe_service.proofs.Completing.{IsEntered, free_in, completes_in, entered_by, entered_service, entered_completes}
use Rattle.fe_service.proofs.Serving.{none_taken}
use Rattle.fe_service.proofs.Effects.{makes_none, unchanged_quiet, unchanged_lengths}
use Rattle.fe_service.proofs.service.Service.complete.Goals as goal

pub enter-requires-clause-memory : goal.enter-requires-clause-memory
enter-requires-clause-memory c =
    let old = c.self.inside.inner in
    let answered = ap (λ (s : ServiceState). reply s.state c.args.request) c.self.view_is ∙ c.requires.answered in
    let none = ap (λ (s : ServiceState). effect_of (directory_of s.state) c.args.request) c.self.view_is ∙ c.requires.changes ∙ c.in-Nothing.is in
    makes_none (directory_of old.state) c.args.session c.args.number c.args.request c.args.answer answered none

pub invariant_of-self : goal.invariant_of-self
invariant_of-self c =
    let old = c.self.inside.inner in
    let new = c.enter.new.self in
    let none : effect_of (directory_of old.state) c.args.request ≡ Nothing = ap (λ (s : ServiceState). effect_of (directory_of s.state) c.args.request) c.self.view_is ∙ c.requires.changes ∙ c.in-Nothing.is in
    let entered : IsEntered old new _ = entered_by old new _ c.enter.ensures.state c.enter.ensures.attachments c.enter.ensures.pending in
    let quiet = unchanged_quiet old new _ c.self.invariant.service.quiet entered none in
    record {
      service = entered_service old new new c.args.session c.args.number c.args.request c.args.answer [] c.self.invariant.service (free_in c.self.view_is c.requires.free) entered (none_taken new) quiet;
      arrays = λ id. ap (λ s. get s.arrays id) c.enter.ensures.attachments ∙ c.self.invariant.arrays id ∙ sym (unchanged_lengths old new _ entered none id);
    }

pub returns-in-Nothing-clause-completes : goal.returns-in-Nothing-clause-completes
returns-in-Nothing-clause-completes c =
    let old = c.self.inside.inner in
    let new = c.enter.new.self in
    let none : effect_of (directory_of old.state) c.args.request ≡ Nothing = ap (λ (s : ServiceState). effect_of (directory_of s.state) c.args.request) c.self.view_is ∙ c.requires.changes ∙ c.in-Nothing.is in
    let entered : IsEntered old new _ = entered_by old new _ c.enter.ensures.state c.enter.ensures.attachments c.enter.ensures.pending in
    ([], completes_in c.self.view_is (entered_completes old new new _ [] entered (none_taken new) (unchanged_quiet old new _ c.self.invariant.service.quiet entered none)), refl)
