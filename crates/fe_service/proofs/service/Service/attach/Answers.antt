use Rattle.fe_service.specs.Events.{IsAttachable, HasRoom, floor_of}
use Rattle.std.proofs.Common.{sym, ap, subst, ◌∙◌}
use Rattle.std.specs.Prelude.{is_some}
use Rattle.std.specs.FinMap.{get}
use Rattle.fe_state.specs.Directory.{words_in}
use Rattle.fe_state.specs.State.{IsLegal, after}
use Rattle.fe_state.specs.declared.entry.Entry.TheVariants.{Attached}
use Rattle.fe_service.specs.Service.{AreUsable, IsQuiet, ServiceState, is_open, service_of}
use Rattle.fe_service.proofs.Attaching.{attach_legal}
use Rattle.fe_service.proofs.Staying.{attached_service}
use Rattle.fe_service.proofs.service.Service.attach.Goals as goal

pub enter-requires-clause-legal : goal.enter-requires-clause-legal
enter-requires-clause-legal c =
    subst
    (λ floor. IsLegal c.self.inside.inner.state (Attached c.args.session floor))
    (sym (c.floor-floor.ensures ∙ ap (λ s. floor_of s c.args.session) (sym c.self.view_is)))
    (attach_legal (service_of c.self.inside.inner) c.args.session c.self.invariant.service (subst (λ (s : ServiceState). IsAttachable s c.args.session) (sym c.self.view_is) c.requires.attachable) (subst HasRoom (sym c.self.view_is) c.requires.room))

pub invariant_of-self : goal.invariant_of-self
invariant_of-self c =
    let old = c.self.inside.inner in
    let state = c.enter.ensures.state in
    let attachments = ap (λ s. s.attachments) c.enter.ensures.attachments ∙ c.attach.ensures.attachments in
    let waiting = ap (λ s. s.waiting) c.enter.ensures.attachments ∙ c.attach.ensures.waiting in
    let service = attached_service (service_of old) c.args.session c.args.conn c.self.invariant.service in
    record {
      service = record {
        usable = subst (λ s. AreUsable s c.enter.new.self.attachments.waiting) (sym state) (subst (λ w. AreUsable (after old.state (Attached c.args.session c.floor-floor.result)) w) (sym waiting) service.usable);
        quiet = subst (λ s. IsQuiet s c.enter.new.self.attachments.waiting) (sym state) (subst (λ w. IsQuiet (after old.state (Attached c.args.session c.floor-floor.result)) w) (sym waiting) service.quiet);
        has_attachment = λ other. ap (λ s. is_some (get s.sessions other)) state ∙ service.has_attachment other ∙ sym (ap (λ m. is_open m other) attachments);
      };
      arrays = λ id.
          ap (λ s. get s.arrays id) c.enter.ensures.attachments
          ∙ ap (λ m. get m id) c.attach.ensures.arrays
          ∙ c.self.invariant.arrays id
          ∙ sym (ap (λ s. words_in (get s.arrays id)) state);
    }
