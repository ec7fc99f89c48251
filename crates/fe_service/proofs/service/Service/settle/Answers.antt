use Rattle.fe_service.specs.Events.{MaySettle}
use Rattle.std.proofs.Common.{subst, sym, ap, ◌∙◌}
use Rattle.std.specs.FinMap.{get}
use Rattle.fe_state.specs.Directory.{words_in}
use Rattle.fe_service.specs.Service.{ServiceState, service_of}
use Rattle.fe_service.proofs.Staying.{same_service, settled_service}
use Rattle.fe_service.proofs.service.Service.settle.Goals as goal

pub invariant_of-self : goal.invariant_of-self
invariant_of-self c =
    let old = c.self.inside.inner in
    record {
      service =
          same_service _ _ c.enter.ensures.state (ap (λ s. s.attachments) c.enter.ensures.attachments) (ap (λ s. s.waiting) c.enter.ensures.attachments) c.enter.ensures.pending
          (settled_service (service_of old) c.args.session c.args.floor (subst (λ (s : ServiceState). MaySettle s c.args.session c.args.floor) (sym c.self.view_is) c.requires) c.self.invariant.service);
      arrays = λ id. ap (λ s. get s.arrays id) c.enter.ensures.attachments ∙ c.self.invariant.arrays id ∙ sym (ap (λ s. words_in (get s.arrays id)) c.enter.ensures.state);
    }
