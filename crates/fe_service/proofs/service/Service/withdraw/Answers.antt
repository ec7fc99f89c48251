use Rattle.std.proofs.Common.{refl, ap, ◌∙◌}
use Rattle.std.specs.FinMap.{get}
use Rattle.fe_service.specs.AttachmentsState.{without_session}
use Rattle.fe_service.specs.Service.{service_of}
use Rattle.fe_service.proofs.Staying.{same_service, fewer_service, within_without}
use Rattle.fe_service.proofs.service.Service.withdraw.Goals as goal

pub invariant_of-self : goal.invariant_of-self
invariant_of-self c =
    let old = c.self.inside.inner in
    record {
      service =
          same_service _ _ refl c.drop_session.ensures.attachments c.drop_session.ensures.removed refl
          (fewer_service (service_of old) (without_session old.attachments.waiting c.args.session) (λ key w waits. (within_without old.attachments.waiting c.args.session key w waits).0) c.self.invariant.service);
      arrays = λ id. ap (λ m. get m id) c.drop_session.ensures.arrays ∙ c.self.invariant.arrays id;
    }
