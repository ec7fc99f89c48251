use Rattle.std.proofs.Common.{◌≡◌, sym, ap, subst, ◌∙◌}
use Rattle.fe_desk.specs.declared.handed.Handed.{Handed}
use Rattle.fe_desk.specs.DeskRunState.{stored}
use Rattle.fe_desk.specs.within.Desk.{IsReady, desk_of, run_state_of, with_handed, handing}
use Rattle.fe_desk.specs.within.Goes.{Goes, Is, IsUnstored}
use Rattle.fe_desk.proofs.Groups.{not_cut}
use Rattle.fe_desk.proofs.Goes.{stays, stays_same}
use Rattle.fe_desk.proofs.desk_inner.DeskInner.store.Goals as goal

pub returns-in_default : goal.returns-in_default
returns-in_default g c =
    let old = c.args.self.now in
    let value : c.replace.result ≡ old.handed = c.replace.ensures.value in
    stays {k = g.D.Disk} g.met.D.Disk.only_now c.requires
    (stays_same (ap (λ (h : Handed). with_handed (desk_of old) h) value))
    (ap (λ (h : Handed). handing (run_state_of old) h) value ∙ sym (not_cut (run_state_of old) (λ batch is. c.in_default.not-Cut batch (value ∙ is))))

pub store_batch-handed-requires : goal.store_batch-handed-requires
store_batch-handed-requires g c =
    subst (λ (h : Handed). IsReady g.D.Disk (with_handed (desk_of c.args.self.now) h)) (sym c.in-Cut.ensures.value) c.requires

pub returns-in-Cut : goal.returns-in-Cut
returns-in-Cut g c =
    let old = c.args.self.now in
    let new = record c.store_batch-handed.new.self { handed = c.store_batch-handed.result.0 } in
    subst
    (λ (h : Handed). Goes g.D.Disk (Is (stored (handing (run_state_of old) h))) (IsUnstored (with_handed (desk_of old) h)) (Is (handing (run_state_of old) h)) c.store_batch-handed.result.1
    (with_handed (desk_of old) h) (desk_of new))
    c.in-Cut.ensures.value c.store_batch-handed.ensures
