use Rattle.std.proofs.Common.{sym, ◌∙◌, ap, refl}
use Rattle.fe_history.specs.declared.act.Act.TheVariants.{Issued}
use Rattle.fe_history.proofs.Acts.{issued_may}
use Rattle.fe_history.proofs.Moves.{adds_moves}
use Rattle.fe_history.proofs.history.History.issue.Goals as goal

pub load-requires : goal.load-requires
load-requires g c =
    let h = c.args.history_words.now.stores_are in
    let offer = c.plain-offer.ensures in (
      ap (λ w. w.tracked) h,
      c.self.invariant.0 ∙ sym (ap (λ w. w.book) h),
      offer.0,
      rw (ap (λ w. w.key) h, offer.1, offer.3) (adds_moves c.self.inside.seen.log (Issued c.args.receipt) refl refl (λ log legal pre. issued_may c.self.inside.seen.log log c.args.receipt pre (rw c.self.view_is c.requires))),
    )
