use Rattle.std.proofs.Common.{sym, ◌∙◌, ap}
use Rattle.fe_history.proofs.Moves.{stores_moves}
use Rattle.fe_history.proofs.history.History.store.Goals as goal

pub compare_exchange-found-requires : goal.compare_exchange-found-requires
compare_exchange-found-requires g c =
    let h = c.args.history_words.now.stores_are in
    let offer = c.plain-offer.ensures in
    let pen = c.no_pen-pen.ensures in
    let keeper = c.args.keeper.now in (
      ap (λ w. w.tracked) h,
      c.self.invariant.0 ∙ sym (ap (λ w. w.book) h),
      pen.0 ∙ (c.self.invariant.0 ∙ sym (ap (λ w. w.book) h)),
      offer.0,
      rw (ap (λ w. w.key) h, pen.1, offer.1, offer.3)
          (stores_moves c.self.inside.seen.log c.args.batch.now (g.D.Disk.moment keeper.store.disk) c.args.stored (rw c.self.view_is c.requires.cut)),
    )

pub returns : goal.returns
returns g c = record {
  stored = λ is.
      let then = rw (c.plain-offer.ensures.1, is) at c.compare_exchange-found.ensures.7 in
      rw (← c.self.view_is) then.0;
}
