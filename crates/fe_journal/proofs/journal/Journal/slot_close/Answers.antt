use Rattle.std.proofs.Common.{◌-◌, sym, ◌∙◌, subst, refl, arith}
use Rattle.fe_journal.specs.Journal.{JournalState, Shuts}
use Rattle.fe_journal.specs.Layout.{gate_of}
use Rattle.fe_disk.proofs.Outcomes.{at_ok}
use Rattle.fe_journal.proofs.Begins.{begin_run, begin_kept}
use Rattle.fe_journal.proofs.journal.Journal.slot_close.Goals as goal

pub returns-clause-any_moment : goal.returns-clause-any_moment
returns-clause-any_moment g c =
    begin_run g.D.Disk c.self.inside c.args.self.now c.self.view_is (g.met.D.Disk.seen_may_stay c.self.inside.disk) c.args.format c.args.generation c.args.image_length (1 - c.self.inside.slot) refl c.requires.next (omega (arith, c.ranges.generation.fits)) c.requires.allowed c.begin_slot-outcome.new.disk c.begin_slot-outcome.ensures.any_moment

pub returns-then-is_err-clause-any_moment : goal.returns-then-is_err-clause-any_moment
returns-then-is_err-clause-any_moment g c =
    begin_run g.D.Disk c.self.inside c.args.self.now c.self.view_is (g.met.D.Disk.seen_may_stay c.self.inside.disk) c.args.format c.args.generation c.args.image_length (1 - c.self.inside.slot) refl c.requires.next (omega (arith, c.ranges.generation.fits)) c.requires.allowed c.begin_slot-outcome.new.disk c.begin_slot-outcome.ensures.any_moment

pub returns-clause-closed : goal.returns-clause-closed
returns-clause-closed g c =
    let works = sym c.is_err.ensures.value ∙ c.if-is_err.false in
    begin_kept g.D.Disk c.self.inside c.args.self.now c.self.view_is (g.met.D.Disk.seen_may_stay c.self.inside.disk) c.args.format c.args.generation c.args.image_length (1 - c.self.inside.slot) refl c.requires.next (omega (arith, c.ranges.generation.fits)) c.requires.allowed c.begin_slot-outcome.new.disk
    (λ honest synced. at_ok c.begin_slot-outcome.result works (c.begin_slot-outcome.ensures.left honest synced)) (λ honest. at_ok c.begin_slot-outcome.result works (c.begin_slot-outcome.ensures.begun honest))

pub returns-clause-made : goal.returns-clause-made
returns-clause-made g c = λ honest.
    let new = g.D.Disk.calls c.begin_slot-outcome.new.disk in
    let honest_inside = subst (λ (s : JournalState g.row.D.Denot). g.D.Disk.honest s.disk) (sym c.self.view_is) honest in
    let made = at_ok c.begin_slot-outcome.result (sym c.is_err.ensures.value ∙ c.if-is_err.false) (c.begin_slot-outcome.ensures.made honest_inside) in
    subst (λ (s : JournalState g.row.D.Denot). Shuts (g.D.Disk.seen s.disk) (gate_of (1 - s.slot)) 1 (g.D.Disk.calls s.disk) new) c.self.view_is made
