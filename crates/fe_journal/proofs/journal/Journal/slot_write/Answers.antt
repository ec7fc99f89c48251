use Rattle.std.proofs.Common.{◌+◌, ℕ, length, Some, sym, ◌∙◌, ap, arith}
use Rattle.fe_journal.specs.Contents.{Holds}
use Rattle.fe_journal.specs.Journal.{JournalState}
use Rattle.fe_disk.proofs.Outcomes.{at_ok}
use Rattle.fe_journal.proofs.Journals.{nothing_done}
use Rattle.fe_journal.proofs.Frames.{image_short}
use Rattle.fe_journal.proofs.Begins.{write_run, write_kept, within_more, each_fits}
use Rattle.fe_journal.proofs.journal.Journal.slot_write.Goals as goal

pub returns-clause-any_moment : goal.returns-clause-any_moment
returns-clause-any_moment g c =
    let b = c.in-Some.begun in
    let at_is = ap (λ (k : ℕ). k + b.written) c.image_of.ensures in
    let fits = each_fits c.args.self.now.begun (length c.args.slice.now) c.requires.begun b (sym (ap (λ (s : JournalState g.row.D.Denot). s.begun) c.self.view_is) ∙ c.in-Some.is) in
    write_run g.D.Disk c.self.inside c.args.self.now c.self.view_is (g.met.D.Disk.seen_may_stay c.self.inside.disk) c.args.slice.now _ b c.in-Some.is at_is fits c.write_at-outcome.new.self (λ honest image left. g.met.D.Disk.only_now c.self.inside.disk image honest left) c.write_at-outcome.ensures.stop c.write_at-outcome.ensures.time

pub returns-then-is_err-clause-any_moment : goal.returns-then-is_err-clause-any_moment
returns-then-is_err-clause-any_moment g c =
    let b = c.in-Some.begun in
    let at_is = ap (λ (k : ℕ). k + b.written) c.image_of.ensures in
    let fits = each_fits c.args.self.now.begun (length c.args.slice.now) c.requires.begun b (sym (ap (λ (s : JournalState g.row.D.Denot). s.begun) c.self.view_is) ∙ c.in-Some.is) in
    write_run g.D.Disk c.self.inside c.args.self.now c.self.view_is (g.met.D.Disk.seen_may_stay c.self.inside.disk) c.args.slice.now _ b c.in-Some.is at_is fits c.write_at-outcome.new.self (λ honest image left. g.met.D.Disk.only_now c.self.inside.disk image honest left) c.write_at-outcome.ensures.stop c.write_at-outcome.ensures.time

pub returns-clause-written : goal.returns-clause-written
returns-clause-written g c =
    let b = c.in-Some.begun in
    let at_is = ap (λ (k : ℕ). k + b.written) c.image_of.ensures in
    let fits = each_fits c.args.self.now.begun (length c.args.slice.now) c.requires.begun b (sym (ap (λ (s : JournalState g.row.D.Denot). s.begun) c.self.view_is) ∙ c.in-Some.is) in
    write_kept g.D.Disk c.self.inside c.args.self.now c.self.view_is (g.met.D.Disk.seen_may_stay c.self.inside.disk) c.args.slice.now _ b c.in-Some.is at_is fits c.write_at-outcome.new.self c.write_at-outcome.ensures.stop (λ honest. at_ok c.write_at-outcome.result (sym c.is_err.ensures.value ∙ c.if-is_err.false) (c.write_at-outcome.ensures.written honest))

pub returns-then-self-clause-any_moment : goal.returns-then-self-clause-any_moment
returns-then-self-clause-any_moment g c = λ honest contents d keeps.
    nothing_done g.D.Disk c.args.self.now contents (Some d) (Holds contents) keeps (λ image left. g.met.D.Disk.only_now c.args.self.now.disk image honest left) (λ image holds. holds)

pub overflow_add-at : goal.overflow_add-at
overflow_add-at g c =
    let bounds = c.self.invariant.begun_within c.in-Some.begun c.in-Some.is in
    omega (arith, c.image_of.ensures, c.self.invariant.is_slot, bounds.0, image_short c.in-Some.begun.format c.in-Some.begun.image_length bounds.1)

pub write_at-outcome-requires : goal.write_at-outcome-requires
write_at-outcome-requires g c =
    let bounds = c.self.invariant.begun_within c.in-Some.begun c.in-Some.is in
    let begun = sym (ap (λ (s : JournalState g.row.D.Denot). s.begun) c.self.view_is) ∙ c.in-Some.is in
    let fits = each_fits c.args.self.now.begun (length c.args.slice.now) c.requires.begun c.in-Some.begun begun in
    omega (arith, c.image_of.ensures, c.self.invariant.is_slot, c.self.invariant.device, fits, image_short c.in-Some.begun.format c.in-Some.begun.image_length bounds.1)

pub invariant_of-self-2 : goal.invariant_of-self-2
invariant_of-self-2 g c =
    let bounds = c.self.invariant.begun_within c.in-Some.begun c.in-Some.is in
    let begun = sym (ap (λ (s : JournalState g.row.D.Denot). s.begun) c.self.view_is) ∙ c.in-Some.is in
    let fits = each_fits c.args.self.now.begun (length c.args.slice.now) c.requires.begun c.in-Some.begun begun in
    record {
      device = c.write_at-outcome.ensures.device.same_size ∙ c.self.invariant.device;
      buffer = c.self.invariant.buffer;
      is_slot = c.self.invariant.is_slot;
      within = c.self.invariant.within;
      begun_within = within_more c.in-Some.begun (length c.args.slice.now) fits bounds.1;
    }
