use Rattle.std.proofs.Common.{◌≡◌, ℕ, ◌-◌, ◌≤◌, List, take, drop, ap, arith, rules}
use Rattle.fe_keeper.proofs.Checkpoints.{none_written, slice_kept}
use Rattle.fe_keeper.proofs.checkpoint.Checkpoint.write_slice.Goals as goal

pub returns-then-end-self-clause-carries : goal.returns-then-end-self-clause-carries
returns-then-end-self-clause-carries g c = λ honest k s kept. record {
  any_moment =
      none_written g.D.Disk c.args.journal.now k c.args.self.now s (λ image left. g.met.D.Disk.only_now c.args.journal.now.disk image honest left) kept;
  drafted = kept;
}

pub returns-in_err-slot_write-clause-carries : goal.returns-in_err-slot_write-clause-carries
returns-in_err-slot_write-clause-carries g c = λ honest k s kept. record {
  any_moment = c.slot_write.ensures.any_moment honest k kept.draft kept.keeps;
  drafted = search rules;
}

pub returns-clause-carries : goal.returns-clause-carries
returns-clause-carries g c = λ honest k s kept.
    let old = c.args.self.now in
    let end = c.slice_end-end.result in
    let more : old.written ≤ end = omega (arith, c.slice_end-end.ensures) in
    let slice = take (end - old.written) (drop old.written c.deref.result.now) in
    let slice_is : slice ≡ take (end - old.written) (drop old.written old.image.items) = ap (λ (l : List ℕ). take (end - old.written) (drop old.written l)) c.deref.ensures.value in
    record {
      any_moment = c.slot_write.ensures.any_moment honest k kept.draft kept.keeps;
      drafted =
          slice_kept g.D.Disk c.args.journal.now c.slot_write.new.self k old s end slice more slice_is kept (λ d keeps. c.in_ok-slot_write.ensures.written honest k d keeps);
    }
