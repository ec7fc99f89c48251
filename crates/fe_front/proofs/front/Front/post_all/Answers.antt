use Rattle.std.proofs.Common.{◌≡◌, ◌+◌, drop, sym, ap, ◌∙◌, arith}
use Rattle.fe_front.specs.Posting.{posted_all}
use Rattle.fe_front.proofs.Posted.{posted_one, posted_none}
use Rattle.fe_front.proofs.Noting.{notes_not, notes_then}
use Rattle.fe_front.proofs.front.Front.post_all.Goals as goal

pub loop-k-init : goal.loop-k-init
loop-k-init c = record {
  notes = notes_not _ _;
  posted = let same : c.args.first + 0 ≡ c.args.first = omega arith in ap (posted_all c.args.self.now c.args.entries.now) same;
}

pub loop-k-preserved : goal.loop-k-preserved
loop-k-preserved c = record {
  notes = notes_then _ _ _ _ _ _ c.loop-k.invariant.notes c.post_entry.ensures.notes;
  posted =
      ap (λ f. posted_all f (drop (c.loop-k.k + 1) c.args.entries.now) (c.args.first + (c.loop-k.k + 1))) c.post_entry.ensures.posted
      ∙ posted_one c.loop-k.self c.args.entries.now c.args.first c.loop-k.k c.index-entries-k.result c.loop-k-test.true c.index-entries-k.is
      ∙ c.loop-k.invariant.posted;
}

pub returns-clause-posted : goal.returns-clause-posted
returns-clause-posted c = sym (posted_none c.loop-k.self c.args.entries.now (c.args.first + c.loop-k.k) c.loop-k.k (omega (arith, c.loop-k-test.false))) ∙ c.loop-k.invariant.posted
