use Rattle.std.proofs.Common.{Some, rules}
use Rattle.fe_keeper.specs.within.Upholds.{KeepsDraft}
use Rattle.fe_keeper.proofs.Checkpoints.{step_moments, draft_kept}
use Rattle.fe_keeper.proofs.Ends.{passed_ends}
use Rattle.fe_keeper.proofs.keeper_store.KeeperStore.step.Goals as goal

pub returns-in_err-more-clause-step : goal.returns-in_err-more-clause-step
returns-in_err-more-clause-step g c = record {
  stays = search rules;
  ends = passed_ends g.D.Disk c.from_residual.result c.in_err-more.field-0.0 c.args.self.now.journal c.write_slice.new.journal c.from_residual.ensures.1 c.in_err-more.ensures.ends;
  carries = λ honest s upholds always. record {
    any_moment =
        step_moments g.D.Disk c.args.self.now s c.in-Some.checkpoint c.write_slice.new.journal.disk c.in-Some.is upholds
        (λ k kept. (c.write_slice.ensures.carries honest k s kept).any_moment);
    upheld = search rules;
  };
}

pub returns-clause-step : goal.returns-clause-step
returns-clause-step g c = record {
  stays = search rules;
  ends = c.in_ok-more.ensures.ends;
  carries = λ honest s upholds always.
      let draft = draft_kept g.D.Disk c.args.self.now s c.in-Some.checkpoint c.in-Some.is upholds in
      let next : KeepsDraft g.D.Disk c.write_slice.new.journal upholds.contents c.write_slice.new.self s = (c.in_ok-more.ensures.carries honest upholds.contents s draft).drafted in
      record {
        any_moment =
            step_moments g.D.Disk c.args.self.now s c.in-Some.checkpoint c.write_slice.new.journal.disk c.in-Some.is upholds
            (λ k kept. (c.write_slice.ensures.carries honest k s kept).any_moment);
        upheld = record { contents = upholds.contents; draft = Some next.draft; keeps = next.keeps; stands = upholds.stands; drafted = next.is_draft };
      };
}
