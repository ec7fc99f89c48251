use Rattle.std.proofs.Common.{rules, sym, ◌∙◌}
use Rattle.fe_disk.proofs.Moments.{joined}
use Rattle.fe_keeper.specs.Stands.{StandsFor}
use Rattle.fe_keeper.proofs.Finishing.{finish_moments, finish_upheld}
use Rattle.fe_keeper.proofs.Ends.{passed_ends, then_ends}
use Rattle.fe_keeper.proofs.Rests.{moments_more, one_more}
use Rattle.fe_keeper.proofs.keeper_store.KeeperStore.finish.Goals as goal

pub returns-in_err-step-clause-step : goal.returns-in_err-step-clause-step
returns-in_err-step-clause-step g c = record {
  stays = record { sound = c.step.ensures.step.stays.sound; place = c.step.ensures.step.stays.place ∙ c.loop.invariant.place };
  ends =
      then_ends g.D.Disk c.from_residual.result c.args.self.now.journal c.loop.self.journal c.step.new.self.journal (record { works = c.loop.invariant.ready.works; still = c.loop.invariant.still }) c.loop.invariant.honesty
      (passed_ends g.D.Disk c.from_residual.result c.in_err-step.field-0.0 c.loop.self.journal c.step.new.self.journal c.from_residual.ensures.1 c.in_err-step.ensures.step.ends);
  carries = λ honest s upholds always. record {
    any_moment =
        moments_more g.D.Disk c.step.result c.args.self.now c.loop.self c.step.new.self c.loop.invariant (λ is t up. c.step.ensures.step.carries is t up tt) honest s upholds;
    upheld = search rules;
  };
}

pub loop-preserved : goal.loop-preserved
loop-preserved g c =
    one_more g.D.Disk c.in_ok-step.field-0 c.args.self.now c.loop.self c.step.new.self c.loop.invariant
    c.step.ensures.step.stays c.in_ok-step.ensures.stepped.ready (λ is t up. c.in_ok-step.ensures.step.carries is t up tt) c.in_ok-step.ensures.stepped.value c.in_ok-step.ensures.step.ends c.step.ensures.calls c.step.ensures.rests

pub returns-in_err-slot_finish-clause-step : goal.returns-in_err-slot_finish-clause-step
returns-in_err-slot_finish-clause-step g c = record {
  stays = (let sound = c.step.ensures.step.stays.sound in let place = c.step.ensures.step.stays.place ∙ c.loop.invariant.place in search rules);
  ends = (let still = c.in_ok-step.ensures.step.ends.outcome.still ∙ c.loop.invariant.still in let kept = c.in_ok-step.ensures.step.ends.honesty in search rules);
  carries = λ honest s upholds always.
      let now = c.loop.invariant in
      let stepped = c.in_ok-step.ensures.stepped in
      let honest_1 = now.honesty.1 honest in
      let honest_2 = c.in_ok-step.ensures.step.ends.honesty.1 honest_1 in
      let upheld = (c.in_ok-step.ensures.step.carries honest_1 s (now.goes_on honest s upholds).upheld tt).upheld in
      let run = moments_more g.D.Disk c.step.result c.args.self.now c.loop.self c.step.new.self now (λ is t up. c.step.ensures.step.carries is t up tt) honest s upholds in
      record {
        any_moment =
            joined g.D.Disk c.args.self.now.journal.disk c.step.new.self.journal.disk c.slot_finish.new.self.disk (λ image. StandsFor image s) run
            (finish_moments g.D.Disk c.step.new.self s c.in-Some.checkpoint c.deref.result.now c.deref.ensures.value c.in-Some.is stepped.ready.sound (sym stepped.more_is ∙ c.if-branch.false)
            c.slot_finish.new.self.disk upheld (λ k d keeps. c.slot_finish.ensures.any_moment honest_2 k d keeps));
        upheld = search rules;
      };
}

pub returns-clause-step : goal.returns-clause-step
returns-clause-step g c = record {
  stays = (let sound = c.step.ensures.step.stays.sound in let place = c.step.ensures.step.stays.place ∙ c.loop.invariant.place in search rules);
  ends = (let still = c.in_ok-step.ensures.step.ends.outcome.still ∙ c.loop.invariant.still in let kept = c.in_ok-step.ensures.step.ends.honesty in search rules);
  carries = λ honest s upholds always.
      let now = c.loop.invariant in
      let stepped = c.in_ok-step.ensures.stepped in
      let none = sym stepped.more_is ∙ c.if-branch.false in
      let honest_1 = now.honesty.1 honest in
      let honest_2 = c.in_ok-step.ensures.step.ends.honesty.1 honest_1 in
      let upheld = (c.in_ok-step.ensures.step.carries honest_1 s (now.goes_on honest s upholds).upheld tt).upheld in
      let run = moments_more g.D.Disk c.step.result c.args.self.now c.loop.self c.step.new.self now (λ is t up. c.step.ensures.step.carries is t up tt) honest s upholds in
      record {
        any_moment =
            joined g.D.Disk c.args.self.now.journal.disk c.step.new.self.journal.disk c.slot_finish.new.self.disk (λ image. StandsFor image s) run
            (finish_moments g.D.Disk c.step.new.self s c.in-Some.checkpoint c.deref.result.now c.deref.ensures.value c.in-Some.is stepped.ready.sound none
            c.slot_finish.new.self.disk upheld (λ k d keeps. c.slot_finish.ensures.any_moment honest_2 k d keeps));
        upheld =
            finish_upheld g.D.Disk c.step.new.self s c.in-Some.checkpoint c.deref.result.now c.deref.ensures.value c.in-Some.is stepped.ready.sound none
            c.slot_finish.new.self upheld (λ k d keeps. c.in_ok-slot_finish.ensures.finished honest_2 k d keeps);
      };
}
