use Rattle.std.proofs.Common.{◌≡◌, ◌++◌, [], ◌∷◌, Some, length, length-append, refl, sym, ap, subst, ◌∙◌, arith}
use Rattle.std.specs.FinMap.{get, len}
use Rattle.fe_waits.specs.Waiting.{IsWord}
use Rattle.fe_state.specs.State.{after}
use Rattle.fe_service.specs.Service.{AreUsable}
use Rattle.fe_service.specs.within.ServiceInner.{IsQuietAt}
use Rattle.fe_service.proofs.Turns.{turn_usable}
use Rattle.fe_service.proofs.Serving.{taken_then, turn_len, turn_within, turn_beside}
use Rattle.fe_service.proofs.service_inner.ServiceInner.serve_word.Goals as goal

pub loop-count-smaller : goal.loop-count-smaller
loop-count-smaller c =
    let (e, t) = c.loop-count-test.ensures.served refl in
    let fewer = turn_len c.loop-count.self.state c.loop-count.self.attachments.waiting e t.turn in
    let left = ap len t.waiting in
    omega (arith, fewer, left)

pub loop-count-preserved : goal.loop-count-preserved
loop-count-preserved c =
    let self = c.loop-count.self in
    let new = c.serve_first.new.self in
    let (es, before, counted) = c.loop-count.invariant.served in
    let (e, t) = c.loop-count-test.ensures.served refl in
    let fewer = turn_len self.state self.attachments.waiting e t.turn in
    let left = ap len t.waiting in
    let longer = length-append es (e ∷ []) in
    let more = ap length t.pending ∙ length-append self.pending (e ∷ []) in
    let place = ap (λ s. s.place) t.state in
    record {
      served = (es ++ e ∷ [], taken_then c.args.self.now self new es c.args.array c.args.index e before t, omega (arith, counted, longer));
      counted = omega (arith, c.loop-count.invariant.counted, fewer, left);
      word = subst (λ arrays. IsWord arrays c.args.array c.args.index) (sym t.arrays) c.loop-count.invariant.word;
      able = record {
        usable =
            subst (λ s. AreUsable s new.attachments.waiting) (sym t.state)
            (subst (λ w. AreUsable (after self.state e) w) (sym t.waiting) (turn_usable self.state self.attachments.waiting e c.loop-count.invariant.able.usable t.turn));
        places = omega (arith, c.loop-count.invariant.able.places, place, fewer, left);
        room = omega (arith, c.loop-count.invariant.able.room, more, fewer, left);
      };
      within = λ key w waits. c.loop-count.invariant.within key w (turn_within self.state self.attachments.waiting e t.turn key w (subst (λ m. get m key ≡ Some w) t.waiting waits));
      beside = λ b j differs quiet.
          subst (λ s. IsQuietAt s new.attachments.waiting b j) (sym t.state)
          (subst (λ w. IsQuietAt (after self.state e) w b j) (sym t.waiting)
          (turn_beside self.state self.attachments.waiting e t.turn c.args.array c.args.index b j t.on_word differs (c.loop-count.invariant.beside b j differs quiet)));
    }
