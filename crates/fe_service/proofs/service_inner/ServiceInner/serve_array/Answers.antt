use Rattle.std.proofs.Common.{◌++◌, inl, inr, length-append, sym, ap, subst, ◌∙◌, arith}
use Rattle.std.specs.FinMap.{get}
use Rattle.fe_state.proofs.Maps.{same_or_other}
use Rattle.fe_service.specs.within.ServiceInner.{IsQuietAt, WaitAtTag}
use Rattle.fe_service.proofs.Serving.{taken_join, taken_usable, taken_len, taken_places, taken_room, taken_within, fewer_at_tag}
use Rattle.fe_service.proofs.service_inner.ServiceInner.serve_array.Goals as goal

pub serve_word-count-requires-clause-word : goal.serve_word-count-requires-clause-word
serve_word-count-requires-clause-word c =
    let (es, t, counted) = c.loop-index.invariant.served in
    (c.args.length, ap (λ m. get m c.args.array) t.arrays ∙ c.requires.there, c.loop-index-test.true)

pub serve_word-count-requires-clause-able : goal.serve_word-count-requires-clause-able
serve_word-count-requires-clause-able c =
    let (es, t, counted) = c.loop-index.invariant.served in
    let places = taken_places c.args.self.now c.loop-index.self es t in
    let room = taken_room c.args.self.now c.loop-index.self es t in
    record {
      usable = taken_usable c.args.self.now c.loop-index.self es c.requires.able.usable t;
      places = omega (arith, places, c.requires.able.places);
      room = omega (arith, room, c.requires.able.room);
    }

pub overflow_add-count : goal.overflow_add-count
overflow_add-count c =
    let (es, t, counted) = c.loop-index.invariant.served in
    let (fs, u, more) = c.serve_word-count.ensures.served in
    let one = taken_len c.args.self.now c.loop-index.self es t in
    let other = taken_len c.loop-index.self c.serve_word-count.new.self fs u in
    omega (arith, counted, more, one, other, c.requires.able.room)

pub loop-index-preserved : goal.loop-index-preserved
loop-index-preserved c =
    let old = c.args.self.now in
    let self = c.loop-index.self in
    let new = c.serve_word-count.new.self in
    let (es, t, counted) = c.loop-index.invariant.served in
    let (fs, u, more) = c.serve_word-count.ensures.served in
    let longer = length-append es fs in
    record {
      served = (es ++ fs, taken_join old self new es fs t u, omega (arith, counted, more, longer));
      here = λ tag j below at.
          elim (same_or_other j c.loop-index.index) as (λ _. IsQuietAt new.state new.attachments.waiting c.args.array j) [
            | inl same ↦
                subst
                (λ i. IsQuietAt new.state new.attachments.waiting c.args.array i)
                (sym same)
                (c.serve_word-count.ensures.here (tag j) (fewer_at_tag old.attachments.waiting self.attachments.waiting c.args.array c.loop-index.index (tag j) (taken_within old self es t) (subst (λ i. WaitAtTag old.attachments.waiting c.args.array i (tag j)) same at)))
            | inr other ↦ c.serve_word-count.ensures.beside c.args.array j (λ e. other e.1) (c.loop-index.invariant.here tag j (omega (arith, below, other)) at)
          ];
      beside = λ b j differs quiet. c.serve_word-count.ensures.beside b j (λ e. differs e.0) (c.loop-index.invariant.beside b j differs quiet);
    }

pub returns-clause-here : goal.returns-clause-here
returns-clause-here c = λ tag j below at. c.loop-index.invariant.here tag j (omega (arith, below, c.loop-index-test.false, c.loop-index.auto.index-end)) at
