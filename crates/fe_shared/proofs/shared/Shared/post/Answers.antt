use Rattle.std.proofs.Common.{arith, rules}
use Rattle.std.specs.Prelude.{IsTrue}
use Rattle.fe_shared.specs.Seats.{posts_more}
use Rattle.fe_shared.proofs.Marks.{posted_few, posted_marked}
use Rattle.fe_shared.proofs.Risings.{posted_goes, posted_steps}
use Rattle.fe_shared.proofs.shared.Shared.post.Goals as goal

-- each batch that was posted has an entry, and there are fewer than 2^63
pub overflow_add-self : goal.overflow_add-self
overflow_add-self g c =
    let s = c.self.inside in
    let few = posted_few s.front s.posted s.history c.self.invariant.0 in
    let tied = c.state.ensures.front.tied.place in
    let limit = c.state.ensures.limits.place in
    omega (arith, few, tied, limit)

pub invariant_of-self-inside-in-Ok : goal.invariant_of-self-inside-in-Ok
invariant_of-self-inside-in-Ok g c =
    let s = c.self.inside in
    let e = c.post.ensures in
    let more : IsTrue (posts_more s.front.books c.args.batch) = search rules in
    let goes = posted_goes s.front c.post.new.self c.args.batch c.post.result c.state.ensures.front s.open more e.refused e.posted e.err in
    (goes.books, (omega (arith, s.calls_agree, goes.calls), (omega (arith, s.mails_agree, goes.taken), (s.few, (s.call_parts, (s.mail_parts, tt))))))

pub invariant_of-self-in-Ok : goal.invariant_of-self-in-Ok
invariant_of-self-in-Ok g c =
    let s = c.self.inside in
    let e = c.post.ensures in
    let steps = posted_steps s.front c.post.new.self c.args.batch c.post.result e.refused e.posted in
    let step = rw c.in-Ok.is at steps in (
      posted_marked s.front c.post.new.self c.args.batch s.posted s.history c.history.result.now c.learn.new.self c.shows_legal.ensures.legal c.learn.ensures.0 c.learn.ensures.1
          (rw c.history.ensures c.requires.stored) c.state.ensures.front step.0 step.1.front c.self.invariant.0,
      c.self.invariant.1,
    )
