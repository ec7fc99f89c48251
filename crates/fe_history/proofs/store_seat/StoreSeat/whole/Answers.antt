use Rattle.std.proofs.Common.{◌≡◌, List, length, ap, subst, ◌∙◌, arith}
use mathlib.Core.List.{IsPrefix}
use Rattle.fe_history.specs.Acts.{HasMore, stores_in}
use Rattle.fe_history.specs.declared.act.Act.{Act}
use Rattle.fe_history.proofs.Acts.{prefix_trans, stores_more, stores_same}
use Rattle.fe_history.proofs.store_seat.StoreSeat.whole.Goals as goal

pub returns-then-count-stored-clause-seen : goal.returns-then-count-stored-clause-seen
returns-then-count-stored-clause-seen g c =
    let this = prefix_trans c.self.inside.history c.learn.new.self c.count.new.self c.learn.ensures.0 c.count.ensures.this in
    (subst (λ (h : List Act). IsPrefix h c.count.new.self) c.self.view_is this, prefix_trans c.args.seen c.learn.new.self c.count.new.self c.learn.ensures.1 c.count.ensures.this)

pub returns-then-count-stored-clause-own : goal.returns-then-count-stored-clause-own
returns-then-count-stored-clause-own g c =
    let this = prefix_trans c.self.inside.history c.learn.new.self c.count.new.self c.learn.ensures.0 c.count.ensures.this in
    let more = stores_more c.self.inside.history c.count.new.self this (λ same. c.if-count-stored.true (omega (arith, c.count.ensures.count, same, c.self.invariant))) in
    subst (λ (h : List Act). HasMore (stores_in h) (stores_in c.count.new.self)) c.self.view_is more

pub returns-clause-seen : goal.returns-clause-seen
returns-clause-seen g c =
    let this = prefix_trans c.self.inside.history c.learn.new.self c.count.new.self c.learn.ensures.0 c.count.ensures.this in
    (subst (λ (h : List Act). IsPrefix h c.count.new.self) c.self.view_is this, prefix_trans c.args.seen c.learn.new.self c.count.new.self c.learn.ensures.1 c.count.ensures.this)

pub returns-clause-own : goal.returns-clause-own
returns-clause-own g c =
    let this = prefix_trans c.self.inside.history c.learn.new.self c.count.new.self c.learn.ensures.0 c.count.ensures.this in
    let count : length (stores_in c.count.new.self) ≡ length (stores_in c.self.inside.history) = omega (arith, c.count.ensures.count, c.if-count-stored.false, c.self.invariant) in
    stores_same c.self.inside.history c.count.new.self this count ∙ ap stores_in c.self.view_is
