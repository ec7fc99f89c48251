use Rattle.std.proofs.Common.{arith, rules, false, ap, ◌∙◌}
use Rattle.std.specs.Prelude.{◌==◌}
use Rattle.std.specs.List.{list_any}
use Rattle.std.proofs.lemmas.List.{take_all}
use Rattle.fe_shared.specs.declared.watchers.Watcher.{Watcher}
use Rattle.fe_shared.proofs.Watching.{added_more}
use Rattle.fe_shared.proofs.watchers.Watchers.add_to.Goals as goal

pub loop-watcher-preserved : goal.loop-watcher-preserved
loop-watcher-preserved c =
    let none : Watcher = record { conn = 0; moved = false } in
    record {
      added = added_more c.loop-watcher.set c.add.new.self c.args.self.now.items.items c.loop-watcher.watcher-index _ none (omega arith) (search rules) c.loop-watcher.invariant.added c.add.ensures.added c.add.ensures.still;
      still = λ other there. c.add.ensures.still other (c.loop-watcher.invariant.still other there);
    }

pub returns-clause-added : goal.returns-clause-added
returns-clause-added c = λ conn some.
    c.loop-watcher.invariant.added conn
    (ap (λ ws. list_any (λ (w : Watcher). w.conn == conn) ws) (take_all c.loop-watcher.watcher-index c.args.self.now.items.items (omega arith)) ∙ some)
