use Rattle.std.proofs.Common.{◌≡◌, Some, ap, ◌∙◌, sym}
use Rattle.fe_pool.specs.within.Runs.{lists}
use Rattle.fe_pool.specs.Columns.{index_before}
use Rattle.fe_pool.proofs.PoolLemmas.{pool-sound}
use Rattle.fe_pool.proofs.FreeLemmas.{pool-made, lists-replicate, index_before-none, index_before-some}
use Rattle.fe_pool.proofs.pool.Pool.with_nodes.Goals.{then-nodes-eq0, else-nodes-eq0}
use Rattle.fe_pool.proofs.pool.Pool.with_nodes.Goals as goal

pub invariant_of-result : goal.invariant_of-result
invariant_of-result g c =
    let made = c.in_ok-cells.ensures in
    let first : c.if-nodes-eq0.first_free ≡ index_before c.args.nodes = elim c.if-nodes-eq0.branch [
      | then-nodes-eq0 w ↦ w.first_free-is ∙ sym (index_before-none c.args.nodes w.if-nodes-eq0.true)
      | else-nodes-eq0 w ↦ w.first_free-is ∙ ap Some w.at.ensures ∙ sym (index_before-some c.args.nodes w.if-nodes-eq0.false)
    ] in
    pool-made _ c.args.nodes _ c.ranges.nodes.fits made.items made.followers made.of_word made.of_session first

pub returns-clause-of_word : goal.returns-clause-of_word
returns-clause-of_word g c = ap lists c.in_ok-cells.ensures.of_word ∙ lists-replicate c.args.nodes

pub returns-clause-of_session : goal.returns-clause-of_session
returns-clause-of_session g c = ap lists c.in_ok-cells.ensures.of_session ∙ lists-replicate c.args.nodes

pub returns-clause-sound : goal.returns-clause-sound
returns-clause-sound g c = pool-sound _ _ (invariant_of-result g c)
