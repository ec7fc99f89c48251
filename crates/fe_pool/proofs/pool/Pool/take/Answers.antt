use Rattle.std.proofs.Common.{refl, true≢false}
use Rattle.fe_pool.proofs.PoolLemmas.{pool-first, pool-full, pool-free_off}
use Rattle.fe_pool.proofs.FreeLemmas.{pool-occupied}
use Rattle.fe_pool.proofs.pool.Pool.take.Goals as goal

pub returns-in_err-node-clause-full : goal.returns-in_err-node-clause-full
returns-in_err-node-clause-full g c = (
  λ none node free. pool-full _ _ c.self.invariant c.in_err-node.was node (rw (← c.self.view_is) at free),
  λ none. rw c.from_residual.ensures refl,
)

pub occupy-self-inside-requires-clause-within : goal.occupy-self-inside-requires-clause-within
occupy-self-inside-requires-clause-within g c = (pool-first _ _ c.self.invariant _ c.in_ok-node.was).0

pub occupy-self-inside-requires-clause-free : goal.occupy-self-inside-requires-clause-free
occupy-self-inside-requires-clause-free g c = (pool-first _ _ c.self.invariant _ c.in_ok-node.was).1

pub invariant_of-self : goal.invariant_of-self
invariant_of-self g c =
    rw (c.occupy-self-inside.ensures.after, c.occupy-self-inside.ensures.follower)
    (pool-occupied _ _ c.self.invariant c.in_ok-node.node c.args.item c.in_ok-node.was)

pub returns-clause-full : goal.returns-clause-full
returns-clause-full g c = (
  λ none. absurd (true≢false none),
  λ none. absurd (none c.in_ok-node.node (rw (← c.self.view_is) (pool-first _ _ c.self.invariant _ c.in_ok-node.was))),
)

pub returns-clause-was_free : goal.returns-clause-was_free
returns-clause-was_free g c = rw (← c.self.view_is) (pool-first _ _ c.self.invariant _ c.in_ok-node.was)

pub returns-clause-off : goal.returns-clause-off
returns-clause-off g c =
    rw (← c.self.view_is)
    (λ family. pool-free_off _ _ c.self.invariant family c.in_ok-node.node (pool-first _ _ c.self.invariant _ c.in_ok-node.was).1)
