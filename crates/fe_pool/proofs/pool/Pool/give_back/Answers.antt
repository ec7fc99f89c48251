use Rattle.fe_pool.proofs.PoolLemmas.{pool-off_loose, some-below}
use Rattle.fe_pool.proofs.FreeLemmas.{pool-vacated}
use Rattle.fe_pool.proofs.pool.Pool.give_back.Goals as goal

pub vacate-item-requires-clause-loose : goal.vacate-item-requires-clause-loose
vacate-item-requires-clause-loose g c =
    pool-off_loose _ _ c.self.invariant c.args.node (rw (← c.self.view_is) at c.requires.off)

pub invariant_of-self : goal.invariant_of-self
invariant_of-self g c =
    let taken = rw (← c.self.view_is) at c.requires.taken in
    let loose = pool-off_loose _ _ c.self.invariant c.args.node (rw (← c.self.view_is) at c.requires.off) in
    rw c.vacate-item.ensures.after (pool-vacated _ _ c.self.invariant c.args.node (some-below _ _ taken) taken loose)
