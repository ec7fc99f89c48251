use Rattle.fe_pool.proofs.PoolLemmas.{pool-sound}
use Rattle.fe_pool.proofs.pool.Pool.capacity.Goals as goal

pub returns-clause-sound : goal.returns-clause-sound
returns-clause-sound g c = rw (← c.self.view_is) (pool-sound _ _ c.self.invariant)
