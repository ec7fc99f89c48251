use Rattle.std.proofs.Common.{sym, ap, ◌∙◌}
use Rattle.fe_pool.specs.within.Runs.{next_of}
use Rattle.fe_pool.proofs.PoolLemmas.{on-below, on-linked, pool-next}
use Rattle.fe_pool.proofs.pool.Pool.next.Goals as goal

pub neighbours-requires : goal.neighbours-requires
neighbours-requires g c = on-below _ _ c.self.invariant c.args.family c.args.node (rw (← c.self.view_is) at c.requires)

pub unwrap-requires : goal.unwrap-requires
unwrap-requires g c =
    rw c.neighbours.ensures
    (on-linked _ _ c.self.invariant c.args.family c.args.node (rw (← c.self.view_is) at c.requires))

pub returns : goal.returns
returns g c =
    let is = ap next_of (sym c.unwrap.ensures ∙ c.neighbours.ensures) in
    rw (← c.self.view_is)
    (λ first before after e. is ∙ pool-next _ _ c.self.invariant c.args.family c.args.node first before after e)
