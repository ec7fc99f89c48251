use Rattle.std.proofs.Common.{Some, inl, inr, arith}
use Rattle.fe_pool.proofs.ChainLemmas.{push-linked, push-fits}
use Rattle.fe_pool.proofs.ReturnLemmas.{IsChoice, push-pool, push-returned}
use Rattle.fe_pool.proofs.pool.Pool.push_back.Goals.{then-is_none, else-is_none}
use Rattle.fe_pool.proofs.pool.Pool.push_back.Goals as goal

pub set_next-requires : goal.set_next-requires
set_next-requires g c =
    let kept = rw (← c.self.view_is) at c.requires in
    push-linked _ _ c.self.invariant c.args.family c.args.chain.now kept.chain c.args.node kept.taken kept.off _ c.set_neighbours.ensures

pub overflow_add-chain : goal.overflow_add-chain
overflow_add-chain g c =
    let kept = rw (← c.self.view_is) at c.requires in
    omega (arith, push-fits _ _ c.self.invariant c.args.family c.args.chain.now kept.chain c.args.node kept.taken kept.off)

pub invariant_of-self : goal.invariant_of-self
invariant_of-self g c =
    let kept = rw (← c.self.view_is) at c.requires in
    push-pool _ _ c.self.invariant c.args.family c.args.chain.now kept.chain c.args.node kept.taken kept.off _ _ c.set_neighbours.ensures c.set_next.ensures

pub returns : goal.returns
returns g c =
    let kept = rw (← c.self.view_is) at c.requires in
    let choice : IsChoice c.is_none.result (Some c.args.node) c.args.chain.now.first c.if-is_none.chain = elim c.if-is_none.branch [
      | then-is_none w ↦ inl (w.if-is_none.true, w.chain-is)
      | else-is_none w ↦ inr (w.if-is_none.false, w.chain-is)
    ] in
    let all = push-returned _ _ c.self.invariant c.args.family c.args.chain.now kept.chain c.args.node kept.taken kept.off _ _ c.set_neighbours.ensures c.set_next.ensures c.if-is_none.chain c.is_none.result c.is_none.ensures choice in
    rw (← c.self.view_is) (record {
      length = omega arith;
      changes = all;
    })
