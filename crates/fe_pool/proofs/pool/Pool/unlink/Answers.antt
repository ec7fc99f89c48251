use Rattle.std.proofs.Common.{sym, ◌∙◌, inl, inr}
use Rattle.fe_pool.proofs.PoolLemmas.{some-below}
use Rattle.fe_pool.proofs.ReturnLemmas.{IsChoice, unlink-linked, unlink-item, unlink-before, unlink-behind, unlink-still, unlink-pool, unlink-off, unlink-returned, unlink-shorter}
use Rattle.fe_pool.proofs.pool.Pool.unlink.Goals.{then-is_none, else-is_none, then-is_none-2, else-is_none-2}
use Rattle.fe_pool.proofs.pool.Pool.unlink.Goals as goal

pub neighbours-requires : goal.neighbours-requires
neighbours-requires g c =
    let kept = rw (← c.self.view_is) at c.requires in
    some-below _ _ (unlink-item _ _ c.self.invariant c.args.family c.args.chain.now kept.chain c.args.node kept.on)

pub unwrap-requires : goal.unwrap-requires
unwrap-requires g c =
    let kept = rw (← c.self.view_is) at c.requires in
    rw c.neighbours.ensures (unlink-linked _ _ c.self.invariant c.args.family c.args.chain.now kept.chain c.args.node kept.on)

pub set_next-requires : goal.set_next-requires
set_next-requires g c =
    let kept = rw (← c.self.view_is) at c.requires in
    unlink-before _ _ c.self.invariant c.args.family c.args.chain.now kept.chain c.args.node kept.on c.unwrap.result (sym c.unwrap.ensures ∙ c.neighbours.ensures)

pub set_previous-requires : goal.set_previous-requires
set_previous-requires g c =
    let kept = rw (← c.self.view_is) at c.requires in
    unlink-behind _ _ c.self.invariant c.args.family c.args.chain.now kept.chain c.args.node kept.on c.unwrap.result (sym c.unwrap.ensures ∙ c.neighbours.ensures) _ c.set_next.ensures

pub set_neighbours-requires : goal.set_neighbours-requires
set_neighbours-requires g c =
    let kept = rw (← c.self.view_is) at c.requires in
    unlink-still _ _ c.self.invariant c.args.family c.args.chain.now kept.chain c.args.node kept.on c.unwrap.result (sym c.unwrap.ensures ∙ c.neighbours.ensures) _ c.set_next.ensures _ c.set_previous.ensures

pub invariant_of-self : goal.invariant_of-self
invariant_of-self g c =
    let kept = rw (← c.self.view_is) at c.requires in
    unlink-pool _ _ c.self.invariant c.args.family c.args.chain.now kept.chain c.args.node kept.on c.unwrap.result (sym c.unwrap.ensures ∙ c.neighbours.ensures) _ c.set_next.ensures _ c.set_previous.ensures _ c.set_neighbours.ensures

pub returns : goal.returns
returns g c =
    let kept = rw (← c.self.view_is) at c.requires in
    let link = sym c.unwrap.ensures ∙ c.neighbours.ensures in
    let first : IsChoice c.is_none.result c.unwrap.result.next c.args.chain.now.first c.if-is_none.chain = elim c.if-is_none.branch [
      | then-is_none w ↦ inl (w.if-is_none.true, w.chain-is)
      | else-is_none w ↦ inr (w.if-is_none.false, w.chain-is)
    ] in
    let last : IsChoice c.is_none-2.result c.unwrap.result.previous c.args.chain.now.last c.if-is_none-2.chain = elim c.if-is_none-2.branch [
      | then-is_none-2 w ↦ inl (w.if-is_none-2.true, w.chain-is)
      | else-is_none-2 w ↦ inr (w.if-is_none-2.false, w.chain-is)
    ] in
    let all = unlink-returned _ _ c.self.invariant c.args.family c.args.chain.now kept.chain c.args.node kept.on c.unwrap.result link _ c.set_next.ensures _ c.set_previous.ensures _ c.set_neighbours.ensures c.if-is_none.chain c.if-is_none-2.chain c.is_none.result c.is_none-2.result c.is_none.ensures first c.is_none-2.ensures last in
    rw (← c.self.view_is) (record {
      length = unlink-shorter _ _ c.self.invariant c.args.family c.args.chain.now kept.chain c.args.node kept.on c.unwrap.result link _ c.set_next.ensures _ c.set_previous.ensures _ c.set_neighbours.ensures;
      off = unlink-off _ _ c.self.invariant c.args.family c.args.chain.now kept.chain c.args.node kept.on c.unwrap.result link _ c.set_next.ensures _ c.set_previous.ensures _ c.set_neighbours.ensures;
      changes = all;
    })
