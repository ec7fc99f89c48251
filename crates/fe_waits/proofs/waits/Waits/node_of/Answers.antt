use Rattle.std.proofs.Common.{is_some, ap}
use Rattle.fe_waits.proofs.WalkLemmas.{walk-on, walk-row}
use Rattle.fe_waits.proofs.SearchLemmas.{searched-none_yet, searched-end, searched-all, searched-found, searched-next}
use Rattle.fe_waits.proofs.waits.Waits.node_of.Goals as goal

pub loop-init : goal.loop-init
loop-init c = searched-none_yet _ _ _ _ c.self.invariant _ _ c.at-chain.result c.at-chain.ensures

pub returns-in_err-node-clause-absent : goal.returns-in_err-node-clause-absent
returns-in_err-node-clause-absent c = rw (c.from_residual.ensures, ← c.self.view_is) (searched-end _ _ _ _ c.self.invariant _ _ _ _ _ c.loop.invariant c.in_err-node.was)

pub get-requires : goal.get-requires
get-requires c = ap is_some (walk-row _ _ _ _ c.self.invariant _ _ _ _ c.loop.invariant.walk _ c.in_ok-node.was).1

pub returns-then-get-number-clause-found : goal.returns-then-get-number-clause-found
returns-then-get-number-clause-found c =
    rw (← c.self.view_is)
    (searched-found _ _ _ _ c.self.invariant _ _ _ _ _ c.loop.invariant _ c.in_ok-node.was _ c.get.ensures c.if-get-number.true, ap is_some c.get.ensures)

pub next-at-requires : goal.next-at-requires
next-at-requires c = walk-on _ _ _ _ c.self.invariant _ _ _ _ c.loop.invariant.walk _ c.in_ok-node.was

pub loop-preserved : goal.loop-preserved
loop-preserved c = searched-next _ _ _ _ c.self.invariant _ _ _ _ _ c.loop.invariant _ c.in_ok-node.was _ _ c.get.ensures c.if-get-number.false c.next-at.ensures

pub returns-clause-absent : goal.returns-clause-absent
returns-clause-absent c = rw (← c.self.view_is) (searched-all _ _ _ _ c.self.invariant _ _ _ _ _ c.loop.invariant c.loop-test.false)
