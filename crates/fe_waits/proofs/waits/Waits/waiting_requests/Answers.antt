use Rattle.std.proofs.Common.{◌+◌, is_some, ap, sym, subst}
use Rattle.fe_pool.specs.declared.family.Family.TheVariants.{OfSession}
use Rattle.fe_waits.proofs.WalkLemmas.{walk-on, walk-row}
use Rattle.fe_waits.proofs.ListingLemmas.{IsListing, listing-none_yet, listing-more, listing-all, listing-next}
use Rattle.fe_waits.proofs.waits.Waits.waiting_requests.Goals as goal

pub loop-init : goal.loop-init
loop-init c =
    subst
    (IsListing c.self.inside.pool c.self.inside.sessions c.args.slot c.at-chain.result.first 0 c.at-chain.result.length)
    (sym c.in_ok-waiting_requests.ensures.items)
    (listing-none_yet _ _ _ _ c.self.invariant _ c.at-chain.result c.at-chain.ensures)

pub unwrap-node-requires : goal.unwrap-node-requires
unwrap-node-requires c = listing-more _ _ _ _ c.self.invariant _ _ _ _ _ c.loop.invariant c.loop-test.true

pub get-row-requires : goal.get-row-requires
get-row-requires c = ap is_some (walk-row _ _ _ _ c.self.invariant _ _ _ _ c.loop.invariant.walk _ c.unwrap-node.ensures).1

pub next-at-requires : goal.next-at-requires
next-at-requires c = walk-on _ _ _ _ c.self.invariant _ _ _ _ c.loop.invariant.walk _ c.unwrap-node.ensures

pub loop-preserved : goal.loop-preserved
loop-preserved c =
    subst
    (IsListing c.self.inside.pool c.self.inside.sessions c.args.slot c.next-at.result (c.loop.counter + 1) c.at-chain.result.length)
    (sym c.in_ok-push.ensures.items)
    (listing-next _ _ _ _ c.self.invariant _ _ _ _ _ c.loop.invariant _ c.unwrap-node.ensures ((c.capacity.ensures.sound.families OfSession).different _) c.get-row.result.now c.next-at.result c.get-row.ensures c.next-at.ensures)

pub returns : goal.returns
returns c = record {
  lists = rw (← c.self.view_is) (record {
    all = listing-all _ _ _ _ c.self.invariant _ _ _ _ _ c.loop.invariant c.loop-test.false;
    once = c.loop.invariant.once;
  });
}
