use Rattle.fe_keeper.specs.within.Upholds.{store_of}
use Rattle.fe_keeper.proofs.Rests.{IsWriting, bytes_left}
use Rattle.fe_keeper.proofs.keeper_store.KeeperStore.finish.Given as goal

abbrev pub invariant-loop : goal.invariant-loop
invariant-loop g l = IsWriting g.D.Disk l.fn.self l.self

abbrev pub decreases-loop : goal.decreases-loop
decreases-loop g l = bytes_left (store_of l.self).checkpoint
