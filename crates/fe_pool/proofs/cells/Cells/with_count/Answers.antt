use Rattle.fe_pool.proofs.WithCount.{made-more, made-all}
use Rattle.fe_pool.proofs.cells.Cells.with_count.Goals as goal

pub loop-index-preserved : goal.loop-index-preserved
loop-index-preserved g c = made-more c.loop-index.cells.items _ _ _ _ c.in_ok-push.ensures.items c.at.ensures c.loop-index.invariant

pub returns-clause-items : goal.returns-clause-items
returns-clause-items g c = (made-all _ _ _ _ c.loop-index-test.false c.loop-index.auto.index-end c.loop-index.invariant).items

pub returns-clause-of_word : goal.returns-clause-of_word
returns-clause-of_word g c = (made-all _ _ _ _ c.loop-index-test.false c.loop-index.auto.index-end c.loop-index.invariant).of_word

pub returns-clause-of_session : goal.returns-clause-of_session
returns-clause-of_session g c = (made-all _ _ _ _ c.loop-index-test.false c.loop-index.auto.index-end c.loop-index.invariant).of_session

pub returns-clause-followers : goal.returns-clause-followers
returns-clause-followers g c = (made-all _ _ _ _ c.loop-index-test.false c.loop-index.auto.index-end c.loop-index.invariant).followers
