use Rattle.fe_waits.proofs.KeptLemmas.{word-ends}
use Rattle.fe_waits.proofs.WordLemmas.{word-chain}
use Rattle.fe_waits.proofs.waits.Waits.first_on.Goals as goal

pub chain-requires : goal.chain-requires
chain-requires c = let asked = rw (← c.self.view_is) at c.requires in record { word = word-chain _ _ _ asked.word }

pub returns-clause-on_word : goal.returns-clause-on_word
returns-clause-on_word c = rw (← c.self.view_is) (word-ends _ _ _ _ c.self.invariant c.args.array c.args.index c.chain.result c.chain.ensures).0

pub returns-clause-none : goal.returns-clause-none
returns-clause-none c = rw (← c.self.view_is) (word-ends _ _ _ _ c.self.invariant c.args.array c.args.index c.chain.result c.chain.ensures).1
