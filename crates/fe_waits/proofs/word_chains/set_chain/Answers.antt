use Rattle.std.proofs.Common.{ap, sym, ◌∙◌, rules}
use Rattle.std.specs.FinMap.{insert}
use Rattle.fe_waits.proofs.WordLemmas.{chain-array, chain-below, with_chain-is}
use Rattle.fe_waits.proofs.word_chains.set_chain.Goals as goal

pub get_mut-requires : goal.get_mut-requires
get_mut-requires c = (search rules, chain-array _ _ _ c.requires.word)

pub set-requires : goal.set-requires
set-requires c = chain-below _ _ _ _ c.requires.word c.get_mut.ensures.value

pub returns : goal.returns
returns c = ap (insert c.args.words.now c.args.array) c.set.ensures ∙ sym (with_chain-is _ _ _ _ _ c.get_mut.ensures.value)
