use Rattle.std.proofs.Common.{Option, Some, None, IsSome, refl, ap, sym, ◌∙◌}
use Rattle.std.specs.Borrow.{Bor}
use Rattle.std.specs.Option.{option_copied}
use Rattle.fe_waits.proofs.WordLemmas.{chain-array, chain_of, chain-below}
use Rattle.fe_waits.proofs.word_chains.chain.Goals as goal

some_copied : {X : Type 0} (r : Option (Bor X)) → IsSome (option_copied r) → IsSome r
some_copied None h = h
some_copied (Some x) h = refl

pub unwrap-chains-requires : goal.unwrap-chains-requires
unwrap-chains-requires c = some_copied c.get.result (rw c.get.ensures.value (chain-array _ _ _ c.requires.word))

pub at-requires : goal.at-requires
at-requires c = chain-below _ _ _ _ c.requires.word (sym c.get.ensures.value ∙ ap option_copied c.unwrap-chains.ensures)

pub returns : goal.returns
returns c = chain_of _ _ _ _ (sym c.get.ensures.value ∙ ap option_copied c.unwrap-chains.ensures) ∙ c.at.ensures
