use Rattle.std.proofs.Common.{sym, ◌∙◌}
use Rattle.fe_state.proofs.EffectLemmas.{nothing_changes}
use Rattle.fe_state.proofs.state.enact.Goals as goal

pub returns-in-Nothing-clause-ok : goal.returns-in-Nothing-clause-ok
returns-in-Nothing-clause-ok c = sym (nothing_changes c.args.directory.now c.args.entry.now (sym c.requires.effect ∙ c.in-Nothing.is))
