use Rattle.fe_state.proofs.LegalLimits.{limits_kept}
use Rattle.fe_state.proofs.laws.limits_are_kept.Goals as goal

pub returns : goal.returns
returns c = limits_kept
