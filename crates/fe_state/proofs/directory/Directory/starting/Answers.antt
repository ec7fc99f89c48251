use Rattle.fe_state.proofs.DirectoryLemmas.{first_kept}
use Rattle.fe_state.proofs.directory.Directory.starting.Goals as goal

pub invariant_of-result : goal.invariant_of-result
invariant_of-result c = first_kept _ _ c.in_ok-arrays.ensures.empty c.requires
