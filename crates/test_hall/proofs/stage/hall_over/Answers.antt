use Rattle.std.proofs.Common.{[], ◌∷◌, ap, sym, ◌∙◌}
use Rattle.fe_state.specs.State.{ServerState}
use Rattle.fe_history.specs.declared.act.Act.TheVariants.{Began}
use Rattle.test_hall.proofs.stage.hall_over.Goals as goal

pub new-requires-2-clause-begun : goal.new-requires-2-clause-begun
new-requires-2-clause-begun g c = (c.in_ok-copy.field-0, c.in_ok-front.ensures, c.requires.acts ∙ sym (ap (λ (s : ServerState). Began s ∷ []) c.in_ok-copy.ensures))
