use Rattle.std.proofs.Common.{List, sym, subst, ◌∙◌}
use Rattle.fe_shared.specs.Marks.{IsBegun}
use Rattle.fe_history.specs.declared.act.Act.{Act}
use Rattle.fe_hall.proofs.hall.Hall.new.Goals as goal

pub new-shared-requires-clause-begun : goal.new-shared-requires-clause-begun
new-shared-requires-clause-begun g c =
    subst (λ (h : List Act). IsBegun c.args.front h) (sym (c.again-seen.ensures ∙ c.named-history_words.ensures)) c.requires.begun
