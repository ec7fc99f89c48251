use Rattle.std.proofs.Common.{sym, ◌∙◌}
use Rattle.fe_state.proofs.LogLemmas.{before_all-none}
use Rattle.fe_state.proofs.Undone.{none_of}
use Rattle.fe_state.proofs.state.State.rewind.Goals as goal

pub returns-clause-beginning : goal.returns-clause-beginning
returns-clause-beginning c =
    sym (before_all-none _ _ _ (none_of c.latest.result _ c.latest.ensures (sym c.is_some.ensures ∙ c.loop-self-test.false))) ∙ c.loop-self.invariant.beginning
