use Rattle.std.proofs.Common.{sym, ◌∙◌, arith}
use Rattle.fe_state.proofs.DirectoryLemmas.{go_words, gone_may_come}
use Rattle.fe_state.proofs.Limits.{remove_kept}
use Rattle.fe_state.proofs.Undone.{insert-remove}
use Rattle.fe_state.proofs.directory.Directory.remove.Goals as goal

pub overflow_sub-self : goal.overflow_sub-self
overflow_sub-self c = omega (arith, go_words _ _ _ (sym c.remove.ensures.value ∙ c.unwrap-array.ensures), c.self.invariant.1, c.len.ensures)

pub invariant_of-self : goal.invariant_of-self
invariant_of-self c =
    let there = sym c.remove.ensures.value ∙ c.unwrap-array.ensures in
    rw c.remove.ensures.removed (remove_kept _ _ c.self.invariant.0, omega (arith, go_words _ _ _ there, c.self.invariant.1, c.len.ensures))

pub returns-clause-back : goal.returns-clause-back
returns-clause-back c =
    let there = sym c.remove.ensures.value ∙ c.unwrap-array.ensures in
    rw c.remove.ensures.removed (record {
      can_restore = gone_may_come _ _ _ c.self.invariant.0 there;
      restored = rw (insert-remove _ _ _ there) c.self.view_is;
    })
