use Rattle.std.proofs.Common.{sym, ◌∙◌, arith}
use Rattle.fe_state.proofs.DirectoryLemmas.{go_words, last_kept}
use Rattle.fe_state.proofs.directory.Directory.restore.Goals as goal

pub overflow_sub-self-in-Created : goal.overflow_sub-self-in-Created
overflow_sub-self-in-Created c = omega (arith, go_words _ _ _ (sym c.remove.ensures.value ∙ c.unwrap-last.ensures), c.self.invariant.1, c.len.ensures)

pub invariant_of-self : goal.invariant_of-self
invariant_of-self c =
    let there = sym c.remove.ensures.value ∙ c.unwrap-last.ensures in
    rw c.remove.ensures.removed (last_kept _ _ c.self.invariant.0 there, omega (arith, go_words _ _ _ there, c.self.invariant.1, c.len.ensures))
