use Rattle.std.proofs.Common.{List, ℕ, subst, ◌∙◌}
use Rattle.fe_store.specs.Spare.{AreSpare}
use Rattle.fe_store.proofs.beside.clear.Goals as goal

-- the bytes of the file that was found are spare
pub remove_spare-removed-requires-clause-spare : goal.remove_spare-removed-requires-clause-spare
remove_spare-removed-requires-clause-spare g c = record {
  disk = c.in_ok-disk.disk;
  found = c.in_ok-disk.ensures.found;
  holds = λ honest. subst (λ (l : List ℕ). AreSpare l c.args.others.now) (c.as_slice.ensures.value ∙ c.in_ok-bytes.ensures honest) (c.is_spare.ensures.0 c.if-not-is_spare.false);
}
