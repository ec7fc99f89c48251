use Rattle.std.proofs.Common.{List, ℕ, subst, ◌∙◌}
use Rattle.fe_store.specs.Spare.{AreSpare}
use Rattle.fe_store.proofs.beside.compare.Goals as goal

-- the bytes are spare beside those of the file that was found
pub returns-then-is_spare : goal.returns-then-is_spare
returns-then-is_spare g c = record {
  disk = c.in_ok-disk.disk;
  found = c.in_ok-disk.ensures.found;
  holds = λ honest. subst (λ (l : List ℕ). AreSpare c.args.bytes.now l) (c.as_slice.ensures.value ∙ c.in_ok-others.ensures.bytes honest) (c.is_spare.ensures.0 c.if-is_spare.true);
}
