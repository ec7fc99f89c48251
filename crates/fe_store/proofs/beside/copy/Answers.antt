use Rattle.fe_store.proofs.beside.copy.Goals as goal

-- the bytes are those of the file that was made
pub returns-in-Ok-true : goal.returns-in-Ok-true
returns-in-Ok-true g c = record {
  disk = c.in_ok-copy.copy.disk;
  has = c.in_ok-copy.ensures.has;
  leaves = c.in_ok-copy.ensures.leaves;
}
