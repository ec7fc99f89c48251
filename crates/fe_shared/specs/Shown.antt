-- What a call on the part under the lock shows by a value that nothing else makes (`docs/proved.md`,
-- "Server").
use Rattle.std.specs.Prelude.{ℕ, Bool}
use Rattle.fe_state.specs.declared.batch.Batch.{Batch}

-- a batch as it was cut, and how many were cut before it
pub record Cut : Type 0 where
  pub batch : Batch
  pub count : ℕ

-- a read side that need not wait: its connection, and whether there was no memory to note that it waits
pub record Rest : Type 0 where
  pub conn : ℕ
  pub short : Bool
