-- What a table is once a `&mut` to one of its values has ended.
use Rattle.std.specs.Prelude.{ℕ}
use Rattle.std.specs.Borrow.{Fml, RattleType, MutBor, Lends}
use Rattle.std.specs.FinMap.{FinMap, insert}
use Rattle.fe_table.specs.Table.{put_at}
use Rattle.std.specs.Ordering.{nat_cmp}
use Rattle.fe_table.specs.contracts.table.Table.{the_row}

module _ (V ROOM : RattleType) (table : MutBor (FinMap nat_cmp V.Denot)) where
  -- the key has the value that r ends with, and every other key keeps its value
  abbrev pub lends_value : ℕ → MutBor V.Denot → Fml
  lends_value key r = Lends (the_row V ROOM) V table r (insert table.now key)

  -- the key at this position has the value that r ends with, and every other key keeps its value
  abbrev pub lends_position : ℕ → MutBor V.Denot → Fml
  lends_position position r = Lends (the_row V ROOM) V table r (put_at table.now position)
