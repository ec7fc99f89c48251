use Rattle.fe_table.proofs.TableLemmas.{from_sorted-nil}
use Rattle.fe_table.proofs.table.Table.new.Goals as goal

pub returns : goal.returns
returns g c = record { empty = rw c.in_ok-keys.ensures.items from_sorted-nil }
