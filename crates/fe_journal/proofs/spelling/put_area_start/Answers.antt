use Rattle.std.proofs.Common.{length, sym, ◌∙◌, arith}
use Rattle.std.proofs.lemmas.Bool.{eqb-true}
use Rattle.std.proofs.lemmas.List.{length-set}
use Rattle.fe_journal.proofs.Buffers.{none_put, start_put}
use Rattle.fe_journal.proofs.spelling.put_area_start.Goals as goal

pub returns-then-is_empty-clause-put : goal.returns-then-is_empty-clause-put
returns-then-is_empty-clause-put c =
    record {
      bytes_are = none_put c.args.buffer.now c.args.catch_up.now (omega (arith, c.requires.room)) (eqb-true (length c.args.catch_up.now) 0 (sym c.is_empty.ensures ∙ c.if-is_empty.true));
      same = length-set c.args.buffer.now 0 0;
    }

pub returns-clause-put : goal.returns-clause-put
returns-clause-put c = start_put c.args.buffer.now _ c.args.catch_up.now c.put_group.result c.is_empty.result c.is_empty.ensures c.if-is_empty.false c.put_group.ensures.put
