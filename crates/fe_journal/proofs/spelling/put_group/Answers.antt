use Rattle.std.proofs.Common.{◌∷◌, length, refl, arith, rules}
use Rattle.byteorder.specs.Endian.{big_bytes}
use Rattle.fe_journal.proofs.Buffers.{group_put}
use Rattle.fe_journal.proofs.spelling.put_group.Goals as goal

pub returns-clause-put : goal.returns-clause-put
returns-clause-put c =
    group_put c.args.buffer.now (1 ∷ big_bytes 4 (length c.args.payload.now)) c.args.payload.now c.copy_from_slice.new.self c.copy_from_slice-2.new.self refl (search (rules, c.copy_from_slice.ensures.after, c.write_u32.ensures)) c.copy_from_slice-2.ensures.after (omega (arith, c.requires.room))
