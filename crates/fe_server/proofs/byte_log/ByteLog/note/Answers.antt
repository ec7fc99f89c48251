use Rattle.std.proofs.Common.{sym}
use Rattle.std.proofs.lemmas.List.{append-nil}
use Rattle.fe_server.proofs.Noted.{one_noted, all_noted}
use Rattle.fe_server.proofs.byte_log.ByteLog.note.Goals as goal

pub loop-byte-init : goal.loop-byte-init
loop-byte-init c = sym (append-nil c.args.self.now)

pub loop-byte-preserved : goal.loop-byte-preserved
loop-byte-preserved c = one_noted c.args.self.now c.loop-byte.self c.note_one.new.self c.args.bytes.now c.loop-byte.byte-index c.loop-byte-test.true c.loop-byte.invariant c.note_one.ensures

pub returns : goal.returns
returns c = all_noted c.args.self.now c.loop-byte.self c.args.bytes.now c.loop-byte.byte-index c.loop-byte-test.false c.loop-byte.invariant
