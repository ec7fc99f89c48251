use Rattle.std.proofs.Common.{◌≡◌, ◌∷◌, ◌++◌, [], rules}
use Rattle.test_sockets.proofs.Bytes.{one_set}
use Rattle.test_sockets.proofs.script.DialogueStreams.read.Goals as goal

pub returns-clause-happened : goal.returns-clause-happened
returns-clause-happened c =
    let byte = c.in-Some.byte.now in
    let logged : c.happened-2.new.self.log.items ≡ c.args.self.now.log.items ++ 128 ∷ 1 ∷ byte ∷ [] = search rules in
    rw (one_set c.args.buffer.now byte c.requires) logged
