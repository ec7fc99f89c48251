use Rattle.std.proofs.Common.{◌≡◌, List, ◌++◌, length, map}
use Rattle.std.specs.List.{flat_map, AllByRecursion}
use Rattle.fe_wire.specs.Spelling.{reply_spelling, ReplyFits}
use Rattle.fe_wire.specs.declared.server_message.ServerMessage.{ServerMessage}
use Rattle.fe_schedules.specs.Schedule.{printed_to}
use Rattle.fe_schedules.proofs.reading.read_replies.Given as goal

-- what is read so far, and the replies that are left, are all of them
abbrev pub invariant-loop-rest : goal.invariant-loop-rest
invariant-loop-rest l =
    (replies : List ServerMessage) → AllByRecursion ReplyFits replies → l.frames ≡ flat_map reply_spelling replies
    → (left : List ServerMessage) × AllByRecursion ReplyFits left × (l.rest ≡ flat_map reply_spelling left)
    × (l.printed_replies.items ++ map (printed_to l.conn) left ≡ l.initial.printed_replies.items ++ map (printed_to l.conn) replies)

abbrev pub decreases-loop-rest : goal.decreases-loop-rest
decreases-loop-rest l = length l.rest
