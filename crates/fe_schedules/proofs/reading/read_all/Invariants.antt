use Rattle.std.proofs.Common.{List, ◌++◌, ◌-◌, drop, length}
use Rattle.fe_desk.specs.Messages.{outputs}
use Rattle.fe_schedules.specs.Schedule.{ArePrintedReplies}
use Rattle.fe_schedules.specs.declared.printed_reply.PrintedReply.{PrintedReply}
use Rattle.fe_schedules.proofs.reading.read_all.Given as goal

-- what is read so far, and the replies of the ports that are left
abbrev pub invariant-loop-at : goal.invariant-loop-at
invariant-loop-at l = (left : List PrintedReply) → ArePrintedReplies (drop l.from (outputs l.desk.run_state)) left → ArePrintedReplies (outputs l.desk.run_state) (l.printed_replies.items ++ left)

abbrev pub decreases-loop-at : goal.decreases-loop-at
decreases-loop-at l = length (outputs l.desk.run_state) - l.from
