use Rattle.std.proofs.Common.{◌≡◌, ◌++◌, string_bytes, take}
use Rattle.std.specs.List.{flat_map}
use Rattle.fe_schedules.specs.Schedule.{printed_text}
use Rattle.fe_schedules.proofs.printed_reply.print_replies.Given as goal

-- the replies so far are printed
abbrev pub invariant-loop-one : goal.invariant-loop-one
invariant-loop-one l = string_bytes l.text ≡ string_bytes l.initial.text ++ flat_map printed_text (take l.one-index l.printed_replies)
