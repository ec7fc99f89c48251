use Rattle.std.proofs.Common.{◌≡◌, ◌-◌, ◌≤◌, ◌++◌, length, take}
use Rattle.fe_hall.proofs.writing.write_whole.Given as goal

-- the bytes before the next one are written
abbrev pub invariant-loop-next : goal.invariant-loop-next
invariant-loop-next g l =
    record { within : l.next ≤ length l.bytes; is_known : g.H.WriteHalf.is_known l.initial.half → g.H.WriteHalf.is_known l.half; got : g.H.WriteHalf.is_known l.initial.half → g.H.WriteHalf.got l.half ≡ g.H.WriteHalf.got l.initial.half ++ take l.next l.bytes }

abbrev pub decreases-loop-next : goal.decreases-loop-next
decreases-loop-next g l = length l.bytes - l.next
