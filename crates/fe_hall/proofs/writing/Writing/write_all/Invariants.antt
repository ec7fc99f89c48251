use Rattle.std.proofs.Common.{◌≡◌, ◌++◌, List, []}
use Rattle.fe_mail.specs.declared.mail.Mail.{Mail}
use Rattle.fe_messages.specs.Mails.{spelled}
use Rattle.fe_history.specs.Acts.{AreIssued}
use Rattle.fe_hall.specs.Writes.{TakesOn}
use Rattle.fe_hall.proofs.writing.Writing.write_all.Given as goal

-- mails were taken, and all of them are written
abbrev pub invariant-loop : goal.invariant-loop
invariant-loop g l =
    ((mails : List Mail) × TakesOn l.fn.self.seat l.self.seat l.fn.self.receipts.list.items l.self.receipts.list.items mails × (g.H.WriteHalf.is_known l.fn.half → g.H.WriteHalf.got l.half ≡ g.H.WriteHalf.got l.fn.half ++ spelled mails) × AreIssued l.fn.self.seat.conn mails l.self.history)
    × (l.self.frames.items ≡ [])
    × (g.H.WriteHalf.is_known l.fn.half → g.H.WriteHalf.is_known l.half)
    × ((goal.iterator-loop g).can_next l.iterator' × (goal.iterator-loop g).is_finite l.iterator')
