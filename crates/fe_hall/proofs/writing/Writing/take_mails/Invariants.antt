use Rattle.std.proofs.Common.{◌≡◌, ◌⊎◌, [], List}
use Rattle.fe_mail.specs.declared.mail.Mail.{Mail}
use Rattle.fe_messages.specs.Mails.{spelled}
use Rattle.fe_hall.specs.Writes.{TakesOn, IsBatch}
use Rattle.fe_hall.specs.within.Sides.{IssuesOn}
use Rattle.fe_hall.proofs.writing.Writing.take_mails.Given as goal

-- mails were taken, and all of them are spelled; it waits only where there are none, or where more mails are in the box
abbrev pub invariant-loop : goal.invariant-loop
invariant-loop g l =
    ((mails : List Mail) × TakesOn l.fn.self.seat l.self.seat l.fn.self.receipts.list.items l.self.receipts.list.items mails × IsBatch mails × (l.self.frames.items ≡ spelled mails) × IssuesOn l.fn.self.seat.conn mails l.fn.self.history l.self.history)
    × ((l.self.frames.items ≡ []) ⊎ (l.more ≡ l.self.seat.more))
    × ((goal.iterator-loop g).can_next l.iterator' × (goal.iterator-loop g).is_finite l.iterator')
