use Rattle.std.proofs.Common.{◌≡◌, None, length}
use Rattle.fe_mail.specs.Connections.{mails_on}
use Rattle.fe_desk.specs.within.Desk.{client_of}
use Rattle.fe_desk.proofs.Writing.{IsWrittenSoFar}
use Rattle.fe_desk.proofs.port.Port.take_mails.Given as goal

-- no reply waits, and the first mails are written
abbrev pub invariant-loop-mail : goal.invariant-loop-mail
invariant-loop-mail l =
    record { reply : l.self.reply ≡ None; so_far : IsWrittenSoFar l.fn.front (client_of l.fn.self) l.front (client_of l.self) }

abbrev pub decreases-loop-mail : goal.decreases-loop-mail
decreases-loop-mail l = length (mails_on l.front.connections l.self.conn)
