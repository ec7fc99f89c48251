-- A connection's transcript from the clauses of its two sides.
use Rattle.std.proofs.Common.{◌≡◌, ℕ, List, [], subst}
use Rattle.fe_mail.specs.declared.mail.Mail.{Mail}
use Rattle.fe_wire.specs.declared.client_message.ClientMessage.{ClientMessage}
use Rattle.fe_history.specs.declared.receipt.Receipt.{Receipt}
use Rattle.fe_hall.specs.declared.ends.ReadEnd.{ReadEnd}
use Rattle.fe_hall.specs.declared.write_end.WriteEnd.{WriteEnd}
use Rattle.fe_hall.specs.Reads.{HandlesStream}
use Rattle.fe_hall.specs.Writes.{AreTaken, IsWritten}
use Rattle.fe_shared.specs.Seats.{CallSeatState, MailSeatState, first_call_seat, first_mail_seat}
use Rattle.fe_server.specs.Transcripts.{IsTranscript}

-- the seats with which the sides began are new ones of the connection
pub transcript_of : (received sent : List ℕ) (conn : ℕ) (began calls : CallSeatState) (list : List ClientMessage) (read_end : ReadEnd) (first mails : MailSeatState) (receipts : List Receipt) (write_end : WriteEnd)
    → began ≡ first_call_seat conn → first ≡ first_mail_seat conn → HandlesStream received began calls list read_end
    → ((all : List Mail) × AreTaken first mails receipts all × IsWritten [] all write_end sent)
    → IsTranscript received sent conn calls list read_end mails receipts write_end
transcript_of received sent conn began calls list read_end first mails receipts write_end p q handled wrote = record {
  handled = subst (λ (seat : CallSeatState). HandlesStream received seat calls list read_end) p handled;
  all = wrote.0;
  taken = subst (λ (seat : MailSeatState). AreTaken seat mails receipts wrote.0) q wrote.1;
  written = wrote.2;
}
