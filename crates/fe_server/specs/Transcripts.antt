-- The transcript of a connection's socket: the bytes that it received and those that it was sent
-- (`docs/proved.md`, "Server").
use Rattle.std.specs.Prelude.{ℕ, List, [], ◌∷◌, ◌++◌, Option, ◌≡◌, option_map}
use Rattle.fe_streams.specs.Incoming.{bytes_read}
use Rattle.fe_mail.specs.declared.mail.Mail.{Mail}
use Rattle.fe_wire.specs.declared.client_message.ClientMessage.{ClientMessage}
use Rattle.fe_history.specs.declared.receipt.Receipt.{Receipt}
use Rattle.fe_hall.specs.declared.ends.ReadEnd.{ReadEnd}
use Rattle.fe_hall.specs.declared.write_end.WriteEnd.{WriteEnd}
use Rattle.fe_hall.specs.Reads.{HandlesStream}
use Rattle.fe_hall.specs.Writes.{AreTaken, IsWritten}
use Rattle.fe_shared.specs.Seats.{CallSeatState, MailSeatState, first_call_seat, first_mail_seat}
use Rattle.fe_server.specs.declared.byte_log.Bytes.{Bytes}
use Rattle.fe_server.specs.declared.byte_log.Bytes.TheOpen as shape
use Rattle.fe_server.specs.declared.byte_log.Bytes.TheFolds.{fold-Bytes}

abbrev more_bytes : shape.Bytes-F (List ℕ) → List ℕ
more_bytes shape.None = []
more_bytes (shape.Then before byte) = before.value ++ byte.value ∷ []

-- the bytes of a log, the first one first
abbrev pub bytes_in : Bytes → List ℕ
bytes_in bytes = fold-Bytes (List ℕ) more_bytes bytes

-- Where the bytes that a reader had at first are known, those received are the ones that were read.
abbrev pub AreRead : Option (List ℕ) → Option (List ℕ) → List ℕ → Type 0
AreRead first left received = bytes_read first left ≡ option_map (λ _. received) first

-- What the socket of a connection received and was sent, and what its two sides did that began with new
-- seats. The first messages of what it received were handled: those that the read side's seat has, and no
-- others. It was sent the frames of the mails that the write side took, and nothing else: all of them, unless
-- a write failed or memory was short.
pub record IsTranscript (received sent : List ℕ) (conn : ℕ) (calls : CallSeatState)
    (list : List ClientMessage) (read_end : ReadEnd) (mails : MailSeatState) (receipts : List Receipt)
    (write_end : WriteEnd) : Type 0 where
  pub handled : HandlesStream received (first_call_seat conn) calls list read_end
  pub all : List Mail
  pub taken : AreTaken (first_mail_seat conn) mails receipts all
  pub written : IsWritten [] all write_end sent
