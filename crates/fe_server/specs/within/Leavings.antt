-- What connections that have ended leave: what their seats count, the receipts of their write sides, and
-- their transcripts. A seat has what one side of a connection did; a receipt is the record of an answer that
-- was taken for its client (`docs/model.md`, "The hall").
use Rattle.std.specs.Prelude.{◌≡◌, ℕ, List, [], ◌∷◌, ◌++◌, Option, None, Some, All}
use Rattle.fe_wire.specs.declared.client_message.ClientMessage.{ClientMessage}
use Rattle.fe_history.specs.Acts.{AreIssued, GatheredReceipts}
use Rattle.fe_history.specs.declared.act.Act.{Act}
use Rattle.fe_history.specs.declared.receipt.Receipt.{Receipt}
use Rattle.fe_hall.specs.declared.ends.ReadEnd.{ReadEnd}
use Rattle.fe_hall.specs.declared.write_end.WriteEnd.{WriteEnd}
use Rattle.fe_shared.specs.Seats.{CallSeatState, MailSeatState, Seats}
use Rattle.fe_server.specs.Connections.{IsOfConnection, calls_of, mails_of}
use Rattle.fe_server.specs.declared.transcript.Transcript.{Transcript}

-- what a connection's socket received and was sent, its number, and what its two sides did
abbrev pub transcript_of : List ℕ → List ℕ → ℕ → CallSeatState → List ClientMessage → ReadEnd → MailSeatState
    → List Receipt → WriteEnd → Transcript
transcript_of received sent conn calls list read_end mails receipts write_end = record {
  conn = conn;
  received = received;
  sent = sent;
  calls = record { marker = record {}; value = calls };
  list = list;
  read_end = read_end;
  mails = record { marker = record {}; value = mails };
  receipts = receipts;
  write_end = write_end;
}

-- what connections that have ended leave
pub record Leavings : Type 0 where
  pub calls : Option Seats
  pub mails : Option Seats
  pub receipts : GatheredReceipts
  pub transcripts : List Transcript

-- how much the seats count, if there are any
abbrev pub amount_in : Option Seats → ℕ
amount_in None = 0
amount_in (Some seats) = seats.amount

-- Each transcript is that of a connection, and each answer among its mails was issued in this history. The
-- seats count the calls and the mails of these connections, and no others.
pub record AreWhole (calls mails : Option Seats) (history : List Act)
    (transcripts : List Transcript) : Type 0 where
  pub each : All IsOfConnection transcripts
  pub issued : All (λ t. AreIssued t.conn t.mails.value.taken history) transcripts
  pub calls_counted : amount_in calls ≡ calls_of transcripts
  pub mails_counted : amount_in mails ≡ mails_of transcripts

-- A connection's transcript comes after the others. Its sides have these seats, and each answer among its
-- mails was issued in this history.
pub record ComesAfter (before : List Transcript) (calls : CallSeatState) (mails : MailSeatState)
    (history : List Act) (after : List Transcript) : Type 0 where
  pub transcript : Transcript
  pub is_last : after ≡ before ++ transcript ∷ []
  pub of : IsOfConnection transcript
  pub issued : AreIssued transcript.conn transcript.mails.value.taken history
  pub same_calls : transcript.calls.value ≡ calls
  pub same_mails : transcript.mails.value ≡ mails
