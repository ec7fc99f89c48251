-- What the two sides of a connection, its reading and its writing thread, did with its stream
-- (`docs/model.md`, "The hall").
use Rattle.std.specs.Prelude.{ℕ, List, [], Option, None, Some, ◌≡◌, ◌≢◌, ◌+◌, ◌≤◌, Bool, true, false}
use Rattle.fe_mail.specs.declared.mail.Mail.{Mail}
use Rattle.fe_wire.specs.declared.client_message.ClientMessage.{ClientMessage}
use Rattle.fe_history.specs.Acts.{AreIssued, Receipts}
use Rattle.fe_hall.specs.declared.ends.ReadEnd.{ReadEnd}
use Rattle.fe_hall.specs.declared.ends.ReadEnd.TheVariants as read_end
use Rattle.fe_hall.specs.declared.write_end.WriteEnd.{WriteEnd}
use Rattle.fe_hall.specs.declared.write_end.WriteEnd.TheVariants as write_end
use Rattle.fe_hall.specs.Reads as reads
use Rattle.fe_hall.specs.Writes as writes
use Rattle.fe_shared.specs.Seats.{HasDeparted, HasRested, CallSeatState, MailSeatState}
use Rattle.fe_server.specs.declared.reads.ReadLimit.{ReadLimit}
use Rattle.fe_server.specs.declared.reads.ReadLimit.TheVariants as most

-- the bytes, or none if they are not known
abbrev pub known_bytes : Option (List ℕ) → List ℕ
known_bytes None = []
known_bytes (Some bytes) = bytes

-- whether a read side with this end ends the stream; at `Closed` and `Turns` it does not, and the write side
-- goes on
abbrev pub ends_stream : ReadEnd → Bool
ends_stream read_end.Closed = false
ends_stream read_end.Turns = false
ends_stream _ = true

-- how many reads are made from a connection at most, if the settings allow `turns`
abbrev pub most_reads : ReadLimit → ℕ → ℕ
most_reads most.All turns = turns
most_reads (most.None unstarted) turns = 0

-- A read side read its half of a stream, the direction from the client, at most `turns` times. What it
-- handled is the front of what was read, if the half's bytes are known and none was read before. It ended for
-- this reason: as `Turns` only after all of these reads, as `Closed` only at the end of the stream, as
-- `Device` only after a read that failed. After every end but `Stopped` its connection is gone, or the hall
-- had answered that it is stopped; after `Closed` and `Turns` it went only once the side need not wait for
-- its replies (`HasRested`).
pub record HasHandled {H : Type 0} (is_known : H → Type 0) (known : H → List ℕ) (reads_of : H → ℕ)
    (has_ended has_failed : H → Type 0) (turns : ℕ) (old new : H) (seat left : CallSeatState)
    (sent : List ClientMessage) (end : ReadEnd) : Type 0 where
  pub own : left.conn ≡ seat.conn
  pub handled : is_known old → known old ≡ [] → reads.HandlesStream (known new) seat left sent end
  pub made : end ≡ read_end.Turns → reads_of new ≡ reads_of old + turns
  pub few : reads_of new ≤ reads_of old + turns
  pub ended : end ≡ read_end.Closed → has_ended new
  pub failed : end ≡ read_end.Device → has_failed new
  pub hall : reads.IsEndAfter end left.last_answer
  pub departed : end ≢ read_end.Stopped → HasDeparted left
  pub rested : reads.IsQuietEnd end → HasRested left

-- A write side wrote to its half of a stream, the direction to the client, and ended for this reason. The
-- seat has the mails that it took. If the half's bytes are known, it got their frames: all, unless a write
-- failed or memory was short. The receipts are those of the first 1,024 answers among them, and their history
-- has each answer as issued to this connection. After every end but `Stopped` this is gone.
pub record HasWritten {W : Type 0} (is_known : W → Type 0) (got : W → List ℕ) (has_failed : W → Type 0)
    (old new : W) (seat left : MailSeatState) (receipts : Receipts) (end : WriteEnd) : Type 0 where
  pub own : left.conn ≡ seat.conn
  pub receipts_own : receipts.conn ≡ left.conn
  pub mails : List Mail
  pub taken : writes.AreTaken seat left receipts.items mails
  pub written : is_known old → writes.IsWritten (got old) mails end (got new)
  pub issued : AreIssued seat.conn mails receipts.history
  pub failed : end ≡ write_end.Device → has_failed new
  pub hall : writes.IsEndAfter end left.last_answer
  pub departed : end ≢ write_end.Stopped → left.departed ≡ true
