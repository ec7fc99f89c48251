-- What the write side of a connection, the thread that writes, takes out of the box of its mails, and what
-- its client gets. See `docs/model.md`, "The hall".
use Rattle.std.specs.Prelude.{◌≡◌, ℕ, ◌+◌, ◌-◌, ◌<◌, ◌≤◌, List, ◌++◌, length, take}
use Rattle.std.specs.Prelude.{Result, Err}
use Rattle.std.specs.List.{filter_map}
use Rattle.fe_mail.specs.declared.mail.Mail.{Mail}
use Rattle.fe_messages.specs.Mails.{spelled}
use Rattle.fe_history.specs.Receipts.{receipt_of}
use Rattle.fe_history.specs.declared.receipt.Receipt.{Receipt}
use Rattle.fe_hall.specs.declared.write_end.WriteEnd.{WriteEnd}
use Rattle.fe_hall.specs.declared.write_end.WriteEnd.TheVariants.{Gone, Device, Stopped, Spent, NoMemory}
use Rattle.fe_shared.specs.declared.last_answer.LastAnswer.{LastAnswer}
use Rattle.fe_shared.specs.declared.last_answer.LastAnswer.TheVariants as last_answer
use Rattle.fe_shared.specs.Seats.{MailSeatState}

-- the most receipts that a side keeps
abbrev pub most_receipts : ℕ
most_receipts = 1024

-- the receipts of the answers among these mails to a connection, the first 1,024 of them
abbrev pub receipts_of : ℕ → List Mail → List Receipt
receipts_of conn mails = take most_receipts (filter_map (receipt_of conn) mails)

-- Exactly these mails of a connection were taken, in this order: its seat has them and counts them, and the
-- receipts are those of their first answers.
pub record AreTaken (before after : MailSeatState) (kept : List Receipt) (mails : List Mail) : Type 0 where
  pub conn : after.conn ≡ before.conn
  pub count : after.mails ≡ before.mails + length mails
  pub taken : after.taken ≡ before.taken ++ mails
  pub receipts : kept ≡ receipts_of before.conn mails

-- mails that are written at once: without the last of them they are spelled in less than 64 KiB
abbrev pub IsBatch : List Mail → Type 0
IsBatch mails = length (spelled (take (length mails - 1) mails)) < 65536

-- A client got the mails without the last batch, and of that this many bytes.
pub record BreaksOff (before : List ℕ) (mails : List Mail) (after : List ℕ) : Type 0 where
  pub earlier : List Mail
  pub last : List Mail
  pub all : mails ≡ earlier ++ last
  pub batch : IsBatch last
  pub count : ℕ
  pub got : after ≡ before ++ (spelled earlier ++ take count (spelled last))

-- A client got the mails, all of them or all but the last.
pub record MayLackLast (before : List ℕ) (mails : List Mail) (after : List ℕ) : Type 0 where
  pub earlier : List Mail
  pub last : List Mail
  pub all : mails ≡ earlier ++ last
  pub few : length last ≤ 1
  pub got : after ≡ before ++ spelled earlier

-- What a client had got before these mails were taken for it, and what it has got when its write side ends:
-- the frames of the mails in their order, all of them unless a write failed or memory was short.
abbrev pub IsWritten : List ℕ → List Mail → WriteEnd → List ℕ → Type 0
IsWritten before mails Device after = BreaksOff before mails after
IsWritten before mails (NoMemory short) after = MayLackLast before mails after
IsWritten before mails _ after = after ≡ before ++ spelled mails

-- an end as `Gone`, `Stopped` or `Spent` is what the hall last answered the side; the other two may follow
-- any answer
abbrev pub IsEndAfter : WriteEnd → LastAnswer → Type 0
IsEndAfter Gone s = s ≡ last_answer.Gone
IsEndAfter Stopped s = s ≡ last_answer.Stopped
IsEndAfter Spent s = s ≡ last_answer.Spent
IsEndAfter _ s = Unit {0}

-- ---- while the side runs

-- the receipts of a side once it took these mails
abbrev pub receipts_with : ℕ → List Receipt → List Mail → List Receipt
receipts_with conn receipts mails = take most_receipts (receipts ++ filter_map (receipt_of conn) mails)

-- a side took these mails next
pub record TakesOn (before after : MailSeatState) (kept kept_after : List Receipt)
    (mails : List Mail) : Type 0 where
  pub conn : after.conn ≡ before.conn
  pub count : after.mails ≡ before.mails + length mails
  pub taken : after.taken ≡ before.taken ++ mails
  pub receipts : kept_after ≡ receipts_with before.conn kept mails

-- the frames of the mails that were taken come after earlier frames: all of them, unless memory was short; no
-- write fails here
abbrev pub AreSpelled : {A : Type 0} → List ℕ → Result A WriteEnd → List Mail → List ℕ → Type 0
AreSpelled before (Err Device) mails frames = ⊥
AreSpelled before (Err (NoMemory short)) mails frames = MayLackLast before mails frames
AreSpelled before _ mails frames = frames ≡ before ++ spelled mails
