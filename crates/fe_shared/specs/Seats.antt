-- Seats: what the two sides of a connection, its reading and its writing thread, did; and what the books of a
-- hall may count. See `docs/model.md`, "The hall".
use Rattle.std.specs.Prelude.{◌≡◌, ◌⊎◌, ℕ, ◌+◌, ◌-◌, ◌^◌, ◌≤◌, Bool, true, false, ◌&&◌, nat_lt, nat_le, List}
use Rattle.std.specs.Prelude.{[], ◌∷◌, ◌++◌, length}
use Rattle.fe_state.specs.declared.batch.Batch.{Batch}
use Rattle.fe_mail.specs.Books.{Books}
use Rattle.fe_wire.specs.declared.client_message.ClientMessage.{ClientMessage}
use Rattle.fe_wire.specs.declared.client_message.ClientMessage.TheVariants.{Call}
use Rattle.fe_mail.specs.declared.mail.Mail.{Mail}
use Rattle.fe_shared.specs.declared.last_answer.LastAnswer.{LastAnswer}
use Rattle.fe_shared.specs.declared.last_answer.LastAnswer.TheVariants.{Served, Gone, Stopped, Spent}
use Rattle.fe_shared.specs.declared.taking.Taking.{Taking}
use Rattle.fe_shared.specs.declared.taking.Taking.TheVariants as taking

-- what the read side of a connection did
pub record CallSeatState : Type 0 where
  -- the connection's number
  pub conn : ℕ
  -- how many calls it made
  pub calls : ℕ
  -- its messages that were taken, in their order
  pub messages : List ClientMessage
  -- the place after all entries that were made when the last of them was taken, 0 if none was
  pub place : ℕ
  -- what the hall last answered the side
  pub last_answer : LastAnswer
  -- whether the side removed its connection
  pub departed : Bool
  -- whether it did so only once it need not wait for what came of its messages
  pub rested : Bool

-- what the write side of a connection did
pub record MailSeatState : Type 0 where
  -- the connection's number
  pub conn : ℕ
  -- how many mails it took
  pub mails : ℕ
  -- the mails that it took, in their order
  pub taken : List Mail
  -- whether more were in its box when it took the last one, false if it took none
  pub more : Bool
  -- what the hall last answered the side
  pub last_answer : LastAnswer
  -- whether the side removed its connection
  pub departed : Bool

-- the seats of this many connections, and how many calls or mails they counted
pub record Seats : Type 0 where
  pub connections : ℕ
  pub amount : ℕ

-- the seats of the two sides of a connection just made
abbrev pub first_call_seat : ℕ → CallSeatState
first_call_seat conn = record {
  conn = conn;
  calls = 0;
  messages = [];
  place = 0;
  last_answer = Served;
  departed = false;
  rested = false;
}

abbrev pub first_mail_seat : ℕ → MailSeatState
first_mail_seat conn =
    record { conn = conn; mails = 0; taken = []; more = false; last_answer = Served; departed = false }

-- the seats of one connection, which counted this many calls or mails; and the seats of two groups of
-- connections
abbrev pub one_seat : ℕ → Seats
one_seat amount = record { connections = 1; amount = amount }

abbrev pub both_seats : Seats → Seats → Seats
both_seats s t = record { connections = s.connections + t.connections; amount = s.amount + t.amount }

-- the most connections that a hall makes
abbrev pub most_connections : ℕ
most_connections = 2 ^ 62

-- A ledger has all its parts: one for each connection that a hall makes, and one for its book.
abbrev pub IsWholeLedger : ℕ → ℕ → Type 0
IsWholeLedger all parts = (all ≡ parts) × (all ≡ most_connections + 1)

-- one connection's part of such a ledger, which has counted nothing yet
abbrev pub IsNewPart : ℕ → ℕ → ℕ → ℕ → Type 0
IsNewPart all parts_in_ledger parts amount = (parts ≡ 1) × (amount ≡ 0) × IsWholeLedger all parts_in_ledger

-- a blank makes the ledger of this name, which has all its parts
abbrev pub IsBlankOf : ℕ → ℕ → ℕ → ℕ → ℕ → Type 0
IsBlankOf ledger_name parts_in_ledger all name parts =
    (name ≡ ledger_name) × (parts ≡ parts_in_ledger) × IsWholeLedger all parts_in_ledger

-- the most that a book may count before the sides of a hall end: one post more stays below 2^63
abbrev pub most_counted : ℕ
most_counted = 2 ^ 63 - 8192

-- books that are not spent, and have room for one post more
pub record IsOpen (b : Books) : Type 0 where
  pub unspent : b.spent ≡ false
  pub calls : b.calls ≤ most_counted
  pub mails : b.mails ≤ most_counted

-- how many calls a message is
abbrev pub calls_in : ClientMessage → ℕ
calls_in (Call number request) = 1
calls_in _ = 0

-- a message of a read side was taken; after it, this is the place after all entries
abbrev pub message_taken : CallSeatState → ClientMessage → ℕ → CallSeatState
message_taken s m place = record s {
  calls = s.calls + calls_in m;
  messages = s.messages ++ m ∷ [];
  place = place;
  last_answer = Served;
}

-- the seat of a read side after this answer to its message, at this place
abbrev pub message_answered : CallSeatState → ClientMessage → ℕ → LastAnswer → CallSeatState
message_answered s m place Served = message_taken s m place
message_answered s m place answer = record s { last_answer = answer }

-- a mail was taken for a write side; `more` says whether more are in its box
abbrev pub mail_taken : MailSeatState → Mail → Bool → MailSeatState
mail_taken s mail more =
    record s { mails = s.mails + 1; taken = s.taken ++ mail ∷ []; more = more; last_answer = Served }

-- the seat of a write side after this outcome of a look into its box
abbrev pub taking_answered : MailSeatState → Taking → MailSeatState
taking_answered s (taking.Mail mail more) = mail_taken s mail more
taking_answered s taking.Gone = record s { last_answer = Gone }
taking_answered s taking.Stopped = record s { last_answer = Stopped }
taking_answered s taking.Spent = record s { last_answer = Spent }

-- the read side had no message taken between the two states
pub record TookNoMessage (s t : CallSeatState) : Type 0 where
  pub conn : t.conn ≡ s.conn
  pub calls : t.calls ≡ s.calls
  pub messages : t.messages ≡ s.messages
  pub place : t.place ≡ s.place

-- the write side took no mail between the two states
pub record TookNoMail (s t : MailSeatState) : Type 0 where
  pub conn : t.conn ≡ s.conn
  pub mails : t.mails ≡ s.mails
  pub taken : t.taken ≡ s.taken

-- the side removed its connection, or the hall answered that it is stopped
abbrev pub HasDeparted : CallSeatState → Type 0
HasDeparted s = (s.departed ≡ true) ⊎ (s.last_answer ≡ Stopped)

-- the side removed its connection once it need not wait, or the hall answered that it is stopped
abbrev pub HasRested : CallSeatState → Type 0
HasRested s = ((s.departed ≡ true) × (s.rested ≡ true)) ⊎ (s.last_answer ≡ Stopped)

-- whether one more message may be taken
abbrev pub takes_more : Books → Bool
takes_more b = nat_lt b.calls most_counted && nat_lt b.mails most_counted

-- whether the mails of a batch may be made
abbrev pub posts_more : Books → Batch → Bool
posts_more b batch = nat_le (b.mails + length batch.entries) most_counted
