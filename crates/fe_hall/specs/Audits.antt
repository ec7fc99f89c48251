-- What is reported of a hall that was closed, when no thread has it any more. Each thread of a connection, a
-- side, has a seat, which counts the calls or mails of that connection (`docs/model.md`, "The hall").
use Rattle.std.specs.Prelude.{◌≡◌, Bool, true, false, List, Result, Ok, Err}
use Rattle.fe_mail.specs.Books.{AddUp, Books}
use Rattle.fe_wire.specs.declared.client_message.ClientMessage.{ClientMessage}
use Rattle.fe_history.specs.Acts.{Account}
use Rattle.fe_shared.specs.Seats.{Seats}
use Rattle.fe_history.specs.declared.act.Act.{Act}
use Rattle.fe_hall.specs.declared.closing.Unclosed.{Unclosed}
use Rattle.fe_hall.specs.declared.closing.Unclosed.TheVariants.{SeatMissing, StrangeReceipt}
use Rattle.fe_history.specs.declared.receipt.Receipt.{Receipt}

-- the books of a hall, what its connections sent, the receipts of the answers that they took, whether these
-- receipts are those of each write side, and what happened in the hall
pub record Audited : Type 0 where
  pub books : Books
  pub sent : List (List ClientMessage)
  pub receipts : List Receipt
  pub whole : Bool
  pub history : List Act

-- The audit of a hall: its books have what the seats of all connections counted, add up and are not spent;
-- the lists are those that were handed in, and `whole` is what the receipts that were handed in say.
pub record IsAudit (calls mails : Seats) (sent : List (List ClientMessage)) (whole : Bool)
    (audit : Audited) : Type 0 where
  pub booked_calls : audit.books.calls ≡ calls.amount
  pub booked_mails : audit.books.taken ≡ mails.amount
  pub add_up : AddUp audit.books
  pub unspent : audit.books.spent ≡ false
  pub lists : audit.sent ≡ sent
  pub all_receipts : audit.whole ≡ whole

-- a hall was not closed because a seat is missing, or its history has groups that the committing side did not
-- note
abbrev pub IsMissing : Unclosed → Type 0
IsMissing (SeatMissing missing) = Unit {0}
IsMissing (StrangeReceipt place) = ⊥

-- the account that a hall leaves, closed or not
abbrev pub account_left : {U : Type 0} → Result Audited (U × Account) → Account
account_left (Ok audit) = record { receipts = audit.receipts; history = audit.history; own = true }
account_left (Err unclosed) = unclosed.1
