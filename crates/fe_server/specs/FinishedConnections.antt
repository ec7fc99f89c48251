-- What connections that have ended leave behind: seats (what each side counted), lists of messages that they
-- sent, and receipts of answers. And what the audit of a server says of them (`docs/model.md`, "The hall").
use Rattle.std.specs.Prelude.{◌≡◌, ℕ, Bool, false, ◌&&◌, ◌||◌, not, ◌==◌, filter, List, [], ◌∷◌, ◌++◌, Option}
use Rattle.std.specs.Prelude.{Some, None, All, IsTrue}
use Rattle.fe_state.specs.State.{ServerState}
use Rattle.fe_mail.specs.Books.{AddUp}
use Rattle.fe_history.specs.Receipts.{IsBorneOut}
use Rattle.fe_hall.specs.Audits.{Audited}
use Rattle.fe_shared.specs.Seats.{Seats, both_seats, one_seat}
use Rattle.fe_server.specs.declared.socket_handle.SocketHandle.{SocketHandle}

-- the seats of all connections that ended, if any, and that of one more connection, which counted this many
-- calls or mails
abbrev pub joined_to : Option Seats → ℕ → Option Seats
joined_to None amount = Some (one_seat amount)
joined_to (Some all) amount = Some (both_seats all (one_seat amount))

-- the list got one more element at its end, for which `is` holds
abbrev pub IsAdded : {A : Type 0} → (A → Type 0) → List A → List A → Type 0
IsAdded {A} is before after = (a : A) × (after ≡ before ++ a ∷ []) × is a

-- the handles without that of this connection
abbrev pub without : ℕ → List SocketHandle → List SocketHandle
without conn handles = filter (λ handle. not (handle.conn == conn)) handles

-- whether the closing lacks something: memory was short, or receipts are to be kept and those of some write
-- side may be missing
abbrev pub lacks : Bool → Bool → Bool → Bool
lacks short keeps whole = short || (keeps && not whole)

-- The audit of a server that stored this state: its books add up and are not spent, and neither the state nor
-- what was sent contradicts a receipt. If receipts were to be kept, those of every write side are there.
pub record IsSettled (keeps : Bool) (state : ServerState) (audit : Audited) : Type 0 where
  pub add_up : AddUp audit.books
  pub unspent : audit.books.spent ≡ false
  pub borne_out : All (IsBorneOut state audit.sent) audit.receipts
  pub whole : IsTrue keeps → IsTrue audit.whole
