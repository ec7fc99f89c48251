-- Where a run of the desk stands, apart from the store: the front, what was written to each connection
-- number, the batch on its way to the store, and the groups that were handed to it (`docs/model.md`, "The
-- desk").
use Rattle.std.specs.Prelude.{ℕ, zero, suc, length, ◌≡◌, Bool, false, List, [], ◌∷◌, ◌++◌, Option, None}
use Rattle.std.specs.Prelude.{if◌then◌else◌}
use Rattle.fe_mail.specs.Connections.{mails_on}
use Rattle.fe_front.specs.Front.{FrontState, IsFirst}
use Rattle.fe_front.specs.Steps.{taken}
use Rattle.std.specs.Option.{option_map_or}
use Rattle.fe_state.specs.State.{ServerState}
use Rattle.fe_state.specs.declared.entry.Entry.{Entry}
use Rattle.fe_wire.specs.Spelling.{reply_spelling}
use Rattle.fe_wire.specs.Stream.{Decoding}
use Rattle.fe_wire.specs.declared.client_message.ClientMessage.{ClientMessage}
use Rattle.fe_wire.specs.declared.server_message.ServerMessage.{ServerMessage}
use Rattle.fe_desk.specs.declared.handed.Handed.{Handed}
use Rattle.fe_desk.specs.declared.handed.Handed.TheVariants.{Nothing, Cut, Stored}
use Rattle.fe_messages.specs.Mails.{spelled}
use Rattle.fe_front.specs.Steps as front
use Rattle.fe_front.specs.Posting as posting

-- the front after this many mails of a connection were taken
abbrev pub taken_times : ℕ → FrontState → ℕ → FrontState
taken_times zero f conn = f
taken_times (suc n) f conn = taken_times n (taken f conn) conn

-- the front after all mails of a connection were taken
abbrev pub emptied_box : FrontState → ℕ → FrontState
emptied_box f conn = taken_times (length (mails_on f.connections conn)) f conn

-- ---- the state of a run

-- A connection number as the desk knows it: what it has read of the stream; the messages that came whole and
-- were not taken, because memory was short or the device failed; the reply of a mail that was taken out of
-- its box and is not written; and what was written to it.
pub record Client : Type 0 where
  pub conn : ℕ
  pub decoder : Decoding
  pub left : List ClientMessage
  pub reply : Option ServerMessage
  pub written : List ℕ

-- The front; the clients in the order in which they came first; the batch that is out of the front; the
-- connection for whose message room is being made; the groups handed to the store, in their order; and
-- whether mails of an earlier step are still to be written.
pub record DeskRunState : Type 0 where
  pub front : FrontState
  pub clients : List Client
  pub handed : Handed
  pub making : Option ℕ
  pub groups : List (List Entry)
  pub owes : Bool

-- a desk over a state that was opened: no connection, nothing written, no group
pub record IsFirstRunState (begun : ServerState) (s : DeskRunState) : Type 0 where
  pub front : IsFirst begun s.front
  pub clients : s.clients ≡ []
  pub handed : s.handed ≡ Nothing
  pub making : s.making ≡ None
  pub groups : s.groups ≡ []
  pub owes : s.owes ≡ false

-- ---- mails are written

-- the bytes that are still to be written to a client: the reply that waits, then its mails in their order
abbrev pub unwritten : FrontState → Client → List ℕ
unwritten f c = option_map_or reply_spelling c.reply [] ++ spelled (mails_on f.connections c.conn)

-- all mails of a client are written, in their order, after what was written to it
abbrev pub written_out : FrontState → Client → Client
written_out f c = record c { reply = None; written = c.written ++ unwritten f c }

-- the clients, once all mails of each, one client after another, are written
abbrev pub all_written_out : FrontState → List Client → List Client
all_written_out f [] = []
all_written_out f (c ∷ cs) = written_out f c ∷ all_written_out (emptied_box f c.conn) cs

-- the front, once the box of each client, one after another, is empty
abbrev pub all_emptied : FrontState → List Client → FrontState
all_emptied f [] = f
all_emptied f (c ∷ cs) = all_emptied (emptied_box f c.conn) cs

-- every box is emptied, and its mails are written to their client
abbrev pub emptied : DeskRunState → DeskRunState
emptied s = record s {
  front = all_emptied s.front s.clients;
  clients = all_written_out s.front s.clients;
  owes = false;
}

-- the mails that an earlier step left are written first
abbrev pub discharged : DeskRunState → DeskRunState
discharged s = if s.owes then emptied s else s

-- ---- how what is written grows

-- What was written to each connection number comes first in what is written to it now, and numbers that came
-- since come after.
abbrev pub Extends : List (ℕ × List ℕ) → List (ℕ × List ℕ) → Type 0
Extends [] new = Unit {0}
Extends (x ∷ xs) [] = ⊥
Extends (x ∷ xs) (y ∷ ys) = (y.0 ≡ x.0) × ((more : List ℕ) × (y.1 ≡ x.1 ++ more)) × Extends xs ys

-- ---- the way of a batch: it is cut, stored as a group, and posted

-- what is pending is cut into a batch, if there is something and no batch is out
abbrev pub cut : DeskRunState → DeskRunState
cut s = record s {
  front = front.cut s.front;
  handed = option_map_or Cut (front.next_batch s.front) s.handed;
}

-- the batch that is cut and not yet stored becomes a group of the store
abbrev pub stored_from : Handed → DeskRunState → DeskRunState
stored_from Nothing s = s
stored_from (Cut batch) s = record s { handed = Stored batch; groups = s.groups ++ batch.entries ∷ [] }
stored_from (Stored batch) s = s

abbrev pub stored : DeskRunState → DeskRunState
stored s = stored_from s.handed s

-- the batch that is stored is posted, which ends the making of room
abbrev pub posted_from : Handed → DeskRunState → DeskRunState
posted_from Nothing s = s
posted_from (Cut batch) s = s
posted_from (Stored batch) s =
    record s { front = posting.posted s.front batch; handed = Nothing; making = None }

abbrev pub posted : DeskRunState → DeskRunState
posted s = posted_from s.handed s

-- the batch that is out is stored, if it is not yet, and posted
abbrev pub cleared : DeskRunState → DeskRunState
cleared s = posted (stored s)
