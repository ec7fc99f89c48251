-- The state of the front, and what is always true of it. The front takes the events of connections, makes
-- entries of the history, and has them stored in batches. At most one batch is out, cut and not yet posted
-- (`docs/model.md`, "The front").
use Rattle.std.specs.Prelude.{◌≡◌, ◌↔◌, ℕ, ◌+◌, ◌≤◌, refl, Bool, not, ◌&&◌, nat_le, nat_lt, [], length}
use Rattle.std.specs.Prelude.{Option, Some, None, IfSome, is_some}
use Rattle.std.specs.Ordering.{nat_cmp}
use Rattle.std.specs.Coded.{Coded, code_by, coded×, coded_ℕ, coded_option}
use Rattle.std.specs.FinMap.{FinMap, code, empty, get, len}
use Rattle.fe_service.specs.AttachmentsState.{holder_of, is_closing}
use Rattle.fe_state.specs.State.{ServerState}
use Rattle.fe_service.specs.Events.{AreFreeAttachments}
use Rattle.fe_service.specs.Service.{ServiceState, IsService, service_code}
use Rattle.fe_mail.specs.Books.{Books, Balances, first_books, books_code}
use Rattle.fe_mail.specs.Connections.{session_on, mails_in}
use Rattle.fe_mail.specs.declared.connection.Connection.{Connection}
use Rattle.fe_mail.specs.contracts.connection.Connection.{the_row as connection_row}
use Rattle.fe_front.specs.declared.out.Out.{Out}
use Rattle.fe_front.specs.contracts.out.Out.{the_row as out_row}
use Rattle.fe_state.specs.Limits.{most_batch_entries, most_event_entries, greatest_place, most_waiting}

-- The state with its attachments, what waits and the entries not yet cut; the connections with their sessions
-- and boxes; how many entries are durable (the mark); where the batch that is out begins, and how long it is;
-- and the books, which count calls and mails.
pub record FrontState : Type 0 where
  pub service : ServiceState
  pub connections : FinMap nat_cmp Connection
  pub durable : ℕ
  pub out : Option Out
  pub books : Books

-- for proofs, a front is coded as the tuple of its fields
abbrev pub front_code : Coded FrontState
front_code =
    code_by
    (ServiceState × (FinMap nat_cmp Connection × (ℕ × (Option Out × Books))))
    (coded× service_code (coded× (code coded_ℕ connection_row.coded)
    (coded× coded_ℕ (coded× (coded_option out_row.coded) books_code))))
    (λ f. (f.service, (f.connections, (f.durable, (f.out, f.books)))))
    (λ t. record {
      service = t.0;
      connections = t.1.0;
      durable = t.1.1.0;
      out = t.1.1.1.0;
      books = t.1.1.1.1;
    })
    (λ _. refl)

-- how many entries the batch that is out has
abbrev pub out_length : Option Out → ℕ
out_length None = 0
out_length (Some o) = o.length

-- What ties the parts of a front: a connection has the session that has the connection; each entry is
-- durable, out or not yet cut; a batch that is out begins at the mark and has at most `most_batch_entries`
-- entries; and the books balance with what waits and what is in the boxes.
pub record IsTied (f : FrontState) : Type 0 where
  pub agree : (session conn : ℕ) → (holder_of f.service.attachments session ≡ Some conn)
      ↔ (session_on f.connections conn ≡ Some session)
  pub place : f.service.state.place ≡ f.durable + out_length f.out + length f.service.pending
  pub few_out : out_length f.out ≤ most_batch_entries
  pub out_first : IfSome f.out (λ o. o.first ≡ f.durable)
  pub balance : Balances f.books (len f.service.waiting) (mails_in f.connections)

-- what is always true of a front: no waiting request may be served, its parts are tied, at most
-- `most_waiting` requests wait, and at most `most_batch_entries` entries are pending
pub record IsFront (f : FrontState) : Type 0 where
  pub service : IsService f.service
  pub tied : IsTied f
  pub few_waiting : len f.service.waiting ≤ most_waiting
  pub few_pending : length f.service.pending ≤ most_batch_entries

-- a front that begins, over a state: each session has an attachment with no connection, and all entries are
-- durable
pub record IsFirst (begun : ServerState) (f : FrontState) : Type 0 where
  pub state : f.service.state ≡ begun
  pub attachments : AreFreeAttachments begun.sessions f.service.attachments
  pub waiting : f.service.waiting ≡ empty
  pub pending : f.service.pending ≡ []
  pub connections : f.connections ≡ empty
  pub durable : f.durable ≡ begun.place
  pub out : f.out ≡ None
  pub books : f.books ≡ first_books

-- whether at most `most_waiting` entries are pending, so that one more event has room
abbrev pub has_room : FrontState → Bool
has_room f = nat_le (length f.service.pending) most_waiting

-- whether the history has fewer places left than one event may need
abbrev pub is_spent : FrontState → Bool
is_spent f = nat_lt greatest_place (f.service.state.place + most_event_entries)

-- whether a connection has the session, and it is not closing
abbrev pub is_attached : FrontState → ℕ → Bool
is_attached f session =
    is_some (holder_of f.service.attachments session) && not (is_closing f.service.attachments session)

-- whether there is a connection with this number
abbrev pub is_connected : FrontState → ℕ → Bool
is_connected f conn = is_some (get f.connections conn)
