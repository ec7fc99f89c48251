-- What the events leave of a front. A comment says what has happened (`docs/model.md`, "The front").
use Rattle.std.specs.Prelude.{ℕ, ◌||◌, Bool, if◌then◌else◌, nat_lt, nat_eq, [], ◌∷◌, ◌++◌, length, drop}
use Rattle.std.specs.Prelude.{Option, Some, None, is_some}
use Rattle.std.specs.Option.{option_map_or}
use Rattle.std.specs.FinMap.{insert, remove}
use Rattle.fe_state.specs.declared.batch.Batch.{Batch}
use Rattle.fe_service.specs.AttachmentsState.{holder_of, count_of}
use Rattle.fe_service.specs.Events.{attached, settled, closed, withdrawn, cancelled, held}
use Rattle.fe_mail.specs.Books.{waiters_withdrawn, mail_boxed, mail_refused_by_box, mail_taken, box_dropped}
use Rattle.fe_mail.specs.Connections.{first_connection, session_on, mails_on, with_session, with_mails}
use Rattle.fe_mail.specs.declared.mail.Mail.{Mail}
use Rattle.fe_mail.specs.declared.mail.Mail.TheVariants.{Withdrawn}
use Rattle.fe_mail.specs.Limits.{most_mails_in_box}
use Rattle.fe_front.specs.Front.{FrontState, is_connected}

-- ---- building blocks

-- a session's waiting requests are withdrawn
abbrev pub withdrawn_from : FrontState → ℕ → FrontState
withdrawn_from f session =
    record f {
      service = withdrawn f.service session;
      books = waiters_withdrawn (count_of f.service.waiting session) f.books;
    }

-- a connection loses the session that it has
abbrev pub parted : FrontState → ℕ → ℕ → FrontState
parted f conn session =
    record f { service = held f.service session None; connections = with_session f.connections conn None }

-- a connection loses its session, if it has one
abbrev pub released : FrontState → ℕ → FrontState
released f conn = option_map_or (parted f conn) (session_on f.connections conn) f

-- the connection that has a session, if one has it, loses it
abbrev pub freed : FrontState → ℕ → FrontState
freed f session = option_map_or (λ conn. parted f conn session) (holder_of f.service.attachments session) f

-- a connection leaves its session, if it has one, and the session's waiting requests are withdrawn
abbrev pub departed : FrontState → ℕ → FrontState
departed f conn =
    option_map_or (λ session. parted (withdrawn_from f session) conn session) (session_on f.connections conn)
    f

-- a connection is removed with its box
abbrev pub unboxed : FrontState → ℕ → FrontState
unboxed f conn =
    record f {
      connections = remove f.connections conn;
      books = box_dropped (length (mails_on f.connections conn)) f.books;
    }

-- a connection goes: it leaves its session, and its box is dropped
abbrev pub dropped : FrontState → ℕ → FrontState
dropped f conn = if is_connected f conn then unboxed (departed f conn) conn else f

-- how many waiting requests are withdrawn when a connection goes
abbrev pub departing : FrontState → ℕ → ℕ
departing f conn = option_map_or (count_of f.service.waiting) (session_on f.connections conn) 0

-- a mail after the others in a box
abbrev pub boxed : FrontState → ℕ → Mail → FrontState
boxed f conn mail =
    record f {
      connections = with_mails f.connections conn (mails_on f.connections conn ++ mail ∷ []);
      books = mail_boxed f.books;
    }

-- a mail comes to a full box, and its connection goes
abbrev pub overflowed : FrontState → ℕ → FrontState
overflowed f conn = dropped (record f { books = mail_refused_by_box f.books }) conn

-- a mail comes to a connection; no mail is made if that is not connected
abbrev pub mailed : FrontState → ℕ → Mail → FrontState
mailed f conn mail =
    if is_connected f conn then
    (if nat_lt (length (mails_on f.connections conn)) most_mails_in_box then boxed f conn mail else overflowed
    f conn)
    else f

-- ---- events

-- a connection connects, with no session and an empty box
abbrev pub connected : FrontState → ℕ → FrontState
connected f conn = record f { connections = insert f.connections conn first_connection }

-- a connection gets a session, and the session's entry is made; neither had one
abbrev pub joined : FrontState → ℕ → ℕ → FrontState
joined f conn session =
    record f {
      service = attached f.service session conn;
      connections = with_session f.connections conn (Some session);
    }

-- a connection attaches a session: it leaves the one that it has, and a connection that had the session loses
-- it
abbrev pub attached_to : FrontState → ℕ → ℕ → FrontState
attached_to f conn session = joined (freed (released f conn) session) conn session

-- a session's floor is set to this one, with an entry
abbrev pub settled_to : FrontState → ℕ → ℕ → FrontState
settled_to f session floor = record f { service = settled f.service session floor }

-- a session is closed: its waiting requests are withdrawn; the connection keeps it until its entry is posted
abbrev pub closed_by : FrontState → ℕ → FrontState
closed_by f session =
    record f {
      service = closed f.service session;
      books = waiters_withdrawn (count_of f.service.waiting session) f.books;
    }

-- a waiting request is removed
abbrev pub cancelled_from : FrontState → ℕ → ℕ → FrontState
cancelled_from f session number =
    record f { service = cancelled f.service session number; books = waiters_withdrawn 1 f.books }

-- a connection cancels a waiting request of its session, and gets a mail that says so
abbrev pub cancelled_by : FrontState → ℕ → ℕ → ℕ → FrontState
cancelled_by f conn session number = mailed (cancelled_from f session number) conn (Withdrawn number)

-- a connection's first mail is taken, if it has one
abbrev pub taken : FrontState → ℕ → FrontState
taken f conn =
    if nat_lt 0 (length (mails_on f.connections conn)) then
    record f {
      connections = with_mails f.connections conn (drop 1 (mails_on f.connections conn));
      books = mail_taken f.books;
    }
    else f

-- whether no batch may be cut: one is out, or nothing is pending
abbrev pub has_no_cut : FrontState → Bool
has_no_cut f = is_some f.out || nat_eq (length f.service.pending) 0

-- the batch that a cut hands out: all pending entries, if there are some and no batch is out
abbrev pub next_batch : FrontState → Option Batch
next_batch f = if has_no_cut f then None else Some (record { first = f.durable; entries = f.service.pending })

-- the front after a cut
abbrev pub cut : FrontState → FrontState
cut f =
    if has_no_cut f then f
    else record f {
      service = record f.service { pending = [] };
      out = Some (record { first = f.durable; length = length f.service.pending });
    }
