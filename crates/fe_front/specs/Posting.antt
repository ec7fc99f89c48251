-- What posting a batch leaves of a front. A batch is posted once it is stored: each entry's mail goes to its
-- connection. See `docs/model.md`, "The front".
use Rattle.std.specs.Prelude.{ℕ, ◌%◌, Bool, false, slice_index_or, ◌≡◌, ◌+◌, if◌then◌else◌, List, [], ◌∷◌}
use Rattle.std.specs.Prelude.{length, Option, Some, None, ◌⊎◌, IsTrue}
use Rattle.fe_front.specs.declared.connection_set.ConnectionSet.{ConnectionSet}
use Rattle.std.specs.Option.{option_map_or}
use Rattle.fe_state.specs.declared.batch.Batch.{Batch}
use Rattle.fe_state.specs.declared.entry.Entry.{Entry}
use Rattle.fe_state.specs.declared.entry.Entry.TheVariants.{Attached, Closed, Settled, Finished}
use Rattle.fe_service.specs.AttachmentsState.{holder_of, is_closing}
use Rattle.fe_service.specs.Events.{left}
use Rattle.fe_mail.specs.Connections.{session_of, mail_of, mails_on}
use Rattle.fe_front.specs.Front.{FrontState, is_connected}
use Rattle.fe_front.specs.Steps.{freed, mailed}
use Rattle.fe_front.specs.declared.out.Out.{Out}

-- ---- a set of connections, which tells their numbers apart by remainders alone

-- how many remainders there are: connections with the same remainder of their numbers are not told apart
abbrev pub remainder_count : ℕ
remainder_count = 256

-- the connection is in the set, or another one is whose number leaves the same remainder
abbrev pub may_have : ConnectionSet → ℕ → Bool
may_have set conn = slice_index_or set.remainders (conn % remainder_count) false

-- ---- posting

-- the batch begins where the one that is out does, and is as long
abbrev pub IsOut : Option Out → Batch → Type 0
IsOut None batch = ⊥
IsOut (Some o) batch = (batch.first ≡ o.first) × (length batch.entries ≡ o.length)

-- the front once an entry's mail went to the connection that has its session, if one does
abbrev pub delivered : FrontState → Entry → ℕ → FrontState
delivered f e place =
    option_map_or (λ conn. mailed f conn (mail_of e place)) (holder_of f.service.attachments (session_of e)) f

-- the front once a session that is closing lost its attachment
abbrev pub vacated : FrontState → ℕ → FrontState
vacated f session =
    if is_closing f.service.attachments session then record f { service = left f.service session } else f

-- the front once a session's close is posted: a connection that has the session loses it, and the attachment
-- goes
abbrev pub ended : FrontState → ℕ → FrontState
ended f session = vacated (freed f session) session

-- the front once the entry at a place is posted
abbrev pub posted_entry : FrontState → Entry → ℕ → FrontState
posted_entry f (Closed session) place = ended (delivered f (Closed session) place) session
posted_entry f (Attached session floor) place = delivered f (Attached session floor) place
posted_entry f (Settled session floor) place = delivered f (Settled session floor) place
posted_entry f (Finished session number request answer) place =
    delivered f (Finished session number request answer) place

-- the front once entries are posted in order, the first of them at this place
abbrev pub posted_all : FrontState → List Entry → ℕ → FrontState
posted_all f [] place = f
posted_all f (e ∷ es) place = posted_all (posted_entry f e place) es (place + 1)

-- the front once the batch that was out is posted: all entries up to the batch's end are durable
abbrev pub posted : FrontState → Batch → FrontState
posted f batch =
    record (posted_all f batch.entries batch.first)
    { durable = batch.first + length batch.entries; out = None }

-- ---- whose box it changes

-- the connection is connected or not, and has its mails, as in the old state
pub record HasItsBox (old new : FrontState) (conn : ℕ) : Type 0 where
  pub mails : mails_on new.connections conn ≡ mails_on old.connections conn
  pub there : is_connected new conn ≡ is_connected old conn

-- each connection of the old set is in the new one, and so is each one whose box changed
pub record Notes (old new : FrontState) (before after : ConnectionSet) : Type 0 where
  pub still : (conn : ℕ) → IsTrue (may_have before conn) → IsTrue (may_have after conn)
  pub noted : (conn : ℕ) → IsTrue (may_have after conn) ⊎ HasItsBox old new conn
