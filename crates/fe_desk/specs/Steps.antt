-- What each step of a desk (a front, its connections' streams and a keeper, which owns the store, in one
-- thread) does. See `docs/model.md`, "The desk".
use Rattle.std.specs.Prelude.{◌≡◌, ℕ, List, [], ◌∷◌, Bool, false, nat_eq, ◌++◌, Option, Some, None}
use Rattle.std.specs.Prelude.{if◌then◌else◌, is_some, MatchBool, ⊤}
use Rattle.fe_state.specs.declared.entry.Entry.{Entry}
use Rattle.fe_wire.specs.declared.client_message.ClientMessage.{ClientMessage}
use Rattle.fe_front.specs.Front.{FrontState, is_connected}
use Rattle.fe_messages.specs.Taking.{Takes}
use Rattle.fe_desk.specs.DeskRunState.{DeskRunState, Client, emptied, discharged, cut, stored, posted}
use Rattle.fe_desk.specs.Room.{roomy, unmade}
use Rattle.fe_wire.specs.Stream.{Decoding, HasRead, HasReadFrom}
use Rattle.fe_wire.specs.declared.version.Version.TheVariants.{Two}
use Rattle.fe_front.specs.Steps as front
use Rattle.fe_desk.specs.declared.step.Step.{Step}
use Rattle.fe_desk.specs.declared.step.Step.TheVariants as step
use Rattle.fe_mail.specs.Connections.{mails_on}

-- a message of a connection is taken, after room was made for it if there was none
pub record TakesOne (s : DeskRunState) (conn : ℕ) (m : ClientMessage) (t : DeskRunState) : Type 0 where
  pub entries : List Entry
  pub front : FrontState
  pub takes : Takes (roomy s conn).front conn m entries front
  pub after : t ≡ record (roomy s conn) { front = front }

-- messages of a connection are taken one after another
abbrev pub TakesAll : DeskRunState → ℕ → List ClientMessage → DeskRunState → Type 0
TakesAll s conn [] t = t ≡ s
TakesAll s conn (m ∷ ms) t = (u : DeskRunState) × TakesOne s conn m u × TakesAll u conn ms t

-- ---- the client of a connection number

-- the first client of this number, if it ever came
abbrev pub find : ℕ → List Client → Option Client
find conn [] = None
find conn (c ∷ cs) = if nat_eq c.conn conn then Some c else find conn cs

-- the clients, with the client of this number changed
abbrev pub on_client : ℕ → (Client → Client) → List Client → List Client
on_client conn change [] = []
on_client conn change (c ∷ cs) = if nat_eq c.conn conn then change c ∷ cs else c ∷ on_client conn change cs

-- the run, with these messages left of a connection number
abbrev pub with_left : DeskRunState → ℕ → List ClientMessage → DeskRunState
with_left s conn left = record s { clients = on_client conn (λ c. record c { left = left }) s.clients }

-- the run, with a connection number's stream read this far
abbrev pub with_decoder : DeskRunState → ℕ → Decoding → DeskRunState
with_decoder s conn d = record s { clients = on_client conn (λ c. record c { decoder = d }) s.clients }

-- ---- connections come and go

-- a decoder of version 2 at the beginning of its stream
pub record BeginsStream (d : Decoding) : Type 0 where
  pub version : d.version ≡ Two
  pub read : HasRead d [] []

-- the client of a connection number that comes for the first time
abbrev pub new_client : ℕ → Decoding → Client
new_client conn d = record { conn = conn; decoder = d; left = []; reply = None; written = [] }

-- the clients after a connection came: what is written to it goes after what was written to its number before
abbrev pub clients_with : List Client → ℕ → Decoding → List Client
clients_with cs conn d =
    if is_some (find conn cs) then on_client conn (λ c. record c { decoder = d; left = [] }) cs else cs
    ++ new_client conn d ∷ []

-- a connection came, with a stream of its own
pub record Connects (s : DeskRunState) (conn : ℕ) (t : DeskRunState) : Type 0 where
  pub decoder : Decoding
  pub begins : BeginsStream decoder
  pub after : t ≡ record (unmade s conn) {
    front = front.connected s.front conn;
    clients = clients_with s.clients conn decoder;
  }

-- a connection goes, and the messages that were left are dropped
abbrev pub gone : DeskRunState → ℕ → DeskRunState
gone s conn = record (with_left (unmade s conn) conn []) { front = front.dropped s.front conn }

-- ---- bytes of a connection

-- The piece is read after what was read before, and completes these messages.
pub record Reads (old new : Decoding) (piece : List ℕ) (more : List ClientMessage) : Type 0 where
  pub version : new.version ≡ old.version
  pub reads : (start : ℕ) (before : List ℕ) (earlier : List ClientMessage)
      → HasReadFrom start old before earlier
      → HasReadFrom start new (before ++ piece) (earlier ++ more)

-- a connection with a bad frame goes
abbrev pub after_frame : Bool → DeskRunState → ℕ → DeskRunState
after_frame bad s conn = if bad then gone s conn else s

-- The piece is read, and the messages that it completes are taken. After a bad frame the connection goes.
pub record TakesPiece (s : DeskRunState) (conn : ℕ) (before : Decoding) (piece : List ℕ)
    (t : DeskRunState) : Type 0 where
  pub decoder : Decoding
  pub more : List ClientMessage
  pub last : DeskRunState
  pub reads : Reads before decoder piece more
  pub takes : TakesAll (with_decoder s conn decoder) conn more last
  pub after : t ≡ after_frame decoder.is_bad last conn

-- The messages that were left of a connection are taken, and then the piece is, if the connection is still
-- there.
pub record TakesFrom (s : DeskRunState) (conn : ℕ) (left : List ClientMessage) (before : Decoding)
    (piece : List ℕ) (t : DeskRunState) : Type 0 where
  pub mid : DeskRunState
  pub leftovers : TakesAll (with_left s conn []) conn left mid
  pub reading : MatchBool (is_connected mid.front conn) (TakesPiece mid conn before piece t) (t ≡ mid)

-- the same by the client of the connection number; without one, nothing is done
abbrev pub TakesBytes : DeskRunState → Option Client → List ℕ → DeskRunState → Type 0
TakesBytes s None piece t = t ≡ s
TakesBytes s (Some c) piece t = TakesFrom s c.conn c.left c.decoder piece t

-- ---- steps

-- what a step does before the boxes are emptied
abbrev pub Acts : DeskRunState → Step → DeskRunState → Type 0
Acts s (step.Connect conn) t = MatchBool (is_connected s.front conn) (t ≡ s) (Connects s conn t)
Acts s (step.Bytes conn piece) t = TakesBytes s (find conn s.clients) piece.items t
Acts s (step.Gone conn) t = t ≡ gone s conn
Acts s step.Cut t = t ≡ cut s
Acts s step.Append t = t ≡ stored s
Acts s step.Post t = t ≡ posted s
Acts s step.CheckBegin t = t ≡ s
Acts s step.CheckStep t = t ≡ s
Acts s step.CheckFinish t = t ≡ s

-- A step: what an earlier one left unwritten is written, the step acts, and every box is emptied.
pub record DeskStep (s : DeskRunState) (step : Step) (t : DeskRunState) : Type 0 where
  pub last : DeskRunState
  pub acts : Acts (discharged s) step last
  pub after : t ≡ emptied last

-- steps, one after another
abbrev pub DeskRun : DeskRunState → List Step → DeskRunState → Type 0
DeskRun s [] t = t ≡ s
DeskRun s (step ∷ steps) t = (u : DeskRunState) × DeskStep s step u × DeskRun u steps t

-- ---- a desk with nothing to write to its clients

-- no reply of these clients waits
abbrev pub AreWritten : List Client → Type 0
AreWritten [] = ⊤
AreWritten (c ∷ cs) = (c.reply ≡ None) × AreWritten cs

-- no box has a mail, no reply waits, and no step owes its mails
pub record HasNoMail (s : DeskRunState) : Type 0 where
  pub boxes : (conn : ℕ) → mails_on s.front.connections conn ≡ []
  pub replies : AreWritten s.clients
  pub owes : s.owes ≡ false
