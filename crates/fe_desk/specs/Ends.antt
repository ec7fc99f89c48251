-- What the steps of a desk do to its store, and how a step ends if memory is short for it or the device fails
-- in it. See `docs/model.md`, "The desk".
use Rattle.std.specs.Prelude.{◌≡◌, ◌≢◌, ◌⊎◌, ◌+◌, true, List, [], ◌∷◌, ◌++◌, length, Some, None, MatchBool, ℕ}
use Rattle.std.specs.Prelude.{Bool, false, IsTrue}
use Rattle.std.specs.Option.{option_map_or}
use Rattle.fe_mail.specs.Connections.{mails_on}
use Rattle.fe_mail.specs.declared.mail.Mail.{Mail}
use Rattle.fe_wire.specs.Spelling.{reply_spelling}
use Rattle.fe_front.specs.Front.{FrontState, is_connected}
use Rattle.fe_messages.specs.Mails.{reply_of, spelled}
use Rattle.fe_desk.specs.DeskRunState.{taken_times, Client, DeskRunState, all_written_out, all_emptied}
use Rattle.fe_desk.specs.DeskRunState.{discharged}
use Rattle.fe_desk.specs.Room.{StopsMaking}
use Rattle.fe_codec.specs.Image.{image_spelling}
use Rattle.fe_format.specs.declared.format.Format.TheVariants.{Two}
use Rattle.fe_state.specs.State.{after_all}
use Rattle.fe_state.specs.declared.entry.Entry.{Entry}
use Rattle.fe_keeper.specs.Keeper.{KeeperState, StoreState, made_room, appended, can_begin, begun, stepped}
use Rattle.fe_keeper.specs.Keeper.{finished}
use Rattle.fe_desk.specs.declared.step.Step.{Step}
use Rattle.fe_desk.specs.declared.step.Step.TheVariants as step
use Rattle.fe_desk.specs.Crash.{DeskState}
use Rattle.fe_state.specs.declared.batch.Batch.{Batch}
use Rattle.fe_wire.specs.Stream.{Decoding, CompletesMessage}
use Rattle.fe_wire.specs.declared.client_message.ClientMessage.{ClientMessage}
use Rattle.fe_desk.specs.declared.handed.Handed.TheVariants as handed
use Rattle.fe_desk.specs.Steps.{TakesAll, with_left, with_decoder, Reads}
use Rattle.fe_desk.specs.Messages.{left_of, read_by}

-- The first mails of a client are written. Memory is short for the next one: it has left its box, and its
-- reply waits.
pub record StopsAtMail (f : FrontState) (c : Client) (g : FrontState) (d : Client) : Type 0 where
  pub first : List Mail
  pub next : Mail
  pub rest : List Mail
  pub box : mails_on f.connections c.conn ≡ first ++ next ∷ rest
  pub front : g ≡ taken_times (length first + 1) f c.conn
  pub client : d ≡ record c {
    reply = Some (reply_of next);
    written = c.written ++ (option_map_or reply_spelling c.reply [] ++ spelled first);
  }

-- Memory is short for a client: for the reply that waits, and nothing is written; or for a mail.
abbrev pub StopsWriting : FrontState → Client → FrontState → Client → Type 0
StopsWriting f c g d = ((c.reply ≢ None) × (g ≡ f) × (d ≡ c)) ⊎ StopsAtMail f c g d

-- The clients' mails are written, one client after another, up to one for which memory is short.
pub record WritesFirst (f : FrontState) (cs : List Client) (g : FrontState) (ds : List Client) : Type 0 where
  pub before : List Client
  pub client : Client
  pub behind : List Client
  pub last : Client
  pub all : cs ≡ before ++ client ∷ behind
  pub stops : StopsWriting (all_emptied f before) client g last
  pub now : ds ≡ all_written_out f before ++ last ∷ behind

-- The boxes are not all emptied: mails are owed, and the reply of one of them waits.
pub record WritesSome (s t : DeskRunState) : Type 0 where
  pub front : FrontState
  pub clients : List Client
  pub writes : WritesFirst s.front s.clients front clients
  pub after : t ≡ record s { front = front; clients = clients; owes = true }

-- ---- what steps do to the store

-- the store is this one, with the disk as it is now
abbrev pub IsStoreNow : {D : Type 0} → StoreState D → StoreState D → Type 0
IsStoreNow is now = now ≡ record is { disk = now.disk }

-- ---- groups

-- a group is appended, after room is made for it if there is none, and the replica has its entries
pub record IsAppended {D : Type 0} (old : KeeperState D) (group : List Entry)
    (new : KeeperState D) : Type 0 where
  pub state : new.state ≡ after_all old.state group
  pub store : IsStoreNow (appended (made_room old.store group) group) new.store

-- groups are appended one after the other, and nothing else is done
abbrev pub AreAppended : {D : Type 0} → KeeperState D → List (List Entry) → KeeperState D → Type 0
AreAppended old [] new = new ≡ old
AreAppended {D} old (group ∷ groups) new =
    (mid : KeeperState D) × IsAppended old group mid × AreAppended mid groups new

-- the groups that came after the others were appended, and nothing else was done
pub record StoresMore {D : Type 0} (old new : DeskState D) : Type 0 where
  pub more : List (List Entry)
  pub groups : new.run_state.groups ≡ old.run_state.groups ++ more
  pub appends : AreAppended old.keeper more new.keeper

-- ---- steps

-- A checkpoint is begun if one can be, with the image of the replica; a slice of it is written; it is
-- finished. Bytes and `Append` append the groups that they add, and nothing else. The other steps leave the
-- keeper as it is.
abbrev pub Checks : {D : Type 0} → Step → DeskState D → DeskState D → Type 0
Checks step.CheckBegin old new =
    MatchBool (can_begin old.keeper.store) (IsStoreNow
    (begun old.keeper.store (length (image_spelling Two old.keeper.state))) new.keeper.store)
    (new.keeper ≡ old.keeper)
Checks step.CheckStep old new = IsStoreNow (stepped old.keeper.store) new.keeper.store
Checks step.CheckFinish old new = IsStoreNow (finished old.keeper.store) new.keeper.store
Checks (step.Connect conn) old new = new.keeper ≡ old.keeper
Checks (step.Bytes conn piece) old new = StoresMore old new
Checks (step.Gone conn) old new = new.keeper ≡ old.keeper
Checks step.Cut old new = new.keeper ≡ old.keeper
Checks step.Append old new = StoresMore old new
Checks step.Post old new = new.keeper ≡ old.keeper

-- ---- how far a step with a piece of a stream comes

-- a batch is cut and not stored: it is at hand
pub record HasCut (s : DeskRunState) : Type 0 where
  pub batch : Batch
  pub handed : s.handed ≡ handed.Cut batch

-- The first of a connection's messages are taken. The next has no room, since the batch at hand is not
-- stored: it did nothing, and it and those after it are left.
pub record TakesFirst (s : DeskRunState) (conn : ℕ) (messages : List ClientMessage)
    (t : DeskRunState) : Type 0 where
  pub taken : List ClientMessage
  pub next : ClientMessage
  pub behind : List ClientMessage
  pub before : DeskRunState
  pub last : DeskRunState
  pub all : messages ≡ taken ++ next ∷ behind
  pub takes : TakesAll s conn taken before
  pub stops : StopsMaking before conn last
  pub at_hand : HasCut last
  pub after : t ≡ with_left last conn (next ∷ behind)

-- the messages that were left of a connection are taken up to one that finds no room
abbrev pub StopsBefore : DeskRunState → ℕ → DeskRunState → Type 0
StopsBefore s conn t = TakesFirst (with_left s conn []) conn (left_of s conn) t

-- all of them are taken, and the connection is connected: its piece is next
pub record StopsUnread (s : DeskRunState) (conn : ℕ) (t : DeskRunState) : Type 0 where
  pub leftovers : TakesAll (with_left s conn []) conn (left_of s conn) t
  pub there : is_connected t.front conn ≡ true

-- the piece completes a message, for which there is no memory: none of it is read
pub record StopsUnfed (s : DeskRunState) (conn : ℕ) (piece : List ℕ) (t : DeskRunState) : Type 0 where
  pub unread : StopsUnread s conn t
  pub before : Decoding
  pub was : read_by s conn ≡ Some before
  pub completes : CompletesMessage before piece

-- the piece was read, and the messages that it completes are taken up to one that finds no room
pub record StopsBehind (s : DeskRunState) (conn : ℕ) (piece : List ℕ) (t : DeskRunState) : Type 0 where
  pub mid : DeskRunState
  pub before : Decoding
  pub decoder : Decoding
  pub more : List ClientMessage
  pub unread : StopsUnread s conn mid
  pub was : read_by s conn ≡ Some before
  pub reads : Reads before decoder piece more
  pub first : TakesFirst (with_decoder mid conn decoder) conn more t

-- where a step with bytes stops if memory is short: after their piece was read (`fed`), or before
abbrev pub StopsShort : Bool → DeskRunState → ℕ → List ℕ → DeskRunState → Type 0
StopsShort true s conn piece t = StopsBehind s conn piece t
StopsShort false s conn piece t = StopsBefore s conn t ⊎ StopsUnfed s conn piece t

-- ---- no memory

-- memory was short for mails that were owed: they are written from the first on, up to one for which it was
-- short (maybe the first), and nothing else was done
pub record StillOwes {D : Type 0} (old new : DeskState D) : Type 0 where
  pub owed : old.run_state.owes ≡ true
  pub writes : WritesSome old.run_state new.run_state
  pub keeper : new.keeper ≡ old.keeper
  pub synced : new.synced ≡ old.synced

-- the desk, once the mails that were owed are written
abbrev pub discharged_desk : {D : Type 0} → DeskState D → DeskState D
discharged_desk d = record d { run_state = discharged d.run_state }

-- A step found no memory, with no mails owed. If it was short for a new connection, the batch at hand or a
-- checkpoint that could begin, nothing was done. If it was short for a message of a connection, or for a
-- batch stored to make room for it, the messages before it were taken, and what they stored is all that was
-- done to the store; the step's piece was read (`fed`) or not. Any other step lacks memory only for mails
-- that were owed (`StillOwes`).
abbrev pub Lacks : {D : Type 0} → Bool → Step → DeskState D → DeskState D → Type 0
Lacks false (step.Connect conn) old new = (is_connected old.run_state.front conn ≡ false) × (new ≡ old)
Lacks false (step.Bytes conn piece) old new =
    StopsShort false old.run_state conn piece.items new.run_state × StoresMore old new
Lacks true (step.Bytes conn piece) old new =
    StopsShort true old.run_state conn piece.items new.run_state × StoresMore old new
Lacks false step.Append old new = HasCut old.run_state × (new ≡ old)
Lacks false step.CheckBegin old new = IsTrue (can_begin old.keeper.store) × (new ≡ old)
Lacks fed other old new = ⊥

-- a step found no memory: for mails that were owed, or for what it does after they are written
abbrev pub FindsNoMemory : {D : Type 0} → Bool → Step → DeskState D → DeskState D → Type 0
FindsNoMemory fed step old new =
    ((fed ≡ false) × StillOwes old new) ⊎ Lacks fed step (discharged_desk old) new

-- ---- the device

-- The device failed while the batch at hand was being stored. The batch is now the last group, the only one
-- that is not known to be stored.
pub record Tears {D : Type 0} (last : DeskRunState) (new : DeskState D) : Type 0 where
  pub at_hand : HasCut last
  pub run_state : new.run_state ≡ record last { groups = last.groups ++ at_hand.batch.entries ∷ [] }
  pub synced : new.synced ≡ length last.groups

-- In a step with bytes: the first messages, maybe none, were taken; the next found no room, since the batch
-- at hand was not stored.
pub record TearsBytes {D : Type 0} (s : DeskRunState) (conn : ℕ) (piece : List ℕ)
    (new : DeskState D) : Type 0 where
  pub last : DeskRunState
  pub stops : StopsBefore s conn last ⊎ StopsBehind s conn piece last
  pub tears : Tears last new

-- the device failed in a call of a checkpoint: the state of the run is as before, and as many groups are
-- known to be stored
pub record BreaksOff {D : Type 0} (old new : DeskState D) : Type 0 where
  pub run_state : new.run_state ≡ old.run_state
  pub synced : new.synced ≡ old.synced

-- What a step in which the device failed has done, if no mails are owed. Other steps make no call of the
-- device.
abbrev pub TearsStep : {D : Type 0} → Step → DeskState D → DeskState D → Type 0
TearsStep (step.Bytes conn piece) old new = TearsBytes old.run_state conn piece.items new
TearsStep step.Append old new = Tears old.run_state new
TearsStep step.CheckBegin old new = BreaksOff old new
TearsStep step.CheckStep old new = BreaksOff old new
TearsStep step.CheckFinish old new = BreaksOff old new
TearsStep other old new = ⊥
