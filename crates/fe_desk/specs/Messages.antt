-- The messages that a step may leave of a client, what was written to each connection number, and what a step
-- that found no memory says of its bytes (`docs/model.md`, "The desk").
use Rattle.std.specs.Prelude.{◌≡◌, ◌≢◌, ℕ, ◌<◌, Bool, true, false, List, [], ◌++◌, length, map, Option}
use Rattle.std.specs.Prelude.{Some}
use Rattle.std.specs.Option.{option_map, option_map_or}
use Rattle.fe_keeper.specs.declared.fault.Fault.{Fault}
use Rattle.fe_keeper.specs.declared.fault.Fault.TheVariants as keeper
use Rattle.fe_wire.specs.Stream.{Decoding}
use Rattle.fe_wire.specs.declared.client_message.ClientMessage.{ClientMessage}
use Rattle.fe_desk.specs.declared.fault.DeskFault.{DeskFault}
use Rattle.fe_desk.specs.declared.fault.DeskFault.TheVariants as desk
use Rattle.fe_desk.specs.declared.step.Step.{Step}
use Rattle.fe_desk.specs.declared.step.Step.TheVariants as step
use Rattle.fe_desk.specs.DeskRunState.{DeskRunState}
use Rattle.fe_desk.specs.Steps.{find, Reads}
use Rattle.std.specs.List.{flat_map, AllByRecursion}
use Rattle.fe_wire.specs.Spelling.{reply_spelling, ReplyFits}
use Rattle.fe_wire.specs.declared.server_message.ServerMessage.{ServerMessage}

-- the messages of a connection number that came whole and are not taken
abbrev pub left_of : DeskRunState → ℕ → List ClientMessage
left_of s conn = option_map_or (λ c. c.left) (find conn s.clients) []

-- what was written to each connection number
abbrev pub outputs : DeskRunState → List (ℕ × List ℕ)
outputs s = map (λ c. (c.conn, c.written)) s.clients

-- the fault of a step for this fault of the keeper; `fed` says whether the step's piece was read
abbrev pub desk_fault_of : Fault → Bool → DeskFault
desk_fault_of (keeper.NoMemory error) fed = desk.NoMemory error fed
desk_fault_of fault fed = desk.Store fault

-- the decoder of a connection number, which says what was read of its stream; None if the number never came
abbrev pub read_by : DeskRunState → ℕ → Option Decoding
read_by s conn = option_map (λ c. c.decoder) (find conn s.clients)

-- each connection number's decoder is the same in both states: nothing was read
abbrev pub ReadsNone : DeskRunState → DeskRunState → Type 0
ReadsNone s t = (conn : ℕ) → read_by t conn ≡ read_by s conn

-- The piece was read as the continuation of this connection's stream, and nothing of another connection's. Of
-- the messages that it completes the first, maybe none, were taken; the others, at least one, are left.
pub record ReadsPiece (s : DeskRunState) (conn : ℕ) (piece : List ℕ) (t : DeskRunState) : Type 0 where
  pub before : Decoding
  pub after : Decoding
  pub taken : List ClientMessage
  pub was : read_by s conn ≡ Some before
  pub is : read_by t conn ≡ Some after
  pub reads : Reads before after piece (taken ++ left_of t conn)
  pub some : 0 < length (left_of t conn)
  pub others : (other : ℕ) → other ≢ conn → read_by t other ≡ read_by s other

-- what a step that found no memory did with its bytes: their piece was read (`fed`), or nothing was
abbrev pub TellsFed : Bool → DeskRunState → Step → DeskRunState → Type 0
TellsFed false s step t = ReadsNone s t
TellsFed true s (step.Bytes conn piece) t = ReadsPiece s conn piece.items t
TellsFed true s step t = ⊥

-- The bytes are the frames of some replies, each with its fields in their ranges.
pub record AreReplies (bytes : List ℕ) : Type 0 where
  pub replies : List ServerMessage
  pub fits : AllByRecursion ReplyFits replies
  pub spelled : bytes ≡ flat_map reply_spelling replies
