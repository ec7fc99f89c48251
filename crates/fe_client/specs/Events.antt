-- What happens in a conversation with a server, as a list of events in order (`docs/commands.md`,
-- "Commands").
use Rattle.std.specs.Prelude.{ℕ, List, [], ◌∷◌, ◌++◌, map, take, Option, None, Some}
use Rattle.std.specs.List.{flat_map}
use Rattle.fe_wire.specs.Spelling.{spelling, reply_spelling}
use Rattle.fe_wire.specs.declared.client_message.ClientMessage.{ClientMessage}
use Rattle.fe_wire.specs.declared.server_message.ServerMessage.{ServerMessage}
use Rattle.fe_text.specs.Printed.{printed}

pub data Event : Type 0 where
  -- a read of the input gave these bytes; it gave none if the input has ended
  Read : List ℕ → Event
  -- a byte was sent to the server
  Sent : ℕ → Event
  -- a byte was received from the server
  Received : ℕ → Event
  -- a byte was written to the output
  Written : ℕ → Event
  -- what was written was flushed, so that it can be seen
  Flushed : Event

abbrev pub sent : List ℕ → List Event
sent bytes = map Event.Sent bytes

abbrev pub received : List ℕ → List Event
received bytes = map Event.Received bytes

abbrev pub written : List ℕ → List Event
written bytes = map Event.Written bytes

-- a read that gave this many bytes of a buffer, or was interrupted
abbrev pub read_of : Option ℕ → List ℕ → List Event
read_of None buffer = []
read_of (Some count) buffer = Event.Read (take count buffer) ∷ []

-- what is printed for a reply: its line, or each line of a report
abbrev pub reply_text : ServerMessage → List ℕ
reply_text reply = printed None reply

-- A message is sent, then a reply is received, and then its text is written and can be seen.
abbrev pub exchange : ClientMessage → ServerMessage → List Event
exchange message reply = sent (spelling message)
    ++ (received (reply_spelling reply) ++ (written (reply_text reply) ++ Event.Flushed ∷ []))

-- ---- the bytes of one kind

abbrev pub read_bytes : Event → List ℕ
read_bytes (Event.Read piece) = piece
read_bytes (Event.Sent byte) = []
read_bytes (Event.Received byte) = []
read_bytes (Event.Written byte) = []
read_bytes Event.Flushed = []

abbrev pub sent_byte : Event → List ℕ
sent_byte (Event.Read piece) = []
sent_byte (Event.Sent byte) = byte ∷ []
sent_byte (Event.Received byte) = []
sent_byte (Event.Written byte) = []
sent_byte Event.Flushed = []

abbrev pub received_byte : Event → List ℕ
received_byte (Event.Read piece) = []
received_byte (Event.Sent byte) = []
received_byte (Event.Received byte) = byte ∷ []
received_byte (Event.Written byte) = []
received_byte Event.Flushed = []

abbrev pub written_byte : Event → List ℕ
written_byte (Event.Read piece) = []
written_byte (Event.Sent byte) = []
written_byte (Event.Received byte) = []
written_byte (Event.Written byte) = byte ∷ []
written_byte Event.Flushed = []

-- all that was read, sent, received and written
abbrev pub read_in : List Event → List ℕ
read_in events = flat_map read_bytes events

abbrev pub sent_in : List Event → List ℕ
sent_in events = flat_map sent_byte events

abbrev pub received_in : List Event → List ℕ
received_in events = flat_map received_byte events

abbrev pub written_in : List Event → List ℕ
written_in events = flat_map written_byte events
