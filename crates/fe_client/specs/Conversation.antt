-- A conversation with a server: the lines of an input, and for each an exchange of a message and its reply.
-- See `docs/commands.md`.
use Rattle.std.specs.Prelude.{ℕ, List, length, Option, None, nat_lt, if◌then◌else◌, ◌≡◌, ◌≢◌, ◌+◌, [], ◌∷◌}
use Rattle.std.specs.Prelude.{◌++◌, Some, ◌≤◌}
use Rattle.fe_wire.specs.declared.client_message.ClientMessage.{ClientMessage}
use Rattle.fe_text.specs.Line.{message_in, HasNoFeed}
use Rattle.fe_wire.specs.Spelling.{ReplyFits, reply_spelling}
use Rattle.fe_wire.specs.declared.server_message.ServerMessage.{ServerMessage}
use Rattle.fe_client.specs.Events.{Event, exchange, received_in}

-- The message that a line says; none if it is outside the syntax. No line of a message has more than 94
-- bytes.
unfoldable pub asked : List ℕ → Option ClientMessage
asked line = if nat_lt 94 (length line) then None else message_in line

-- ---- conversations

-- what a line asks happens: nothing if it is empty, else the exchange of its message
abbrev pub Does : List ℕ → List Event → Type 0
Does [] done = done ≡ []
Does (byte ∷ bytes) done = (message : ClientMessage) × (reply : ServerMessage)
    × (asked (byte ∷ bytes) ≡ Some message) × ReplyFits reply × (done ≡ exchange message reply)

-- A conversation so far: how many lines were taken, what happened, and which bytes were read and are not
-- taken. It begins with bytes that were read, and no line taken. The input is read only while no line is left
-- of what was read before, so each line that was read has had its exchange. The lines have their exchanges in
-- order, each one as a whole.
pub data Conversation (start : List ℕ) : ℕ → List Event → List ℕ → Type 0 where
  Begins : Conversation start 0 [] start
  Reads : (lines : ℕ) (so : List Event) (left piece : List ℕ) → Conversation start lines so left
      → HasNoFeed left → piece ≢ []
      → Conversation start lines (so ++ Event.Read piece ∷ []) (left ++ piece)
  Takes : (lines : ℕ) (so done : List Event) (line left : List ℕ)
      → Conversation start lines so (line ++ 10 ∷ left) → HasNoFeed line → Does line done
      → Conversation start (lines + 1) (so ++ done) left

-- A conversation leads from one state to the other and is held to its end: the input ends after the last
-- line.
pub record TalksAll {S : Type 0} (leads : S → List Event → S → Type 0) (before after : S) : Type 0 where
  pub lines : ℕ
  pub so : List Event
  pub last : List ℕ
  pub talk : Conversation [] lines so last
  pub no_feed : HasNoFeed last
  pub done : List Event
  pub does : Does last done
  pub happened : leads before (so ++ (Event.Read [] ∷ done)) after

-- ---- the parts of a conversation

-- a message had its exchange, in which the connection was read at most once for each byte of the reply's
-- frame
pub record Exchanged {S : Type 0} (leads : S → List Event → S → Type 0) (message : ClientMessage)
    (reads now : ℕ) (before after : S) : Type 0 where
  pub reply : ServerMessage
  pub fits : ReplyFits reply
  pub happened : leads before (exchange message reply) after
  pub few : now ≤ reads + length (reply_spelling reply)

-- what a line asks was done
pub record DoesLine {S : Type 0} (leads : S → List Event → S → Type 0) (line : List ℕ) (reads now : ℕ)
    (before after : S) : Type 0 where
  pub done : List Event
  pub does : Does line done
  pub happened : leads before done after
  pub few : now ≤ reads + length (received_in done)

-- something was done in part, and ended so
pub record DoesPart {S : Type 0} (leads : S → List Event → S → Type 0) (before after : S)
    (Ends : List Event → Type 0) : Type 0 where
  pub part : List Event
  pub ends : Ends part
  pub happened : leads before part after
