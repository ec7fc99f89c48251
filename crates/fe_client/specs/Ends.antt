-- How a conversation with a server breaks off (`docs/commands.md`, "Commands").
use Rattle.std.specs.Prelude.{◌≡◌, ◌≢◌, ◌⊎◌, ℕ, ◌+◌, ◌^◌, ◌<◌, ◌≤◌, List, [], ◌∷◌, ◌++◌, length, take, Option}
use Rattle.std.specs.Prelude.{None, Some}
use Rattle.fe_memory.specs.Memory.{out_of_memory}
use Rattle.fe_text.specs.declared.fault.StreamFault.{StreamFault}
use Rattle.fe_text.specs.declared.fault.StreamFault.TheVariants as stream
use Rattle.fe_client.specs.declared.fault.CallFault.{CallFault}
use Rattle.fe_client.specs.declared.fault.CallFault.TheVariants as fault
use Rattle.fe_wire.specs.Spelling.{spelling, reply_spelling, ReplyFits}
use Rattle.fe_wire.specs.declared.client_message.ClientMessage.{ClientMessage}
use Rattle.fe_wire.specs.declared.server_message.ServerMessage.{ServerMessage}
use Rattle.fe_text.specs.Line.{HasNoFeed}
use Rattle.fe_client.specs.Conversation.{asked, Conversation}
use Rattle.fe_client.specs.Events.{Event, sent, received, written, reply_text, received_in}
use Rattle.fe_client.specs.Streams.{Known, known, ReadLeast}

-- the fault of a call for a fault of a stream
abbrev pub of_stream : StreamFault → CallFault
of_stream stream.Input = fault.Input
of_stream (stream.Memory error) = fault.Memory error

-- why a conversation may break off
pub data Cause : Type 0 where
  -- a call of the connection failed, or its other end has closed it
  Over : Cause
  -- a read of the input failed with this fault
  Unreadable : StreamFault → Cause
  -- the input was read at least this many times
  ReadTimes : ℕ → Cause
  -- a write or a flush of the output failed with this fault
  Unwritable : StreamFault → Cause

-- What is so of three streams: whether the connection is over, with which faults calls of the input and of
-- the output failed, and how often the input was read at least.
abbrev pub causes : Type 0 → (StreamFault → Type 0) → (StreamFault → Type 0) → (ℕ → Type 0) → Cause → Type 0
causes over input output was_read Cause.Over = over
causes over input output was_read (Cause.Unreadable why) = input why
causes over input output was_read (Cause.ReadTimes count) = ReadLeast was_read count
causes over input output was_read (Cause.Unwritable why) = output why

-- the fault is that of the output, which failed, or memory ran out
abbrev pub Unprinted : CallFault → (Cause → Type 0) → Type 0
Unprinted end because = (end ≡ fault.Memory out_of_memory)
    ⊎ ((why : StreamFault) × because (Cause.Unwritable why) × (end ≡ of_stream why))

-- the first bytes are some from the front of the second
abbrev pub IsFrontOf : List ℕ → List ℕ → Type 0
IsFrontOf front bytes = (count : ℕ) × (front ≡ take count bytes)

-- no reply's frame begins with these bytes
abbrev pub BeginsNoReply : List ℕ → Type 0
BeginsNoReply bytes =
    (reply : ServerMessage) (more : List ℕ) → ReplyFits reply → bytes ++ more ≢ reply_spelling reply

-- the first line of these bytes is longer than any line of the syntax, however it goes on
abbrev pub BeginsLong : List ℕ → Type 0
BeginsLong bytes = (front behind : List ℕ) × HasNoFeed front × (bytes ≡ front ++ behind) × (94 < length front)

-- ---- why

-- Why no line is taken of these bytes: the next line, which has that number, is too long; the input failed;
-- it was read 2^40 times; there is no such number; or memory ran out.
pub data Unread (end : CallFault) (because : Cause → Type 0) (number : ℕ) (left : List ℕ) : Type 0 where
  Long : end ≡ fault.Line number → BeginsLong left → Unread end because number left
  Failed : (why : StreamFault) → because (Cause.Unreadable why) → end ≡ of_stream why
      → Unread end because number left
  Often : (count : ℕ) → because (Cause.ReadTimes count) → 2 ^ 40 ≤ count → end ≡ fault.Input
      → Unread end because number left
  Many : end ≡ fault.Input → 2 ^ 64 ≤ number → Unread end because number left
  NoMemory : end ≡ fault.Memory out_of_memory → Unread end because number left

-- the line of that number is longer than any line of the syntax, or memory is at fault
abbrev pub IsTooLong : CallFault → ℕ → List ℕ → Type 0
IsTooLong end number line =
    ((end ≡ fault.Line number) × (94 < length line)) ⊎ (end ≡ fault.Memory out_of_memory)

-- why a message is not sent; `because` says which causes there are
abbrev pub Unsent : CallFault → (Cause → Type 0) → Type 0
Unsent end because = ((end ≡ fault.Socket) × because Cause.Over) ⊎ (end ≡ fault.Memory out_of_memory)

-- Why no more bytes come after these: the connection is over, or it was read 2^40 times, each time for a byte
-- at least. At most `earlier` of the reads were made before these bytes.
abbrev pub Unreceived : CallFault → (Cause → Type 0) → ℕ → List ℕ → Type 0
Unreceived end because earlier bytes =
    ((end ≡ fault.Socket) × because Cause.Over) ⊎ ((end ≡ fault.Input) × (2 ^ 40 ≤ earlier + length bytes))

-- why no reply comes
pub data Unanswered (end : CallFault) (because : Cause → Type 0) (earlier : ℕ) (bytes : List ℕ) : Type 0 where
  Incomplete : Unreceived end because earlier bytes → Unanswered end because earlier bytes
  BadFrame : end ≡ fault.Socket → BeginsNoReply bytes → Unanswered end because earlier bytes
  NoMemory : end ≡ fault.Memory out_of_memory → Unanswered end because earlier bytes

-- ---- how far the last exchange came

pub record WhileSending (end : CallFault) (because : Cause → Type 0) (message : ClientMessage)
    (part : List Event) : Type 0 where
  pub why : Unsent end because
  pub front : List ℕ
  pub is_front : IsFrontOf front (spelling message)
  pub part_is : part ≡ sent front

pub record WhileReceiving (end : CallFault) (because : Cause → Type 0) (earlier : ℕ) (message : ClientMessage)
    (part : List Event) : Type 0 where
  pub bytes : List ℕ
  pub why : Unanswered end because earlier bytes
  pub part_is : part ≡ sent (spelling message) ++ received bytes

pub record WhilePrinting (end : CallFault) (because : Cause → Type 0) (message : ClientMessage)
    (part : List Event) : Type 0 where
  pub why : Unprinted end because
  pub reply : ServerMessage
  pub fits : ReplyFits reply
  pub front : List ℕ
  pub is_front : IsFrontOf front (reply_text reply)
  pub part_is : part ≡ sent (spelling message) ++ (received (reply_spelling reply) ++ written front)

-- What a broken-off exchange came to, given the number of bytes received before it.
pub data ExchangeEnds (end : CallFault) (because : Cause → Type 0) (earlier : ℕ) (message : ClientMessage)
    (part : List Event) : Type 0 where
  Sending : WhileSending end because message part → ExchangeEnds end because earlier message part
  Receiving : WhileReceiving end because earlier message part → ExchangeEnds end because earlier message part
  Printing : WhilePrinting end because message part → ExchangeEnds end because earlier message part

-- What came of a line that was taken, which has that number: it is outside the syntax, or its exchange broke
-- off.
pub data LineEnds (end : CallFault) (because : Cause → Type 0) (number earlier : ℕ) (line : List ℕ)
    (part : List Event) : Type 0 where
  Stray : end ≡ fault.Line number → line ≢ [] → asked line ≡ None → part ≡ []
      → LineEnds end because number earlier line part
  Within : (message : ClientMessage) → asked line ≡ Some message
      → ExchangeEnds end because earlier message part → LineEnds end because number earlier line part

-- What came of the next line, which has that number and was not done, where these bytes were read and are not
-- taken.
pub data BreaksOff (end : CallFault) (because : Cause → Type 0) (number earlier : ℕ) (left : List ℕ)
    (part : List Event) : Type 0 where
  Reading : Unread end because number left → part ≡ [] → BreaksOff end because number earlier left part
  Fed : (line behind : List ℕ) → left ≡ line ++ 10 ∷ behind → HasNoFeed line
      → LineEnds end because number earlier line part → BreaksOff end because number earlier left part
  Last : (more : List Event) → HasNoFeed left → part ≡ Event.Read [] ∷ more
      → LineEnds end because number earlier left more → BreaksOff end because number earlier left part

-- ---- a whole conversation

-- A conversation leads from one state to the other, and breaks off there: the next line can't be read, is
-- outside the syntax, or has an exchange that breaks off.
pub record TalksUntil {S : Type 0} (leads : S → List Event → S → Type 0) (end : CallFault)
    (because : Cause → Type 0) (before after : S) : Type 0 where
  pub lines : ℕ
  pub so : List Event
  pub left : List ℕ
  pub talk : Conversation [] lines so left
  pub part : List Event
  pub breaks : BreaksOff end because (lines + 1) (length (received_in so)) left part
  pub happened : leads before (so ++ part) after

-- A connection was made to a server, and this is so of it as it was made and as it is now.
pub record WithServer {C : Type 0} (is_to : C → Type 0) (P : C → C → Type 0) : Type 0 where
  pub made : C
  pub found : is_to made
  pub now : C
  pub holds : P made now

-- what is known without a connection: what is left of the input, and what is written
abbrev pub unconnected : Option (List ℕ) → Option (List ℕ) → Known
unconnected left written = known left None None written

-- There was no server at the socket, and nothing happened; or a conversation with it breaks off.
pub data CallsUntil {C : Type 0} (is_refused : Type 0) (is_to : C → Type 0) (breaks : C → C → Type 0)
    (leads : Known → List Event → Known → Type 0) (end : CallFault) (before after : Known) : Type 0 where
  Refused : end ≡ fault.Socket → is_refused → leads before [] after
      → CallsUntil is_refused is_to breaks leads end before after
  BrokeOff : WithServer is_to breaks → CallsUntil is_refused is_to breaks leads end before after
