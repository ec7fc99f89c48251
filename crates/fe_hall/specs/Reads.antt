-- What the read side of a connection, the thread that reads, makes of the bytes of its client's stream.
-- See `docs/model.md`, "The hall".
use Rattle.std.specs.Prelude.{ℕ, ◌+◌, ◌≡◌, ◌≢◌, ◌<◌, ◌^◌, ◌-◌, ◌⊎◌, Bool, true, false, ◌&&◌, nat_lt}
use Rattle.std.specs.Prelude.{if◌then◌else◌, min, List, [], ◌∷◌, ◌++◌, length, take, filter, sum_by, Option}
use Rattle.std.specs.Prelude.{Some, None}
use Rattle.fe_hall.specs.declared.read_count.Reads.{Reads}
use Rattle.fe_hall.specs.declared.read_count.Reads.TheOpen as shape
use Rattle.fe_hall.specs.declared.read_count.Reads.TheFolds.{fold-Reads}
use Rattle.std.specs.List.{flat_map}
use Rattle.fe_wire.specs.Spelling.{spelling}
use Rattle.fe_wire.specs.Stream.{Decoding, HasRead, IsStream, IsUnfinished, IsBad}
use Rattle.fe_codes.specs.Reading.{IsBytes}
use Rattle.fe_wire.specs.declared.client_message.ClientMessage.{ClientMessage}
use Rattle.fe_wire.specs.declared.client_message.ClientMessage.TheVariants.{Attach, Call}
use Rattle.fe_wire.specs.declared.version.Version.TheVariants.{Two}
use Rattle.fe_hall.specs.declared.ends.ReadEnd.{ReadEnd}
use Rattle.fe_hall.specs.declared.ends.ReadEnd.TheVariants.{Closed, Device, BadFrame, Gone, Turns, Stopped}
use Rattle.fe_hall.specs.declared.ends.ReadEnd.TheVariants.{Spent, NoMemory}
use Rattle.fe_shared.specs.declared.last_answer.LastAnswer.{LastAnswer}
use Rattle.fe_shared.specs.declared.last_answer.LastAnswer.TheVariants as last_answer
use Rattle.fe_shared.specs.Seats.{CallSeatState, calls_in}

abbrev more : shape.Reads-F ℕ → ℕ
more shape.None = 0
more (shape.After before) = before.value + 1

abbrev pub count_of : Reads → ℕ
count_of reads = fold-Reads ℕ more reads

-- ---- what is read

-- the message is an attach or a call
abbrev pub is_sent : ClientMessage → Bool
is_sent (Attach session) = true
is_sent (Call number request) = true
is_sent _ = false

-- how many calls are among these messages
abbrev pub calls_among : List ClientMessage → ℕ
calls_among messages = sum_by calls_in messages

-- the most messages in the list of a side
abbrev pub most_listed : ℕ
most_listed = 1024

-- the list of a side: the attaches and calls among these messages, the first 1,024 of them
abbrev pub sent_among : List ClientMessage → List ClientMessage
sent_among messages = take most_listed (filter is_sent messages)

-- Exactly these messages of a connection were handled, in this order: its seat has them and counts the calls
-- among them, and the list has the first attaches and calls.
pub record AreHandled (before after : CallSeatState) (list messages : List ClientMessage) : Type 0 where
  pub conn : after.conn ≡ before.conn
  pub calls : after.calls ≡ before.calls + calls_among messages
  pub all : after.messages ≡ before.messages ++ messages
  pub listed : list ≡ sent_among messages

-- what each end says, where the stream is these messages and then this rest, and the first `count` messages
-- were handled; `NoMemory` may also come where the stream has no whole message: memory for the buffer runs
-- out before anything is read
abbrev pub EndsAt : ReadEnd → List ClientMessage → List ℕ → ℕ → Type 0
EndsAt (BadFrame offset) messages rest count =
    (count ≡ length messages) × IsBad Two rest
    × (offset ≡ min (length (flat_map spelling messages)) (2 ^ 64 - 1))
EndsAt Gone messages rest count = count < length messages
EndsAt Stopped messages rest count = count < length messages
EndsAt Spent messages rest count = count < length messages
EndsAt (NoMemory short) messages rest count = (count < length messages) ⊎ (messages ≡ [])
EndsAt _ messages rest count = (count ≡ length messages) × IsUnfinished Two rest

-- A side read these bytes, the stream of its client: the first `count` of the stream's messages were handled,
-- and no others.
pub record HandlesStream (bytes : List ℕ) (before after : CallSeatState) (list : List ClientMessage)
    (end : ReadEnd) : Type 0 where
  pub messages : List ClientMessage
  pub rest : List ℕ
  pub is_stream : IsStream Two bytes messages rest
  pub count : ℕ
  pub handled : AreHandled before after list (take count messages)
  pub ends : EndsAt end messages rest count

-- an end at which all that the side may read was read: the stream ended, or as many reads were made as the
-- side may make
abbrev pub IsQuietEnd : ReadEnd → Type 0
IsQuietEnd end = (end ≡ Closed) ⊎ (end ≡ Turns)

-- an end that agrees with the hall's last answer: at `Gone`, `Stopped` and `Spent` the hall had answered so;
-- the other ends go with any answer
abbrev pub IsEndAfter : ReadEnd → LastAnswer → Type 0
IsEndAfter Gone s = s ≡ last_answer.Gone
IsEndAfter Stopped s = s ≡ last_answer.Stopped
IsEndAfter Spent s = s ≡ last_answer.Spent
IsEndAfter _ s = Unit {0}

-- ---- while the side reads

-- the list once one more message was handled
abbrev pub listed_with : List ClientMessage → ClientMessage → List ClientMessage
listed_with list message =
    if is_sent message && nat_lt (length list) most_listed then list ++ message ∷ [] else list

-- of the reads that a side may make (first), these are left (second) after it made this many (third); `None`
-- sets no bound
abbrev pub AreLeft : Option ℕ → Option ℕ → ℕ → Type 0
AreLeft None None made = Unit {0}
AreLeft (Some turns) (Some left) made = made + left ≡ turns
AreLeft _ _ made = ⊥

-- an end that may leave a whole message unhandled
abbrev pub EndsEarly : ReadEnd → Type 0
EndsEarly Gone = Unit {0}
EndsEarly Stopped = Unit {0}
EndsEarly Spent = Unit {0}
EndsEarly (NoMemory short) = Unit {0}
EndsEarly _ = ⊥

-- the side ended because of the messages, their frames, memory or what the hall answered: not because the
-- stream ended, a read failed, or no more reads may be made
abbrev pub IsOfMessages : ReadEnd → Type 0
IsOfMessages end = (end ≢ Closed) × (end ≢ Device) × (end ≢ Turns)

-- All messages of the bytes that came so far were handled, and more bytes may come.
pub record IsAt (bytes : List ℕ) (before : CallSeatState) (decoder : Decoding) (after : CallSeatState)
    (list : List ClientMessage) : Type 0 where
  pub are_bytes : IsBytes bytes
  pub version : decoder.version ≡ Two
  pub goes_on : decoder.is_bad ≡ false
  pub messages : List ClientMessage
  pub reads : HasRead decoder bytes messages
  pub handled : AreHandled before after list messages

-- The earlier messages were all handled, and these came after them. The first `count` of these were handled,
-- and the side ended before the next one.
pub record EndsAmong (before after : CallSeatState) (list earlier messages : List ClientMessage)
    (end : ReadEnd) : Type 0 where
  pub breaks : EndsEarly end
  pub count : ℕ
  pub fewer : count < length messages
  pub handled : AreHandled before after list (earlier ++ take count messages)
