-- A client's stream in a version: whole frames, and then a rest that is an unfinished frame or begins with a
-- bad one. See `docs/model.md`, "Frames".
use Rattle.std.specs.Prelude.{◌≡◌, ◌≢◌, ℕ, ◌+◌, ◌-◌, ◌<◌, ◌≤◌, ◌^◌, min, Bool, true, false, ◌⊎◌, List, []}
use Rattle.std.specs.Prelude.{◌++◌, length, take, slice_index, Option, Some, None, ◌==◌, if◌then◌else◌}
use Rattle.std.specs.List.{flat_map, AllByRecursion}
use Rattle.std.specs.Int.{w32, from_be_bytes}
use Rattle.fe_wire.specs.declared.client_message.ClientMessage.{ClientMessage}
use Rattle.fe_wire.specs.declared.fed.BadFrame.{BadFrame}
use Rattle.fe_wire.specs.declared.head.Head.{Head}
use Rattle.fe_wire.specs.declared.head.Head.TheVariants.{Unfinished, Bad, Whole}
use Rattle.fe_wire.specs.declared.version.Version.{Version}
use Rattle.fe_wire.specs.declared.version.Version.TheVariants.{One, Two}
use Rattle.fe_wire.specs.Spelling.{spelling, FitsIn, Fits, reply_spelling, ReplyFits}
use Rattle.fe_wire.specs.declared.decoder_state.DecoderState.{DecoderState}
use Rattle.fe_codes.specs.Reading.{IsBytes}
use Rattle.fe_wire.specs.declared.server_message.ServerMessage.{ServerMessage}

-- the value of the length field in each kind of frame of version 1
abbrev pub first_lengths : ℕ → Option ℕ
first_lengths kind =
    if kind == 1 then Some 9
    else if kind == 2 then Some 31
    else if kind == 3 then Some 26
    else if kind == 4 then Some 17
    else if kind == 5 then Some 30
    else if kind == 6 then Some 9
    else if kind == 7 then Some 9
    else if kind == 8 then Some 1
    else if kind == 9 then Some 1
    else None

-- the value of the length field in each kind of frame
abbrev pub length_of_kind : Version → ℕ → Option ℕ
length_of_kind One kind = first_lengths kind
length_of_kind Two kind =
    if kind == 11 then Some 30 else if kind == 12 then Some 47 else if kind
    == 13 then Some 42 else first_lengths kind

-- the greatest value of the length field
abbrev pub longest : Version → ℕ
longest One = 31
longest Two = 47

-- the length field at the front of the bytes
abbrev pub length_field : List ℕ → ℕ
length_field bytes = from_be_bytes w32 (take 4 bytes)

-- the kind of the frame at the front of the bytes: its fifth byte
abbrev pub kind_field : List ℕ → ℕ
kind_field bytes = slice_index bytes 4

-- the frame at the front of the bytes, as long as its length field says
abbrev pub front_frame : List ℕ → List ℕ
front_frame bytes = take (4 + length_field bytes) bytes

-- The four bytes of the length have come, and the length is 0 or above the greatest of the version.
abbrev pub HasBadLength : Version → List ℕ → Type 0
HasBadLength v bytes = (4 ≤ length bytes) × ((length_field bytes ≡ 0) ⊎ (longest v < length_field bytes))

-- The kind has come, and it is not one of the version's, or its frames have another length.
abbrev pub HasBadKind : Version → List ℕ → Type 0
HasBadKind v bytes = (5 ≤ length bytes) × (length_of_kind v (kind_field bytes) ≢ Some (length_field bytes))

-- The whole frame has come.
abbrev pub IsWhole : List ℕ → Type 0
IsWhole bytes = 4 + length_field bytes ≤ length bytes

-- The whole frame has come, and it spells no message of the version.
abbrev pub HasBadBody : Version → List ℕ → Type 0
HasBadBody v bytes = IsWhole bytes × ((m : ClientMessage) → FitsIn v m → front_frame bytes ≢ spelling m)

-- The frame at the front is bad, whatever bytes follow.
abbrev pub IsBad : Version → List ℕ → Type 0
IsBad v bytes = HasBadLength v bytes ⊎ (HasBadKind v bytes ⊎ HasBadBody v bytes)

-- The frame at the front is not whole, and not bad either: more bytes are needed.
abbrev pub IsUnfinished : Version → List ℕ → Type 0
IsUnfinished v bytes = (¬ IsWhole bytes) × (¬ IsBad v bytes)

-- The stream consists of the frames of these messages, and then this rest.
pub record IsStream (version : Version) (stream : List ℕ) (messages : List ClientMessage)
    (rest : List ℕ) : Type 0 where
  pub parts : stream ≡ flat_map spelling messages ++ rest
  pub each : AllByRecursion (FitsIn version) messages
  pub end : IsUnfinished version rest ⊎ IsBad version rest

-- a decoder's state
pub record Decoding : Type 0 where
  -- the version of its frames
  pub version : Version
  -- the offset of the current frame's first byte, at most 2 ^ 64 - 1
  pub offset : ℕ
  -- the bytes of the current frame that have come
  pub held : List ℕ
  -- the current frame is bad
  pub is_bad : Bool

-- what the decoder stores of the rest of the stream: an unfinished frame, and nothing of a bad one
abbrev pub StandsAt : Version → Bool → List ℕ → List ℕ → Type 0
StandsAt v false held rest = IsUnfinished v rest × (held ≡ rest)
StandsAt v true held rest = IsBad v rest × (held ≡ [])

-- The decoder has read this stream, whose first byte has the offset `start`, and these are its messages.
pub record HasReadFrom (start : ℕ) (decoder : Decoding) (stream : List ℕ)
    (messages : List ClientMessage) : Type 0 where
  pub rest : List ℕ
  pub is_stream : IsStream decoder.version stream messages rest
  pub offset : decoder.offset ≡ min (start + length (flat_map spelling messages)) (2 ^ 64 - 1)
  pub stands : StandsAt decoder.version decoder.is_bad decoder.held rest

-- The decoder has read this stream, whose first byte has the offset 0, and these are its messages.
abbrev pub HasRead : Decoding → List ℕ → List ClientMessage → Type 0
HasRead = HasReadFrom 0

-- Whatever was read before, this piece completes at least one more message.
abbrev pub CompletesMessage : Decoding → List ℕ → Type 0
CompletesMessage decoder piece =
    (start : ℕ) (before : List ℕ) (earlier messages : List ClientMessage) (rest : List ℕ)
    → HasReadFrom start decoder before earlier
    → IsStream decoder.version (before ++ piece) messages rest → length earlier < length messages

-- the fault that a decoder reports: the offset of the bad frame
abbrev pub fault_of : Decoding → Option BadFrame
fault_of decoder = if decoder.is_bad then Some (record { offset = decoder.offset }) else None

-- the head is that of the frame at the front of these bytes
abbrev pub IsHead : Version → Head → List ℕ → Type 0
IsHead v Unfinished bytes = IsUnfinished v bytes
IsHead v Bad bytes = IsBad v bytes
IsHead v (Whole count m) bytes =
    FitsIn v m × (front_frame bytes ≡ spelling m) × IsWhole bytes × (count ≡ 4 + length_field bytes)

-- ---- decoders

-- the bytes of the current frame that are stored
abbrev pub held_of : DecoderState → List ℕ
held_of p = take p.len p.cells

-- what contracts see of a decoder in this state
abbrev pub decoding : DecoderState → Decoding
decoding p = record { version = p.version; offset = p.offset; held = held_of p; is_bad = p.is_bad }

-- the bytes of an unfinished frame are stored, and none of a bad one
abbrev pub IsHeld : Version → Bool → List ℕ → Type 0
IsHeld version false held = IsUnfinished version held
IsHeld version true held = held ≡ []

-- what is always true of a decoder's fields between two steps
pub record IsDecoderState (p : DecoderState) : Type 0 where
  pub within : p.len ≤ 50
  pub cells : length p.cells ≡ 51
  pub held : IsHeld p.version p.is_bad (held_of p)

-- Whatever was read before, these bytes after it lead from the old state to the new one and complete these
-- messages.
pub record Consumes (old new : DecoderState) (bytes : List ℕ) (messages : List ClientMessage) : Type 0 where
  pub version : new.version ≡ old.version
  pub reads : (start : ℕ) (before : List ℕ) (earlier : List ClientMessage)
      → HasReadFrom start (decoding old) before earlier
      → HasReadFrom start (decoding new) (before ++ bytes) (earlier ++ messages)

-- ---- laws, cited by public functions

-- A stream has at most one reading in a version.
abbrev pub HasOneReading : Type 0
HasOneReading = (v : Version) (stream : List ℕ) (a b : List ClientMessage) (x y : List ℕ)
    → IsStream v stream a x → IsStream v stream b y → (a ≡ b) × (x ≡ y)

-- Two decoders of one version that have read the same stream from the same offset, in whatever pieces, have
-- the same messages and are in the same state.
abbrev pub HasOneOutcome : Type 0
HasOneOutcome =
    (start : ℕ) (stream : List ℕ) (a b : List ClientMessage) (x y : Decoding) → x.version ≡ y.version
    → HasReadFrom start x stream a → HasReadFrom start y stream b → (a ≡ b) × (x ≡ y)

-- No message's frame is a prefix of another's, and no two messages have the same frame.
abbrev pub HasOneSpelling : Type 0
HasOneSpelling = (a b : ClientMessage) (x y : List ℕ) → Fits a → Fits b → spelling a ++ x ≡ spelling b ++ y
    → (a ≡ b) × (x ≡ y)

-- a reading of the stream
pub record HasReading (version : Version) (stream : List ℕ) : Type 0 where
  pub messages : List ClientMessage
  pub rest : List ℕ
  pub is_stream : IsStream version stream messages rest

-- Every list of bytes has a reading in each version.
abbrev pub EachHasReading : Type 0
EachHasReading = (v : Version) (stream : List ℕ) → IsBytes stream → HasReading v stream

-- No reply's frame is a prefix of another's, and no two replies have the same frame.
abbrev pub HasOneReplySpelling : Type 0
HasOneReplySpelling = (a b : ServerMessage) (x y : List ℕ) → ReplyFits a → ReplyFits b
    → reply_spelling a ++ x ≡ reply_spelling b ++ y → (a ≡ b) × (x ≡ y)

-- Bytes are the frames of at most one list of replies.
abbrev pub HasOneReplyReading : Type 0
HasOneReplyReading = (a b : List ServerMessage) → AllByRecursion ReplyFits a → AllByRecursion ReplyFits b
    → flat_map reply_spelling a ≡ flat_map reply_spelling b → a ≡ b
