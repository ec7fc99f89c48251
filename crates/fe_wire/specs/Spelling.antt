-- Each message has one spelling as bytes, its frame. Here are the frames, which messages have fields that fit
-- into one, and which messages each version has (`docs/model.md`, "Frames").
use Rattle.std.specs.Prelude.{◌≡◌, ℕ, ◌+◌, ◌-◌, ◌<◌, ◌≤◌, ◌^◌, Bool, false, List, [], ◌∷◌, ◌++◌, length}
use Rattle.std.specs.Prelude.{replicate, nat_lt, if◌then◌else◌}
use Rattle.std.specs.Int.{w32, w64, to_be_bytes}
use Rattle.std.specs.Str.{IsUtf8}
use Rattle.fe_state.specs.Limits.{longest_name}
use Rattle.fe_state.specs.declared.request.Request.TheVariants.{Create, Find, Remove, Access}
use Rattle.fe_mail.specs.Limits.{longest_report}
use Rattle.fe_wire.specs.declared.version.Version.{Version}
use Rattle.fe_wire.specs.declared.version.Version.TheVariants.{One, Two}
use Rattle.fe_wire.specs.declared.client_message.ClientMessage.{ClientMessage}
use Rattle.fe_wire.specs.declared.client_message.ClientMessage.TheVariants.{Attach, Call, Cancel, Settle, Bye}
use Rattle.fe_wire.specs.declared.client_message.ClientMessage.TheVariants.{Report}
use Rattle.fe_wire.specs.declared.server_message.ServerMessage.{ServerMessage}
use Rattle.fe_wire.specs.declared.server_message.ServerMessage.TheVariants as server
use Rattle.fe_codes.specs.Codes.{tag_code, op_code, operand_of, answer_code, answer_number, answer_length}

-- a frame: the number of bytes after the length field, the kind, and the body
abbrev pub frame : ℕ → List ℕ → List ℕ
frame kind body = to_be_bytes w32 (length body + 1) ++ kind ∷ body

-- a name of more than 16 bytes: a create or find with it has another kind
abbrev pub is_long : List ℕ → Bool
is_long name = nat_lt 16 (length name)

-- the number of bytes in the field of a long or a short name
abbrev pub name_room : Bool → ℕ
name_room long = if long then 32 else 16

-- the field of a name: its length in one byte, and the name, padded with zeros to 16 or 32 bytes
abbrev pub name_field : List ℕ → List ℕ
name_field name = length name ∷ name ++ replicate (name_room (is_long name) - length name) 0

abbrev pub create_kind : Bool → ℕ
create_kind long = if long then 12 else 2

abbrev pub find_kind : Bool → ℕ
find_kind long = if long then 13 else 3

abbrev pub access_kind : Bool → ℕ
access_kind no_wait = if no_wait then 11 else 5

-- The frame of a message from a client, with one row for each message and, of a call, for each request; the
-- rows of create, find and access give two kinds each.
abbrev pub spelling : ClientMessage → List ℕ
spelling (Attach session) = frame 1 (to_be_bytes w64 session)
spelling (Call number (Create name length tag)) =
    frame (create_kind (is_long name)) (to_be_bytes w64 number ++ name_field name ++ to_be_bytes w32 length
    ++ tag_code tag ∷ [])
spelling (Call number (Find name)) =
    frame (find_kind (is_long name)) (to_be_bytes w64 number ++ name_field name)
spelling (Call number (Remove array)) = frame 4 (to_be_bytes w64 number ++ to_be_bytes w64 array)
spelling (Call number (Access array index op no_wait)) =
    frame (access_kind no_wait) (to_be_bytes w64 number ++ op_code op ∷ to_be_bytes w64 array
    ++ to_be_bytes w32 index ++ to_be_bytes w64 (operand_of op))
spelling (Cancel number) = frame 6 (to_be_bytes w64 number)
spelling (Settle floor) = frame 7 (to_be_bytes w64 floor)
spelling Bye = frame 8 []
spelling Report = frame 9 []

-- Each field of the message fits into its bytes.
abbrev pub Fits : ClientMessage → Type 0
Fits (Attach session) = session < 2 ^ 64
Fits (Call number (Create name length_of tag)) =
    (number < 2 ^ 64) × (length name ≤ longest_name) × (length_of < 2 ^ 32)
Fits (Call number (Find name)) = (number < 2 ^ 64) × (length name ≤ longest_name)
Fits (Call number (Remove array)) = (number < 2 ^ 64) × (array < 2 ^ 64)
Fits (Call number (Access array index op no_wait)) =
    (number < 2 ^ 64) × (array < 2 ^ 64) × (index < 2 ^ 32) × (operand_of op < 2 ^ 64)
Fits (Cancel number) = number < 2 ^ 64
Fits (Settle floor) = floor < 2 ^ 64
Fits Bye = Unit {0}
Fits Report = Unit {0}

-- The version has the message: version 1 has no access that must not wait, and no name of more than 16 bytes.
abbrev pub IsIn : Version → ClientMessage → Type 0
IsIn One (Attach session) = Unit {0}
IsIn One (Call number (Create name length_of tag)) = length name ≤ 16
IsIn One (Call number (Find name)) = length name ≤ 16
IsIn One (Call number (Remove array)) = Unit {0}
IsIn One (Call number (Access array index op no_wait)) = no_wait ≡ false
IsIn One (Cancel number) = Unit {0}
IsIn One (Settle floor) = Unit {0}
IsIn One Bye = Unit {0}
IsIn One Report = Unit {0}
IsIn Two m = Unit {0}

-- The message has a frame in the version.
abbrev pub FitsIn : Version → ClientMessage → Type 0
FitsIn version m = Fits m × IsIn version m

-- The frame of a message from the server, with one row for each kind.
abbrev pub reply_spelling : ServerMessage → List ℕ
reply_spelling (server.Welcome session floor) = frame 65 (to_be_bytes w64 session ++ to_be_bytes w64 floor)
reply_spelling (server.Answer number answer) =
    frame 66 (to_be_bytes w64 number ++ answer_code answer ∷ to_be_bytes w64 (answer_number answer)
    ++ to_be_bytes w32 (answer_length answer))
reply_spelling (server.Withdrawn number) = frame 67 (to_be_bytes w64 number)
reply_spelling (server.Settled floor) = frame 68 (to_be_bytes w64 floor)
reply_spelling (server.Goodbye session) = frame 69 (to_be_bytes w64 session)
reply_spelling (server.Refused number code) = frame 70 (to_be_bytes w64 number ++ code ∷ [])
reply_spelling (server.Report text) = frame 71 text

-- Each field of the reply fits into its bytes and is in its range.
abbrev pub ReplyFits : ServerMessage → Type 0
ReplyFits (server.Welcome session floor) = (session < 2 ^ 64) × (floor < 2 ^ 64)
ReplyFits (server.Answer number answer) =
    (number < 2 ^ 64) × (answer_number answer < 2 ^ 64) × (answer_length answer < 2 ^ 32)
ReplyFits (server.Withdrawn number) = number < 2 ^ 64
ReplyFits (server.Settled floor) = floor < 2 ^ 64
ReplyFits (server.Goodbye session) = session < 2 ^ 64
ReplyFits (server.Refused number code) = (number < 2 ^ 64) × (1 ≤ code) × (code ≤ 10)
ReplyFits (server.Report text) = (1 ≤ length text) × (length text ≤ longest_report) × IsUtf8 text

-- If the message is a refusal, its code is from 1 to 10.
abbrev pub HasRefusalCode : ServerMessage → Type 0
HasRefusalCode (server.Welcome session floor) = Unit {0}
HasRefusalCode (server.Answer number answer) = Unit {0}
HasRefusalCode (server.Withdrawn number) = Unit {0}
HasRefusalCode (server.Settled floor) = Unit {0}
HasRefusalCode (server.Goodbye session) = Unit {0}
HasRefusalCode (server.Refused number code) = (1 ≤ code) × (code ≤ 10)
HasRefusalCode (server.Report text) = Unit {0}

-- The bytes are the frame of a report.
pub record IsReport (bytes : List ℕ) : Type 0 where
  pub text : List ℕ
  pub fits : ReplyFits (server.Report text)
  pub spelled : bytes ≡ reply_spelling (server.Report text)
