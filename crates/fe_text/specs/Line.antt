-- The lines of schedules (`docs/schedules.md`, "Lines"). A definition `.._in` reads a part of a line, given
-- as bytes.
use Rattle.std.specs.Prelude.{ℕ, ◌+◌, ◌-◌, ◌^◌, List, length, take, drop, position, codes, Option, Some, None}
use Rattle.std.specs.Prelude.{nat_lt, nat_le, ◌==◌, ◌&&◌, if◌then◌else◌, ◌≡◌, ◌<◌, ◌≤◌, [], ◌∷◌, false, Bool}
use Rattle.std.specs.Prelude.{true}
use Rattle.std.specs.Option.{option_map, option_map_or}
use Rattle.std.specs.Fmt.{decimal}
use Rattle.std.specs.Str.{bytes_eq}
use Rattle.std.specs.Str.Parse.{digits_value}
use Rattle.fe_words.specs.declared.word.Tag.{Tag}
use Rattle.fe_words.specs.declared.word.Tag.TheVariants.{Full, Empty}
use Rattle.fe_codes.specs.Reading.{◌>>=◌}
use Rattle.std.specs.Io.KnownBytes.{Keeps, Consumes, IsAtEnd}
use Rattle.fe_words.specs.declared.op.Op.{Op}
use Rattle.fe_words.specs.declared.op.Op.TheVariants.{ReadFe, ReadFf, ReadXx, WriteEf, WriteFf, WriteXf}
use Rattle.fe_words.specs.declared.op.Op.TheVariants.{Purge, IntFetchAdd}
use Rattle.fe_state.specs.declared.request.Request.{Request}
use Rattle.fe_state.specs.declared.request.Request.TheVariants.{Create, Find, Remove, Access}
use Rattle.fe_wire.specs.declared.client_message.ClientMessage.{ClientMessage}
use Rattle.fe_wire.specs.declared.client_message.ClientMessage.TheVariants as message
use Rattle.fe_text.specs.declared.line.Line.{Line}
use Rattle.fe_text.specs.declared.line.Line.TheVariants.{Message, Gone, Hold, Flush, Stop, Check}

-- The word before the first space, and the bytes after the space; None if there is no space.
unfoldable pub words_at : List ℕ → Option (List ℕ × List ℕ)
words_at line = option_map (λ at. (take at line, drop (at + 1) line)) (position (λ byte. byte == 32) line)

-- The number below 2 ^ 64 whose decimal digits the word is.
unfoldable pub number_of : List ℕ → Option ℕ
number_of word =
    if nat_lt (digits_value 10 word) (2 ^ 64)
    && bytes_eq word (decimal (digits_value 10 word)) then Some (digits_value 10 word) else None

-- the number below 2 ^ 32 whose decimal digits the word is
unfoldable pub small_number_of : List ℕ → Option ℕ
small_number_of word = do
  number ← number_of word
  if nat_lt (2 ^ 32 - 1) number then None else Some number

-- the word as a name: 1 to 32 bytes of any kind
unfoldable pub name_in : List ℕ → Option (List ℕ)
name_in word = if nat_lt 0 (length word) && nat_le (length word) 32 then Some word else None

unfoldable pub tag_named : List ℕ → Option Tag
tag_named word = if bytes_eq word (codes "full") then Some Full else if bytes_eq word (codes "empty") then
    Some Empty else None

-- the most bytes of a line, without its line feed
abbrev pub longest_line : ℕ
longest_line = 99

-- ---- the lines of an input

-- the lines with this byte before the first one
abbrev pub before_first : ℕ → List (List ℕ) → List (List ℕ)
before_first byte [] = (byte ∷ []) ∷ []
before_first byte (line ∷ lines) = (byte ∷ line) ∷ lines

-- The lines of the bytes. Each ends with a line feed; the last one may end without.
abbrev pub lines_of : List ℕ → List (List ℕ)
lines_of [] = []
lines_of (byte ∷ bytes) = if byte == 10 then [] ∷ lines_of bytes else before_first byte (lines_of bytes)

-- there is no line feed among the bytes
abbrev pub HasNoFeed : List ℕ → Type 0
HasNoFeed [] = Unit {0}
HasNoFeed (byte ∷ bytes) = ((byte == 10) ≡ false) × HasNoFeed bytes

-- What a read did to the bytes that are left: it took as many as the count says, or was interrupted and took
-- none (None). A count of 0 means the end, if the piece has bytes.
abbrev pub ReadsSome : Option (List ℕ) → Option (List ℕ) → List ℕ → Option ℕ → Type 0
ReadsSome old new piece None = Keeps old new
ReadsSome old new piece (Some count) = (count ≤ length piece) × Consumes old new (take count piece)
    × (count ≡ 0 → 0 < length piece → IsAtEnd new)

-- ---- requests

-- the operation with this name, if it has no operand
unfoldable pub op_named : List ℕ → Option Op
op_named word =
    if bytes_eq word (codes "readfe") then Some ReadFe
    else if bytes_eq word (codes "readff") then Some ReadFf
    else if bytes_eq word (codes "readxx") then Some ReadXx
    else if bytes_eq word (codes "purge") then Some Purge
    else None

-- the operation with this name and operand, if it has an operand
unfoldable pub writing_op_named : List ℕ → ℕ → Option Op
writing_op_named word operand =
    if bytes_eq word (codes "writeef") then Some (WriteEf operand)
    else if bytes_eq word (codes "writeff") then Some (WriteFf operand)
    else if bytes_eq word (codes "writexf") then Some (WriteXf operand)
    else if bytes_eq word (codes "int_fetch_add") then Some (IntFetchAdd operand)
    else None

-- NAME LENGTH full, or NAME LENGTH empty
unfoldable pub create_in : List ℕ → Option Request
create_in words = do
  name ← words_at words
  size ← words_at name.1
  bytes ← name_in name.0
  length_of ← small_number_of size.0
  tag ← tag_named size.1
  Some (Create bytes length_of tag)

-- the find of the name that the word is
abbrev find_named : List ℕ → Option Request
find_named word = do
  name ← name_in word
  Some (Find name)

-- NAME, which is one word
unfoldable pub find_in : List ℕ → Option Request
find_in words = option_map_or (λ _. None) (words_at words) (find_named words)

-- ARRAY, a number
unfoldable pub remove_in : List ℕ → Option Request
remove_in words = do
  array ← number_of words
  Some (Remove array)

-- the word, and true, if the bytes after it are `nowait`
abbrev flagged_in : List ℕ → List ℕ → Option (List ℕ × Bool)
flagged_in word flag = if bytes_eq flag (codes "nowait") then Some (word, true) else None

-- the last word, without `nowait` if that comes after it, and whether it does
unfoldable pub last_in : List ℕ → Option (List ℕ × Bool)
last_in words = option_map_or (λ parts. flagged_in parts.0 parts.1) (words_at words) (Some (words, false))

-- ARRAY INDEX, with or without nowait
unfoldable pub access_in : Op → List ℕ → Option Request
access_in op words = do
  parts ← words_at words
  last ← last_in parts.1
  array ← number_of parts.0
  index ← small_number_of last.0
  Some (Access array index op last.1)

-- ARRAY INDEX OPERAND, with or without nowait
unfoldable pub writing_access_in : List ℕ → List ℕ → Option Request
writing_access_in name words = do
  parts ← words_at words
  more ← words_at parts.1
  last ← last_in more.1
  array ← number_of parts.0
  index ← small_number_of more.0
  operand ← number_of last.0
  op ← writing_op_named name operand
  Some (Access array index op last.1)

-- an access by the operation, if one was found that has no operand, and otherwise by the operation with this
-- name and an operand
unfoldable pub access_named : Option Op → List ℕ → List ℕ → Option Request
access_named (Some op) name words = access_in op words
access_named None name words = writing_access_in name words

-- create NAME LENGTH TAG, find NAME, remove ARRAY, or an access
unfoldable pub request_in : List ℕ → Option Request
request_in words = do
  parts ← words_at words
  if bytes_eq parts.0 (codes "create") then create_in parts.1
      else if bytes_eq parts.0 (codes "find") then find_in parts.1
      else if bytes_eq parts.0 (codes "remove") then remove_in parts.1
      else access_named (op_named parts.0) parts.0 parts.1

-- ---- lines

-- this number, if it may be a connection's: 1 to 999
abbrev in_range : ℕ → Option ℕ
in_range conn = if nat_lt conn 1 then None else if nat_lt 999 conn then None else Some conn

-- the number in a connection's name, which is the letter c and that number
unfoldable pub conn_of : List ℕ → Option ℕ
conn_of [] = None
conn_of (letter ∷ digits) = if letter == 99 then (number_of digits >>= in_range) else None

unfoldable pub control_in : List ℕ → Option Line
control_in word =
    if bytes_eq word (codes "hold") then Some Hold
    else if bytes_eq word (codes "flush") then Some Flush
    else if bytes_eq word (codes "stop") then Some Stop
    else if bytes_eq word (codes "check") then Some Check
    else None

-- a message of one word
unfoldable pub plain_in : List ℕ → Option ClientMessage
plain_in word =
    if bytes_eq word (codes "bye") then Some message.Bye
    else if bytes_eq word (codes "report") then Some message.Report
    else None

-- a message made from the number that the word spells
abbrev made_of : (ℕ → ClientMessage) → List ℕ → Option ClientMessage
made_of make word = do
  number ← number_of word
  Some (make number)

-- the call of the bytes NUMBER REQUEST
abbrev call_in : List ℕ → List ℕ → Option ClientMessage
call_in word words = do
  number ← number_of word
  request ← request_in words
  Some (message.Call number request)

-- the message of the bytes attach SESSION, cancel NUMBER, settle FLOOR, or NUMBER REQUEST
unfoldable pub numbered_in : List ℕ → List ℕ → Option ClientMessage
numbered_in first words =
    if bytes_eq first (codes "attach") then made_of (λ session. message.Attach session) words
    else if bytes_eq first (codes "cancel") then made_of (λ number. message.Cancel number) words
    else if bytes_eq first (codes "settle") then made_of (λ floor. message.Settle floor) words
    else call_in first words

-- The message that the bytes spell.
unfoldable pub message_in : List ℕ → Option ClientMessage
message_in words = option_map_or (λ parts. numbered_in parts.0 parts.1) (words_at words) (plain_in words)

-- a message from this connection
abbrev message_of : ℕ → List ℕ → Option Line
message_of conn words = do
  one ← message_in words
  Some (Message conn one)

-- the line after the name of its connection
unfoldable pub conn_line_in : ℕ → List ℕ → Option Line
conn_line_in conn words = if bytes_eq words (codes "gone") then Some (Gone conn) else message_of conn words

-- a line that begins with the name of a connection
abbrev named_in : List ℕ → List ℕ → Option Line
named_in name words = do
  conn ← conn_of name
  conn_line_in conn words

-- The line that the bytes spell. No line has more than `longest_line` bytes.
unfoldable pub parsed : List ℕ → Option Line
parsed bytes =
    if nat_lt longest_line (length bytes) then None
    else option_map_or (λ parts. named_in parts.0 parts.1) (words_at bytes) (control_in bytes)
