-- What the readers of fields and of messages' bodies return: the value, or None if the bytes spell none. A
-- frame is a length, a kind and a body; its kind says which message it is (`docs/model.md`, "Frames").
use Rattle.std.specs.Prelude.{ℕ, List, [], ◌∷◌, length, take, drop, Bool, true, false, ◌&&◌, Option, Some}
use Rattle.std.specs.Prelude.{None, nat_le, ◌==◌, if◌then◌else◌}
use Rattle.std.specs.List.{list_all}
use Rattle.std.specs.Int.{w32, w64}
use Rattle.fe_codes.specs.Reading.{◌>>=◌, tag_of, op_of}
use Rattle.fe_state.specs.declared.request.Request.TheVariants.{Create, Find, Remove, Access}
use Rattle.fe_wire.specs.declared.client_message.ClientMessage.{ClientMessage}
use Rattle.fe_wire.specs.declared.client_message.ClientMessage.TheVariants.{Attach, Call, Cancel, Settle, Bye}
use Rattle.fe_wire.specs.declared.client_message.ClientMessage.TheVariants.{Report}
use Rattle.fe_wire.specs.Spelling.{name_room}
pub use Rattle.fe_fields.specs.Fields.{ReadsAs, next_number, next_byte, next_bytes}

-- each byte is zero
abbrev pub are_zero : List ℕ → Bool
are_zero bytes = list_all (λ b. b == 0) bytes

-- the least length of a name in its field, by whether it is the field of long names
abbrev pub least_name : Bool → ℕ
least_name long = if long then 17 else 0

-- the name of this length in its field, whose other bytes must be zero
unfoldable pub name_of : Bool → ℕ → List ℕ → Option (List ℕ)
name_of long n cells = if nat_le (least_name long) n && nat_le n (length cells)
    && are_zero (drop n cells) then Some (take n cells) else None

abbrev pub next_name : Bool → List ℕ → Option (List ℕ × List ℕ)
next_name long bytes = do
  count ← next_byte bytes
  cells ← next_bytes (name_room long) count.1
  name ← name_of long count.0 cells.0
  Some (name, cells.1)

-- the value if no bytes are left, else None
abbrev pub ended : {A : Type 0} → List ℕ → A → Option A
ended [] x = Some x
ended (b ∷ rest) x = None

-- the number in a body of eight bytes
abbrev pub number_of : List ℕ → Option ℕ
number_of body = do
  number ← next_number w64 body
  ended number.1 number.0

-- the two numbers in a body of 16 bytes
abbrev pub two_numbers_of : List ℕ → Option (ℕ × ℕ)
two_numbers_of body = do
  first ← next_number w64 body
  second ← next_number w64 first.1
  ended second.1 (first.0, second.0)

unfoldable pub create_of : Bool → List ℕ → Option ClientMessage
create_of long body = do
  number ← next_number w64 body
  name ← next_name long number.1
  size ← next_number w32 name.1
  code ← next_byte size.1
  tag ← tag_of code.0
  ended code.1 (Call number.0 (Create name.0 size.0 tag))

unfoldable pub find_of : Bool → List ℕ → Option ClientMessage
find_of long body = do
  number ← next_number w64 body
  name ← next_name long number.1
  ended name.1 (Call number.0 (Find name.0))

unfoldable pub access_of : Bool → List ℕ → Option ClientMessage
access_of no_wait body = do
  number ← next_number w64 body
  code ← next_byte number.1
  array ← next_number w64 code.1
  index ← next_number w32 array.1
  operand ← next_number w64 index.1
  op ← op_of code.0 operand.0
  ended operand.1 (Call number.0 (Access array.0 index.0 op no_wait))

-- a value made from a body of one number, or of two
abbrev pub made_of : {M : Type 0} → (ℕ → M) → List ℕ → Option M
made_of make body = do
  number ← number_of body
  Some (make number)

abbrev pub made_of_two : {M : Type 0} → (ℕ → ℕ → M) → List ℕ → Option M
made_of_two make body = do
  numbers ← two_numbers_of body
  Some (make numbers.0 numbers.1)

unfoldable pub plain_of : ℕ → List ℕ → Option ClientMessage
plain_of kind body =
    if kind == 1 then made_of (λ session. Attach session) body
    else if kind == 4 then made_of_two (λ number array. Call number (Remove array)) body
    else if kind == 6 then made_of (λ number. Cancel number) body
    else if kind == 7 then made_of (λ floor. Settle floor) body
    else if kind == 8 then ended body Bye
    else if kind == 9 then ended body Report
    else None

-- the message that a frame with this kind and body spells in version 2, which has every message
unfoldable pub message_of : ℕ → List ℕ → Option ClientMessage
message_of kind body =
    if kind == 2 then create_of false body
    else if kind == 3 then find_of false body
    else if kind == 5 then access_of false body
    else if kind == 11 then access_of true body
    else if kind == 12 then create_of true body
    else if kind == 13 then find_of true body
    else plain_of kind body
