-- What the functions that read a reply's frame return: the reply or, of `parts_of`, the frame's kind and
-- body; None if the bytes spell none (`docs/formats.md`, "Frames", has the kinds).
use Rattle.std.specs.Prelude.{ℕ, List, length, ◌&&◌, Option, Some, None, nat_lt, nat_le, ◌==◌, if◌then◌else◌}
use Rattle.std.specs.Str.{is_utf8}
use Rattle.std.specs.Int.{w32, w64}
use Rattle.fe_codes.specs.Reading.{◌>>=◌, answer_of}
use Rattle.fe_mail.specs.Limits.{longest_report}
use Rattle.fe_wire.specs.declared.server_message.ServerMessage.{ServerMessage}
use Rattle.fe_wire.specs.declared.server_message.ServerMessage.TheVariants as server
use Rattle.fe_wire.specs.Reading.{next_number, next_byte, ended, made_of, made_of_two}

unfoldable pub answered_of : List ℕ → Option ServerMessage
answered_of body = do
  number ← next_number w64 body
  code ← next_byte number.1
  value ← next_number w64 code.1
  size ← next_number w32 value.1
  answer ← answer_of code.0 value.0 size.0
  ended size.1 (server.Answer number.0 answer)

unfoldable pub refused_of : List ℕ → Option ServerMessage
refused_of body = do
  number ← next_number w64 body
  code ← next_byte number.1
  if nat_lt code.0 1 then None else if nat_lt 10 code.0 then None else ended code.1
      (server.Refused number.0 code.0)

-- the reply that a frame with this kind and body spells; None for a report, which `report_of` reads
unfoldable pub reply_of_kind : ℕ → List ℕ → Option ServerMessage
reply_of_kind kind body =
    if kind == 65 then made_of_two (λ session floor. server.Welcome session floor) body
    else if kind == 66 then answered_of body
    else if kind == 67 then made_of (λ number. server.Withdrawn number) body
    else if kind == 68 then made_of (λ floor. server.Settled floor) body
    else if kind == 69 then made_of (λ session. server.Goodbye session) body
    else if kind == 70 then refused_of body
    else None

-- the report with this text, if it is 1 to 262,144 bytes of UTF-8
abbrev pub report_of : List ℕ → Option ServerMessage
report_of text = if nat_lt 0 (length text) && nat_le (length text) longest_report
    && is_utf8 text then Some (server.Report text) else None

-- the kind and the body, if the bytes are exactly one frame
unfoldable pub parts_of : List ℕ → Option (ℕ × List ℕ)
parts_of bytes = do
  size ← next_number w32 bytes
  if size.0 == length size.1 then next_byte size.1 else None
