-- Replies as text (`docs/schedules.md`, "Printed").
use Rattle.std.specs.Prelude.{ℕ, List, [], ◌++◌, codes, Option, None, Some, ◌==◌, if◌then◌else◌, ◌≡◌}
use Rattle.std.specs.Fmt.{decimal}
use Rattle.std.specs.List.{flat_map}
use Rattle.std.specs.Str.Lines.{lines}
use Rattle.fe_state.specs.declared.answer.Answer.{Answer}
use Rattle.fe_state.specs.declared.answer.Answer.TheVariants.{Value, Done, Array, NoArray, BadIndex}
use Rattle.fe_state.specs.declared.answer.Answer.TheVariants.{NameTaken, ArrayLimit, WordLimit, BadName}
use Rattle.fe_state.specs.declared.answer.Answer.TheVariants.{BadLength, NotNow}
use Rattle.fe_wire.specs.declared.server_message.ServerMessage.{ServerMessage}
use Rattle.fe_wire.specs.declared.server_message.ServerMessage.TheVariants as server
use Rattle.fe_mail.specs.Refusal.{code_of, name_of}
use Rattle.fe_mail.specs.declared.refusal.Refusal.{Refusal}

unfoldable pub answer_text : Answer → List ℕ
answer_text (Value value) = codes "value " ++ decimal value
answer_text Done = codes "done"
answer_text (Array id length) = codes "array " ++ (decimal id ++ (codes " " ++ decimal length))
answer_text NoArray = codes "no-array"
answer_text BadIndex = codes "bad-index"
answer_text NameTaken = codes "name-taken"
answer_text ArrayLimit = codes "array-limit"
answer_text WordLimit = codes "word-limit"
answer_text BadName = codes "bad-name"
answer_text BadLength = codes "bad-length"
answer_text NotNow = codes "not-now"

-- the name of the refusal with this code, 1 to 10
unfoldable pub refusal_text : ℕ → List ℕ
refusal_text code =
    if code == 1 then codes "not-attached"
    else if code == 2 then codes "session-limit"
    else if code == 3 then codes "below-floor"
    else if code == 4 then codes "beyond-window"
    else if code == 5 then codes "number-used"
    else if code == 6 then codes "still-waiting"
    else if code == 7 then codes "closing"
    else if code == 8 then codes "no-memory"
    else if code == 9 then codes "spent"
    else codes "not-waiting"

-- the name of a connection and a space, or nothing without a connection
abbrev pub name_text : Option ℕ → List ℕ
name_text None = []
name_text (Some conn) = codes "c" ++ (decimal conn ++ codes " ")

-- a line of a report
abbrev pub report_line : Option ℕ → List ℕ → List ℕ
report_line conn line = name_text conn ++ (line ++ codes "\n")

-- The line for a reply to a connection, with its line feed; for a report, each of its lines.
unfoldable pub printed : Option ℕ → ServerMessage → List ℕ
printed conn (server.Welcome session floor) =
    name_text conn ++ (codes "welcome " ++ (decimal session ++ (codes " " ++ (decimal floor ++ codes "\n"))))
printed conn (server.Answer number answer) =
    name_text conn ++ (decimal number ++ (codes " " ++ (answer_text answer ++ codes "\n")))
printed conn (server.Refused number code) =
    name_text conn ++ (codes "refused " ++ (decimal number
    ++ (codes " " ++ (refusal_text code ++ codes "\n"))))
printed conn (server.Withdrawn number) =
    name_text conn ++ (decimal number ++ codes " withdrawn\n")
printed conn (server.Settled floor) =
    name_text conn ++ (codes "settled " ++ (decimal floor ++ codes "\n"))
printed conn (server.Goodbye session) =
    name_text conn ++ (codes "goodbye " ++ (decimal session ++ codes "\n"))
printed conn (server.Report text) = flat_map (report_line conn) (lines text)

-- the name printed for a refusal's code is the refusal's name
abbrev pub PrintsTheirNames : Type 0
PrintsTheirNames = (refusal : Refusal) → refusal_text (code_of refusal) ≡ name_of refusal
