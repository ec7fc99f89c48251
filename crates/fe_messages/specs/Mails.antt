-- What is written to a client: the frames of the mails to its connection (`docs/model.md`, "Messages and
-- mails").
use Rattle.std.specs.Prelude.{ℕ, List}
use Rattle.std.specs.List.{flat_map}
use Rattle.fe_mail.specs.Refusal.{code_of}
use Rattle.fe_mail.specs.declared.mail.Mail.{Mail}
use Rattle.fe_mail.specs.declared.mail.Mail.TheVariants as mail
use Rattle.fe_wire.specs.Spelling.{reply_spelling}
use Rattle.fe_wire.specs.declared.server_message.ServerMessage.{ServerMessage}
use Rattle.fe_wire.specs.declared.server_message.ServerMessage.TheVariants as server

-- the reply for a mail, without an answer's session and place
abbrev pub reply_of : Mail → ServerMessage
reply_of (mail.Welcome session floor) = server.Welcome session floor
reply_of (mail.Answer session number answer place) = server.Answer number answer
reply_of (mail.Refused number refusal) = server.Refused number (code_of refusal)
reply_of (mail.Withdrawn number) = server.Withdrawn number
reply_of (mail.Settled floor) = server.Settled floor
reply_of (mail.Goodbye session) = server.Goodbye session
reply_of (mail.Report text) = server.Report text

-- the frames of mails, one after another
abbrev pub spelled : List Mail → List ℕ
spelled mails = flat_map (λ m. reply_spelling (reply_of m)) mails
