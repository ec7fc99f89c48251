-- The logs of a connection's sides, as lists of the messages or mails that they took (`docs/model.md`, "The
-- hall").
use Rattle.std.specs.Prelude.{List, [], ◌∷◌, ◌++◌}
use Rattle.fe_wire.specs.declared.client_message.ClientMessage.{ClientMessage}
use Rattle.fe_mail.specs.declared.mail.Mail.{Mail}
use Rattle.fe_shared.specs.declared.message_log.MessageLog.{MessageLog}
use Rattle.fe_shared.specs.declared.message_log.MessageLog.TheOpen as message_shape
use Rattle.fe_shared.specs.declared.message_log.MessageLog.TheFolds.{fold-MessageLog}
use Rattle.fe_shared.specs.declared.mail_log.MailLog.{MailLog}
use Rattle.fe_shared.specs.declared.mail_log.MailLog.TheOpen as mail_shape
use Rattle.fe_shared.specs.declared.mail_log.MailLog.TheFolds.{fold-MailLog}

abbrev more_messages : message_shape.MessageLog-F (List ClientMessage) → List ClientMessage
more_messages message_shape.Empty = []
more_messages (message_shape.Then before message) = before.value ++ message.value ∷ []

-- the messages of a log, the first one first
abbrev pub messages_of : MessageLog → List ClientMessage
messages_of log = fold-MessageLog (List ClientMessage) more_messages log

abbrev more_mails : mail_shape.MailLog-F (List Mail) → List Mail
more_mails mail_shape.Empty = []
more_mails (mail_shape.Then before mail) = before.value ++ mail.value ∷ []

-- the mails of a log, the first one first
abbrev pub mails_of : MailLog → List Mail
mails_of log = fold-MailLog (List Mail) more_mails log
