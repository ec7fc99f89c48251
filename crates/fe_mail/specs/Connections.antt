-- The mail for an entry of the history; the connections, each with its session and its box of mails; and the
-- number of mails in all boxes. See `docs/model.md`, "Mails, connections and books".
use Rattle.std.specs.Prelude.{ℕ, List, [], length, Option, None, option_and_then}
use Rattle.fe_state.specs.declared.entry.Entry.{Entry}
use Rattle.fe_state.specs.declared.entry.Entry.TheVariants.{Attached, Closed, Settled, Finished}
use Rattle.fe_mail.specs.declared.mail.Mail.{Mail}
use Rattle.fe_mail.specs.declared.mail.Mail.TheVariants as mail
use Rattle.std.specs.Option.{option_map_or}
use Rattle.std.specs.Ordering.{nat_cmp}
use Rattle.std.specs.FinMap.{FinMap, get, insert}
use Rattle.fe_state.specs.Directory.{total}
use Rattle.fe_mail.specs.declared.connection.Connection.{Connection}

-- the session that the entry belongs to
abbrev pub session_of : Entry → ℕ
session_of (Attached session floor) = session
session_of (Closed session) = session
session_of (Settled session floor) = session
session_of (Finished session number request answer) = session

-- the mail for an entry at this place in the history
abbrev pub mail_of : Entry → ℕ → Mail
mail_of (Attached session floor) place = mail.Welcome session floor
mail_of (Closed session) place = mail.Goodbye session
mail_of (Settled session floor) place = mail.Settled floor
mail_of (Finished session number request answer) place = mail.Answer session number answer place

-- ---- connections

-- a new connection: no session, and an empty box
abbrev pub first_connection : Connection
first_connection = record { session = None; mails = [] }

-- the session of a connection; None if it has none or is not connected
abbrev pub session_on : FinMap nat_cmp Connection → ℕ → Option ℕ
session_on m conn = option_and_then (λ c. c.session) (get m conn)

-- the mails in a connection's box, oldest first; none if it is not connected
abbrev pub mails_on : FinMap nat_cmp Connection → ℕ → List Mail
mails_on m conn = option_map_or (λ c. c.mails) (get m conn) []

-- the connections once this one, if it is connected, has the session, or none
abbrev pub with_session : FinMap nat_cmp Connection → ℕ → Option ℕ → FinMap nat_cmp Connection
with_session m conn session =
    option_map_or (λ c. insert m conn (record { session = session; mails = c.mails })) (get m conn) m

-- the connections once this one's box, if it is connected, has these mails
abbrev pub with_mails : FinMap nat_cmp Connection → ℕ → List Mail → FinMap nat_cmp Connection
with_mails m conn mails =
    option_map_or (λ c. insert m conn (record { session = c.session; mails = mails })) (get m conn) m

-- the number of mails in all boxes together
abbrev pub mails_in : FinMap nat_cmp Connection → ℕ
mails_in m = total (λ c. length c.mails) m
