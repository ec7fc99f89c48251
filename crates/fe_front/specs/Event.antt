-- The events of a front that are not refused, some with what they came to. A comment says what an event
-- carries. See `docs/model.md`, "The front".
use Rattle.std.specs.Prelude.{ℕ, Option}
use Rattle.fe_state.specs.declared.batch.Batch.{Batch}
use Rattle.fe_state.specs.declared.request.Request.{Request}
use Rattle.fe_mail.specs.declared.mail.Mail.{Mail}
use Rattle.fe_mail.specs.declared.mail.Mail.TheVariants.{Refused, Report}
use Rattle.fe_front.specs.declared.outcome.Outcome.{Outcome}

pub data Event : Type 0 where
  -- a connection
  Connect : ℕ → Event
  -- a connection and a session
  Attach : ℕ → ℕ → Event
  -- a connection, a number and a request, and what it came to
  Call : ℕ → ℕ → Request → Outcome → Event
  -- a connection and a floor
  Settle : ℕ → ℕ → Event
  -- a connection
  Bye : ℕ → Event
  -- a connection and a number
  Cancel : ℕ → ℕ → Event
  -- a connection, and how many waiting requests were withdrawn
  Gone : ℕ → ℕ → Event
  -- the batch, if one was cut
  Cut : Option Batch → Event
  -- the batch that is posted
  Post : Batch → Event
  -- a connection, and its first mail, if it had one
  TakeMail : ℕ → Option Mail → Event
  -- a connection and the mail that it gets: a report or a refusal (`IsReportOrRefusal`)
  GiveMail : ℕ → Mail → Event

-- a mail that answers at once: a report or a refusal
abbrev pub IsReportOrRefusal : Mail → Type 0
IsReportOrRefusal (Report text) = Unit {0}
IsReportOrRefusal (Refused number refusal) = Unit {0}
IsReportOrRefusal _ = ⊥
