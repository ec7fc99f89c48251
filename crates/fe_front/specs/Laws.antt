-- Laws of the front: what is always true of its boxes, where mails to connections wait, and how its books,
-- the counts of calls and mails, rise with each event. An entry is durable once its batch was stored and
-- posted, or if it was there from the beginning. See `docs/model.md`, "The front".
use Rattle.std.specs.Prelude.{ℕ, ◌≤◌, ◌<◌, List, length, All, ◌≡◌, ◌+◌, false, Some}
use Rattle.fe_state.specs.State.{ServerState}
use Rattle.fe_state.specs.declared.entry.Entry.{Entry}
use Rattle.fe_mail.specs.Connections.{mails_on}
use Rattle.fe_mail.specs.declared.mail.Mail.{Mail}
use Rattle.fe_mail.specs.declared.mail.Mail.TheVariants.{Answer}
use Rattle.fe_mail.specs.Limits.{most_mails_in_box, most_booked}
use Rattle.fe_front.specs.Event.{Event, Call, Cancel, Post, TakeMail, GiveMail}
use Rattle.fe_front.specs.Front.{FrontState, IsFront, IsFirst}
use Rattle.fe_front.specs.Call.{call_refused_by}
use Rattle.fe_front.specs.Step.{FrontStep}
use Rattle.fe_mail.specs.Books.{Books}
use Rattle.fe_mail.specs.declared.refusal.Refusal.{Refusal}
use Rattle.fe_mail.specs.declared.mail.Mail.TheVariants as mail
use Rattle.fe_front.specs.Steps.{mailed}
use Rattle.fe_state.specs.Limits.{most_batch_entries}

-- ---- boxes

-- if the mail is an answer, the place of its entry is below the mark, the number of durable entries
abbrev pub IsBelow : ℕ → Mail → Type 0
IsBelow mark (Answer session number answer place) = place < mark
IsBelow mark _ = Unit {0}

-- each answer in a box has the place of an entry that is durable
abbrev pub HoldsDurable : FrontState → Type 0
HoldsDurable f = (conn : ℕ) → All (IsBelow f.durable) (mails_on f.connections conn)

-- each box has at most `most_mails_in_box` mails
abbrev pub HasShortBoxes : FrontState → Type 0
HasShortBoxes f = (conn : ℕ) → length (mails_on f.connections conn) ≤ most_mails_in_box

-- P is true of each front that begins, and stays true through each event and each refused call
pub record IsAlwaysTrue (P : FrontState → Type 0) : Type 0 where
  pub first : (begun : ServerState) (f : FrontState) → IsFirst begun f → P f
  pub step : (f f' : FrontState) (event : Event) (es : List Entry) → IsFront f → FrontStep f event es f' → P f
      → P f'
  pub refused : (f : FrontState) → P f → P (call_refused_by f)

-- an answer comes into a box only once its entry is durable
abbrev pub MailsStayDurable : Type 0
MailsStayDurable = IsAlwaysTrue HoldsDurable

-- no box ever has more than `most_mails_in_box` mails
abbrev pub BoxesStayShort : Type 0
BoxesStayShort = IsAlwaysTrue HasShortBoxes

-- ---- books

-- books that are not spent, with room for this many more calls and mails
pub record HaveRoom (b : Books) (calls mails : ℕ) : Type 0 where
  pub unspent : b.spent ≡ false
  pub few_calls : b.calls + calls ≤ most_booked
  pub few_mails : b.mails + mails ≤ most_booked

-- Books become others that are not spent, with this many more calls, this many more mails that were taken,
-- and at most this many more mails in all.
pub record Rise (b : Books) (called took most : ℕ) (b' : Books) : Type 0 where
  pub unspent : b'.spent ≡ false
  pub calls : b'.calls ≡ b.calls + called
  pub taken : b'.taken ≡ b.taken + took
  pub no_fewer : b.mails ≤ b'.mails
  pub mails : b'.mails ≤ b.mails + most

-- how many calls an event is
abbrev pub calls_of : Event → ℕ
calls_of (Call conn number request outcome) = 1
calls_of _ = 0

-- how many mails an event takes out of boxes
abbrev pub taken_of : Event → ℕ
taken_of (TakeMail conn (Some mail)) = 1
taken_of _ = 0

-- how many mails an event makes at most: one for each entry that is posted, and one for an event that may be
-- answered at once
abbrev pub most_mails_of : Event → ℕ
most_mails_of (Post batch) = length batch.entries
most_mails_of (Call conn number request outcome) = 1
most_mails_of (Cancel conn number) = 1
most_mails_of (GiveMail conn mail) = 1
most_mails_of _ = 0

-- the front after a call was refused and its refusal mailed
abbrev pub refused_to : FrontState → ℕ → ℕ → Refusal → FrontState
refused_to f conn number refusal = mailed (call_refused_by f) conn (mail.Refused number refusal)

-- Books that have room for an event stay unspent through it, and rise by it: by one call exactly for a call,
-- refused or not, and by one taken mail exactly for a mail that is taken. An event makes 4,097 mails at most.
pub record BooksRise : Type 0 where
  pub rises : (f f' : FrontState) (event : Event) (es : List Entry) → IsFront f
      → HaveRoom f.books (calls_of event) (most_mails_of event) → FrontStep f event es f'
      → Rise f.books (calls_of event) (taken_of event) (most_mails_of event) f'.books
  pub few_mails : (f f' : FrontState) (event : Event) (es : List Entry) → IsFront f → FrontStep f event es f'
      → most_mails_of event ≤ most_batch_entries
  pub refused : (f : FrontState) → HaveRoom f.books 1 0 → Rise f.books 1 0 0 (call_refused_by f).books
  pub refused_to : (f : FrontState) (conn number : ℕ) (refusal : Refusal) → HaveRoom f.books 1 1
      → Rise f.books 1 0 1 (refused_to f conn number refusal).books
