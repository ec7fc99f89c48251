-- The steps of a front: what each event that is not refused does, and the entries that it makes
-- (`docs/model.md`, "The front").
use Rattle.std.specs.Prelude.{◌≡◌, ◌≤◌, ℕ, List, [], ◌∷◌, length, None, Ok, slice_get}
use Rattle.std.specs.FinMap.{get}
use Rattle.fe_state.specs.History.{AreLegal}
use Rattle.fe_state.specs.State.{IsWithinLimits, after_all}
use Rattle.fe_state.specs.declared.entry.Entry.{Entry}
use Rattle.fe_state.specs.declared.entry.Entry.TheVariants.{Attached, Closed, Settled}
use Rattle.fe_service.specs.Events.{floor_of}
use Rattle.fe_mail.specs.Connections.{mails_on}
use Rattle.fe_front.specs.Event.{Event, Connect, Attach, Call, Settle, Bye, Cancel, Gone, Cut, Post, TakeMail}
use Rattle.fe_front.specs.Event.{GiveMail, IsReportOrRefusal}
use Rattle.fe_front.specs.Front.{FrontState, IsFront}
use Rattle.fe_front.specs.Call.{Called, attaching, addressed, settling, leaving, cancelling}
use Rattle.fe_front.specs.Posting.{IsOut, posted}
use Rattle.fe_front.specs.Steps.{connected, attached_to, settled_to, closed_by, cancelled_by, dropped}
use Rattle.fe_front.specs.Steps.{departing, next_batch, cut, taken, mailed}
use Rattle.fe_state.specs.Limits.{most_event_entries}

-- the event makes this one entry, and leaves this front
pub record OneEntry (f' : FrontState) (es : List Entry) (e : Entry) (f : FrontState) : Type 0 where
  pub entries : es ≡ e ∷ []
  pub front : f' ≡ f

-- the event makes no entry, and leaves this front
pub record NoEntry (f' : FrontState) (es : List Entry) (f : FrontState) : Type 0 where
  pub entries : es ≡ []
  pub front : f' ≡ f

-- What an event does, with the entries that it makes. If several waiting requests may be served, any may be
-- the next.
abbrev pub FrontStep : FrontState → Event → List Entry → FrontState → Type 0
FrontStep f (Connect conn) es f' = (get f.connections conn ≡ None) × NoEntry f' es (connected f conn)
FrontStep f (Attach conn session) es f' =
    (attaching f conn session ≡ Ok session) × OneEntry f' es (Attached session (floor_of f.service session))
    (attached_to f conn session)
FrontStep f (Call conn number request outcome) es f' =
    (session : ℕ) × (addressed f conn number ≡ Ok session)
    × Called f conn session number request outcome es f'
FrontStep f (Settle conn floor) es f' =
    (session : ℕ) × (settling f conn floor ≡ Ok session)
    × OneEntry f' es (Settled session floor) (settled_to f session floor)
FrontStep f (Bye conn) es f' =
    (session : ℕ) × (leaving f conn ≡ Ok session) × OneEntry f' es (Closed session) (closed_by f session)
FrontStep f (Cancel conn number) es f' =
    (session : ℕ) × (cancelling f conn number ≡ Ok session)
    × NoEntry f' es (cancelled_by f conn session number)
FrontStep f (Gone conn count) es f' = (count ≡ departing f conn) × NoEntry f' es (dropped f conn)
FrontStep f (Cut batch) es f' = (batch ≡ next_batch f) × NoEntry f' es (cut f)
FrontStep f (Post batch) es f' = IsOut f.out batch × NoEntry f' es (posted f batch)
FrontStep f (TakeMail conn mail) es f' =
    (mail ≡ slice_get (mails_on f.connections conn) 0) × NoEntry f' es (taken f conn)
FrontStep f (GiveMail conn mail) es f' = IsReportOrRefusal mail × NoEntry f' es (mailed f conn mail)

-- the entries of a step are legal one after the other, and lead to the state after it
pub record Leads (f : FrontState) (es : List Entry) (f' : FrontState) : Type 0 where
  pub legal : AreLegal f.service.state es
  pub state : f'.service.state ≡ after_all f.service.state es

-- the entries of each step lead so
abbrev pub StepsLead : Type 0
StepsLead = (f f' : FrontState) (event : Event) (es : List Entry) → IsFront f → IsWithinLimits f.service.state
    → FrontStep f event es f' → Leads f es f'

-- an event makes at most 2,049 entries: its own, and one for each request that waited
abbrev pub StepsAreFew : Type 0
StepsAreFew = (f f' : FrontState) (event : Event) (es : List Entry) → IsFront f → FrontStep f event es f'
    → length es ≤ most_event_entries
