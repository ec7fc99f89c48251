-- What a hold of a hall's lock did to the front, and why it did nothing. A hall is a front that many threads
-- share; a hold is one time that a thread has its lock, and makes at most one event (`docs/model.md`, "The
-- hall").
use Rattle.std.specs.Prelude.{◌≡◌, ◌⊎◌, ℕ, ◌≤◌, Bool, true, false, List, [], length, nat_lt, Option, Some}
use Rattle.std.specs.Prelude.{None}
use Rattle.fe_mail.specs.Connections.{mails_on}
use Rattle.fe_front.specs.Event as event
use Rattle.fe_front.specs.Front.{FrontState, is_connected}
use Rattle.fe_front.specs.Step.{FrontStep}
use Rattle.fe_state.specs.declared.batch.Batch.{Batch}
use Rattle.fe_state.specs.declared.entry.Entry.{Entry}
use Rattle.fe_front.specs.Posting.{IsOut}
use Rattle.fe_history.specs.Acts.{WasCut}
use Rattle.fe_history.specs.declared.act.Act.{Act}
use Rattle.fe_shared.specs.Marks.{SharedState}
use Rattle.fe_shared.specs.Seats.{most_connections, most_counted, posts_more}
use Rattle.fe_shared.specs.declared.shared.batches.CutOutcome.{CutOutcome}
use Rattle.fe_shared.specs.declared.shared.batches.CutOutcome.TheVariants as cutting
use Rattle.fe_shared.specs.declared.shared.batches.Unposted.{Unposted}
use Rattle.fe_shared.specs.declared.shared.batches.Unposted.TheVariants as unposted
use Rattle.fe_shared.specs.declared.taking.Taking.{Taking}
use Rattle.fe_shared.specs.declared.taking.Taking.TheVariants as taking
use Rattle.fe_shared.specs.declared.unconnected.Unconnected.{Unconnected}
use Rattle.fe_shared.specs.declared.unconnected.Unconnected.TheVariants as unconnected

-- The event of this hold was made. It neither stops the hall nor starts it again.
abbrev pub MakesEvent : SharedState → SharedState → Type 0
MakesEvent s t = (t.used ≡ true) × (t.stopped ≡ s.stopped)

-- A call that makes no event: the front is as it was, and the hall neither stopped nor started again.
abbrev pub MakesNoEvent : SharedState → SharedState → Type 0
MakesNoEvent s t = (t.front ≡ s.front) × (t.used ≡ s.used) × (t.stopped ≡ s.stopped)

-- the event of this hold was this one of the front, which made these entries
abbrev pub MakesStep : SharedState → event.Event → List Entry → SharedState → Type 0
MakesStep s e es t = FrontStep s.front e es t.front × MakesEvent s t

-- the event of this hold changed nothing of the front
abbrev pub MakesNothing : SharedState → SharedState → Type 0
MakesNothing s t = (t.front ≡ s.front) × MakesEvent s t

-- whether a mail is in a connection's box
abbrev pub has_mail : FrontState → ℕ → Bool
has_mail f conn = nat_lt 0 (length (mails_on f.connections conn))

-- Why a connection was not made: one with its number is connected, or all were made, or memory was short.
abbrev pub IsUnconnected : FrontState → ℕ → ℕ → Unconnected → Type 0
IsUnconnected f connections_made conn (unconnected.InUse in_use) = is_connected f conn ≡ true
IsUnconnected f connections_made conn (unconnected.NoMemory short) = is_connected f conn ≡ false
IsUnconnected f connections_made conn (unconnected.Spent all) =
    (is_connected f conn ≡ false) × (connections_made ≡ most_connections)

-- the connection is removed, with its box and what waits of its session
abbrev pub Leaves : SharedState → ℕ → SharedState → Type 0
Leaves s conn t = ((count : ℕ) × FrontStep s.front (event.Gone conn count) [] t.front) × MakesEvent s t

-- Why a write side whose box is empty ends. `None`: it does not, since a mail may come.
abbrev pub Ends : FrontState → Bool → ℕ → Option Taking → Type 0
Ends f stopped conn (Some (taking.Mail mail more)) = ⊥
Ends f stopped conn (Some taking.Gone) = is_connected f conn ≡ false
Ends f stopped conn (Some taking.Stopped) = (is_connected f conn ≡ true) × (stopped ≡ true)
Ends f stopped conn (Some taking.Spent) = most_counted ≤ f.books.taken
Ends f stopped conn None = (is_connected f conn ≡ true) × (stopped ≡ false)

-- A look into a connection's box took its first mail; or the box was empty, and this is why the write side
-- ends, if it does.
abbrev pub LooksInto : FrontState → Bool → ℕ → Option Taking → FrontState → Type 0
LooksInto f stopped conn (Some (taking.Mail mail more)) g =
    FrontStep f (event.TakeMail conn (Some mail)) [] g × (more ≡ has_mail g conn)
LooksInto f stopped conn taken g = FrontStep f (event.TakeMail conn None) [] g × Ends g stopped conn taken

-- the event of this hold was such a look
abbrev pub TakesMail : SharedState → ℕ → Option Taking → SharedState → Type 0
TakesMail s conn taken t = LooksInto s.front s.stopped conn taken t.front × MakesEvent s t

-- No more messages of a connection are handled: the hall is stopped, or it is not connected.
abbrev pub IsOver : FrontState → Bool → ℕ → Type 0
IsOver f stopped conn = (stopped ≡ true) ⊎ (is_connected f conn ≡ false)

-- A read side need not wait for the entries before this place: its connection is over, or they are durable
-- and its box is empty.
abbrev pub IsDrained : FrontState → Bool → ℕ → ℕ → Type 0
IsDrained f stopped conn place = IsOver f stopped conn ⊎ ((place ≤ f.durable) × (has_mail f conn ≡ false))

-- Why a batch was not posted: a book has no room for its mails, or it is not the batch that is out.
abbrev pub IsUnposted : FrontState → Batch → Unposted → Type 0
IsUnposted f batch (unposted.Full full) = posts_more f.books batch ≡ false
IsUnposted f batch (unposted.Strange strange) = (posts_more f.books batch ≡ true) × (¬ IsOut f.out batch)

-- A batch was cut; or none was, and the hall is stopped and all that was made is durable, so that nothing is
-- left to store; or another side cut batches, and nothing happens. `None`: no batch was cut, but one may be
-- later.
abbrev pub HandsOut : FrontState → Bool → Option CutOutcome → FrontState → Type 0
HandsOut f stopped (Some (cutting.Batch cut)) g = FrontStep f (event.Cut (Some cut.batch)) [] g
HandsOut f stopped (Some (cutting.Stopped all)) g =
    FrontStep f (event.Cut None) [] g × (stopped ≡ true) × (g.durable ≡ g.service.state.place)
HandsOut f stopped (Some (cutting.Strange uncut)) g = g ≡ f
HandsOut f stopped None g = FrontStep f (event.Cut None) [] g

-- the event of this hold was such a cut
abbrev pub Cuts : SharedState → Option CutOutcome → SharedState → Type 0
Cuts s cutting t = HandsOut s.front s.stopped cutting t.front × MakesEvent s t

-- this history has the cut of the batch, if one was cut, after as many others as its count says
abbrev pub IsCutIn : CutOutcome → List Act → Type 0
IsCutIn (cutting.Batch cut) acts = WasCut acts cut.count cut.batch
IsCutIn _ acts = Unit {0}
