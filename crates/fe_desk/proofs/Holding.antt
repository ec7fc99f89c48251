-- What holds of a standing whose answers stand, and that it stays where mails are written, all of them or some.
use Rattle.std.proofs.Common.{◌≡◌, inl, inr, ℕ, zero, suc, ◌+◌, Bool, true, false, List, [], ◌∷◌, ◌++◌, append-nil, length, Option, Some, None, refl, sym, ap, subst, ◌∙◌}
use Rattle.std.specs.Prelude.{is_some, if◌then◌else◌, IfSome}
use Rattle.std.specs.List.{AllByRecursion}
use Rattle.std.specs.Option.{option_map_or}
use Rattle.std.proofs.lemmas.List.Concat.{flat_map-append}
use Rattle.fe_state.specs.State.{ServerState, after_all}
use Rattle.fe_state.specs.declared.entry.Entry.{Entry}
use Rattle.fe_mail.specs.Connections.{mails_on}
use Rattle.fe_mail.specs.declared.mail.Mail.{Mail}
use Rattle.fe_wire.specs.Spelling.{reply_spelling}
use Rattle.fe_wire.specs.declared.server_message.ServerMessage.{ServerMessage}
use Rattle.fe_front.specs.Front.{FrontState}
use Rattle.fe_front.specs.Steps as front
use Rattle.fe_messages.specs.Answers.{AreAnswered}
use Rattle.fe_messages.specs.Taking.{HasOnly}
use Rattle.fe_messages.specs.Mails.{reply_of, spelled}
use Rattle.fe_messages.proofs.Boxes.{AllIn, all_append, boxes-taken}
use Rattle.fe_messages.proofs.AttachmentLaws.{Loses, itself as loses_nothing, taken_loses, has_lost, both_lose}
use Rattle.fe_desk.specs.declared.handed.Handed.{Handed}
use Rattle.fe_desk.specs.declared.handed.Handed.TheVariants.{Nothing, Cut, Stored}
use Rattle.fe_desk.specs.DeskRunState.{taken_times, emptied_box, Client, DeskRunState, written_out, all_written_out, all_emptied, emptied, discharged}
use Rattle.fe_desk.specs.Acknowledged.{StandsOn, IsOnItsWay, AsksFor, entries_of, cut_entries, made_entries}
use Rattle.fe_desk.specs.Ends.{StopsWriting, WritesSome}
use Rattle.fe_desk.proofs.Emptying.{all_emptied-keeps, both}
use Rattle.fe_desk.proofs.Writing.{stops_keeps}
use Rattle.fe_desk.proofs.Messaging.{MayAsk, StandsTo}

-- ---- what holds

-- what was written is the spelling of mails that are on the groups, and so does that of a reply that waits
pub record TellsCall (begun : ServerState) (groups : List (List Entry)) (mine : ℕ → Bool) (reply : Option ServerMessage) (written : List ℕ) : Type 0 where
  pub waits : IfSome reply (λ r. (m : Mail) × (r ≡ reply_of m) × StandsOn begun groups mine m)
  pub mails : List Mail
  pub stand : AllByRecursion (StandsOn begun groups mine) mails
  pub spelling : written ≡ spelled mails

-- so is it for each client, and the messages that are left of it ask for no other session
abbrev pub Tells : ServerState → List (List Entry) → (ℕ → ℕ → Bool) → Client → Type 0
Tells begun groups asked c = TellsCall begun groups (asked c.conn) c.reply c.written × AllByRecursion (AsksFor (asked c.conn)) c.left

abbrev pub AllTell : ServerState → List (List Entry) → (ℕ → ℕ → Bool) → List Client → Type 0
AllTell begun groups asked clients = AllByRecursion (Tells begun groups asked) clients

pub record Holds (begun : ServerState) (asked : ℕ → ℕ → Bool) (f : FrontState) (clients : List Client) (handed : Handed) (groups : List (List Entry)) : Type 0 where
  pub state : f.service.state ≡ after_all begun (made_entries groups handed f)
  pub answered : AreAnswered begun (made_entries groups handed f)
  pub way : IsOnItsWay begun groups f handed
  pub boxes : AllIn (λ conn. StandsOn begun groups (asked conn)) f.connections
  pub tell : AllTell begun groups asked clients
  pub has : HasOnly (MayAsk asked) f

abbrev pub HoldsAt : ServerState → (ℕ → ℕ → Bool) → DeskRunState → Type 0
HoldsAt begun asked s = Holds begun asked s.front s.clients s.handed s.groups

-- ---- what is let go

-- mails that are taken let no session go
pub times_lose : (n : ℕ) (f : FrontState) (conn : ℕ) → Loses f (taken_times n f conn)
times_lose zero f conn = loses_nothing f
times_lose (suc n) f conn = both_lose f (front.taken f conn) (taken_times n (front.taken f conn) conn) (taken_loses f conn) (times_lose n (front.taken f conn) conn)

pub all_emptied_loses : (f : FrontState) (cs : List Client) → Loses f (all_emptied f cs)
all_emptied_loses f [] = loses_nothing f
all_emptied_loses f (c ∷ cs) =
    both_lose f (emptied_box f c.conn) (all_emptied (emptied_box f c.conn) cs) (times_lose (length (mails_on f.connections c.conn)) f c.conn) (all_emptied_loses (emptied_box f c.conn) cs)

-- ---- what stays

-- the state, what is pending, what is out and the mark are the same
pub record Remains (f g : FrontState) : Type 0 where
  pub state : g.service.state ≡ f.service.state
  pub pending : g.service.pending ≡ f.service.pending
  pub out : g.out ≡ f.out
  pub durable : g.durable ≡ f.durable

pub way_remains : (begun : ServerState) (groups : List (List Entry)) (f g : FrontState) (handed : Handed) → g.out ≡ f.out → g.durable ≡ f.durable → IsOnItsWay begun groups f handed → IsOnItsWay begun groups g handed
way_remains begun groups f g Nothing out durable way = durable ∙ way
way_remains begun groups f g (Cut batch) out durable way = (durable ∙ way.0, ap is_some out ∙ way.1, way.2 ∙ sym durable)
way_remains begun groups f g (Stored batch) out durable way =
    (record { before = way.0.before; groups_are = way.0.groups_are; first = way.0.first ∙ sym durable; mark = durable ∙ way.0.mark }, ap is_some out ∙ way.1)

pub remains_hold : (begun : ServerState) (asked : ℕ → ℕ → Bool) (f g : FrontState) (cs ds : List Client) (handed : Handed) (groups : List (List Entry)) → Remains f g → Loses f g → AllIn (StandsTo begun groups asked) g.connections
    → AllTell begun groups asked ds → Holds begun asked f cs handed groups → Holds begun asked g ds handed groups
remains_hold begun asked f g cs ds handed groups same loses boxes tell h =
    let pending : made_entries groups handed f ≡ made_entries groups handed g = ap (λ (es : List Entry). entries_of groups ++ (cut_entries handed ++ es)) (sym same.pending) in
    record {
      state = same.state ∙ h.state ∙ ap (λ (es : List Entry). after_all begun es) pending;
      answered = subst (λ (es : List Entry). AreAnswered begun es) pending h.answered;
      way = way_remains begun groups f g handed same.out same.durable h.way;
      boxes = boxes;
      tell = tell;
      has = has_lost (MayAsk asked) f g loses h.has;
    }

-- ---- mails are written

-- a reply that waits is the spelling of mails
waiting : (P : Mail → Type 0) (o : Option ServerMessage) → IfSome o (λ r. (m : Mail) × (r ≡ reply_of m) × P m) → (ms : List Mail) × AllByRecursion P ms × (option_map_or reply_spelling o [] ≡ spelled ms)
waiting P None waits = ([], tt, refl)
waiting P (Some r) (m, is, stands) =
    let some : AllByRecursion P (m ∷ []) = (stands, tt) in
    (m ∷ [], some, ap reply_spelling is ∙ sym (append-nil (reply_spelling (reply_of m))))

pub first_of : {X : Type 0} (P : X → Type 0) (xs ys : List X) → AllByRecursion P (xs ++ ys) → AllByRecursion P xs × AllByRecursion P ys
first_of P [] ys all = (tt, all)
first_of P (x ∷ xs) ys all = let rest = first_of P xs ys all.1 in ((all.0, rest.0), rest.1)

module _ (begun : ServerState) (groups : List (List Entry)) (asked : ℕ → ℕ → Bool) where
  abbrev Stand : FrontState → Type 0
  Stand f = AllIn (StandsTo begun groups asked) f.connections

  pub times_stand : (n : ℕ) (f : FrontState) (conn : ℕ) → Stand f → Stand (taken_times n f conn)
  times_stand zero f conn all = all
  times_stand (suc n) f conn all = times_stand n (front.taken f conn) conn (boxes-taken (StandsTo begun groups asked) f conn all)

  box_stands : (f : FrontState) (conn : ℕ) → Stand f → Stand (emptied_box f conn)
  box_stands f conn all = times_stand (length (mails_on f.connections conn)) f conn all

  all_stand : (f : FrontState) (cs : List Client) → Stand f → Stand (all_emptied f cs)
  all_stand f [] all = all
  all_stand f (c ∷ cs) all = all_stand (emptied_box f c.conn) cs (box_stands f c.conn all)

  -- the reply that waits of a client is written, and then mails
  tells_more : (c : Client) (first : List Mail) → AllByRecursion (StandsTo begun groups asked c.conn) first → TellsCall begun groups (asked c.conn) c.reply c.written
      → (ms : List Mail) × AllByRecursion (StandsTo begun groups asked c.conn) ms × (c.written ++ (option_map_or reply_spelling c.reply [] ++ spelled first) ≡ spelled ms)
  tells_more c first all t =
      let P : Mail → Type 0 = StandsTo begun groups asked c.conn in
      let w = waiting P c.reply t.waits in
      let bytes : (xs ys : List Mail) → spelled xs ++ spelled ys ≡ spelled (xs ++ ys) = λ xs ys. sym (flat_map-append (λ (m : Mail). reply_spelling (reply_of m)) xs ys) in (
        t.mails ++ (w.0 ++ first),
        all_append P t.mails (w.0 ++ first) t.stand (all_append P w.0 first w.1 all),
        ap (λ (bs : List ℕ). c.written ++ (bs ++ spelled first)) w.2 ∙ ap (λ (bs : List ℕ). c.written ++ bs) (bytes w.0 first)
            ∙ ap (λ (bs : List ℕ). bs ++ spelled (w.0 ++ first)) t.spelling ∙ bytes t.mails (w.0 ++ first),
      )

  written_out_tells : (f : FrontState) (c : Client) → Stand f → Tells begun groups asked c → Tells begun groups asked (written_out f c)
  written_out_tells f c all t =
      let more = tells_more c (mails_on f.connections c.conn) (all c.conn) t.0 in
      (record { waits = tt; mails = more.0; stand = more.1; spelling = more.2 }, t.1)

  all_tell : (f : FrontState) (cs : List Client) → Stand f → AllTell begun groups asked cs → AllTell begun groups asked (all_written_out f cs)
  all_tell f [] all tell = tt
  all_tell f (c ∷ cs) all tell = (written_out_tells f c all tell.0, all_tell (emptied_box f c.conn) cs (box_stands f c.conn all) tell.1)

  -- some of them are
  all_split : (cs ds : List Client) → AllTell begun groups asked (cs ++ ds) → AllTell begun groups asked cs × AllTell begun groups asked ds
  all_split [] ds all = (tt, all)
  all_split (c ∷ cs) ds all = let rest = all_split cs ds all.1 in ((all.0, rest.0), rest.1)

  -- what is left of a client of whose mails some are written
  record Stops (f g : FrontState) (d : Client) : Type 0 where
    loses : Loses f g
    stand : Stand g
    tells : Tells begun groups asked d

  stops_holds : (f : FrontState) (c : Client) (g : FrontState) (d : Client) → StopsWriting f c g d → Stand f → Tells begun groups asked c → Stops f g d
  stops_holds f c g d (inl still) all tell =
      let front = sym still.1 in
      record {
        loses = subst (λ (x : FrontState). Loses f x) front (times_lose 0 f c.conn);
        stand = subst (λ (x : FrontState). Stand x) front all;
        tells = subst (λ (x : Client). Tells begun groups asked x) (sym still.2) tell;
      }
  stops_holds f c g d (inr at) all tell =
      let n : ℕ = length at.first + 1 in
      let front = sym at.front in
      let P : Mail → Type 0 = StandsTo begun groups asked c.conn in
      let box = first_of P at.first (at.next ∷ at.rest) (subst (λ (ms : List Mail). AllByRecursion P ms) at.box (all c.conn)) in
      let more = tells_more c at.first box.0 tell.0 in
      let here : Tells begun groups asked (record c { reply = Some (reply_of at.next); written = c.written ++ (option_map_or reply_spelling c.reply [] ++ spelled at.first) }) =
      (record { waits = (at.next, refl, box.1.0); mails = more.0; stand = more.1; spelling = more.2 }, tell.1) in
      record {
        loses = subst (λ (x : FrontState). Loses f x) front (times_lose n f c.conn);
        stand = subst (λ (x : FrontState). Stand x) front (times_stand n f c.conn all);
        tells = subst (λ (x : Client). Tells begun groups asked x) (sym at.client) here;
      }

pub emptied_holds : (begun : ServerState) (asked : ℕ → ℕ → Bool) (s : DeskRunState) → HoldsAt begun asked s → HoldsAt begun asked (emptied s)
emptied_holds begun asked s h =
    let keeps = all_emptied-keeps s.front s.clients in
    remains_hold begun asked s.front (all_emptied s.front s.clients) s.clients (all_written_out s.front s.clients) s.handed s.groups
    (record { state = keeps.state; pending = keeps.pending; out = keeps.out; durable = keeps.durable }) (all_emptied_loses s.front s.clients)
    (all_stand begun s.groups asked s.front s.clients h.boxes) (all_tell begun s.groups asked s.front s.clients h.boxes h.tell) h

pub some_holds : (begun : ServerState) (asked : ℕ → ℕ → Bool) (s t : DeskRunState) → WritesSome s t → HoldsAt begun asked s → HoldsAt begun asked t
some_holds begun asked s t some h =
    let w = some.writes in
    let f : FrontState = all_emptied s.front w.before in
    let tells = all_split begun s.groups asked w.before (w.client ∷ w.behind) (subst (λ (cs : List Client). AllTell begun s.groups asked cs) w.all h.tell) in
    let keeps = both s.front f some.front (all_emptied-keeps s.front w.before) (stops_keeps f w.client some.front w.last w.stops) in
    let stops = stops_holds begun s.groups asked f w.client some.front w.last w.stops (all_stand begun s.groups asked s.front w.before h.boxes) tells.1.0 in
    let written_out : AllTell begun s.groups asked (all_written_out s.front w.before ++ w.last ∷ w.behind) =
    all_append (Tells begun s.groups asked) (all_written_out s.front w.before) (w.last ∷ w.behind) (all_tell begun s.groups asked s.front w.before h.boxes tells.0) (stops.tells, tells.1.1) in
    subst (λ (x : DeskRunState). HoldsAt begun asked x) (sym some.after)
    (remains_hold begun asked s.front some.front s.clients some.clients s.handed s.groups
    (record { state = keeps.state; pending = keeps.pending; out = keeps.out; durable = keeps.durable })
    (both_lose s.front f some.front (all_emptied_loses s.front w.before) stops.loses)
    stops.stand (subst (λ (cs : List Client). AllTell begun s.groups asked cs) (sym w.now) written_out) h)

pub discharged_holds : (begun : ServerState) (asked : ℕ → ℕ → Bool) (s : DeskRunState) → HoldsAt begun asked s → HoldsAt begun asked (discharged s)
discharged_holds begun asked s h = by s.owes
  where
    by : (b : Bool) → HoldsAt begun asked (if b then emptied s else s)
    by true = emptied_holds begun asked s h
    by false = h
