-- At every point of a run, the mails in boxes and those that were written are on the groups that were stored.
use Rattle.std.proofs.Common.{◌≡◌, inl, inr, ℕ, ◌+◌, ◌≤◌, Bool, true, false, true≢false, List, [], ◌∷◌, ◌++◌, append-nil, append_assoc, length, Option, Some, None, refl, sym, ap, subst, ◌∙◌, arith}
use Rattle.std.proofs.lemmas.List.Elements.{Contains-append_left}
use Rattle.std.specs.Prelude.{Contains, nat_eq, is_some, if◌then◌else◌, ◌||◌, MatchBool, IfSome}
use Rattle.std.specs.List.{AllByRecursion}
use Rattle.std.specs.Option.{option_map, option_map_or}
use Rattle.std.specs.Ordering.{nat_cmp}
use Rattle.std.specs.FinMap.{FinMap, get, get-empty}
use Rattle.std.proofs.lemmas.List.{flat_map_more, length-append}
use Rattle.std.proofs.lemmas.List.Concat.{flat_map-append}
use Rattle.fe_state.specs.Sessions.{kept_in}
use Rattle.fe_state.specs.State.{ServerState, after_all}
use Rattle.fe_state.specs.declared.batch.Batch.{Batch}
use Rattle.fe_state.specs.declared.entry.Entry.{Entry}
use Rattle.fe_state.specs.declared.entry.Entry.TheVariants.{Attached, Closed, Settled}
use Rattle.fe_state.proofs.Histories.{after-append}
use Rattle.fe_mail.specs.Connections.{mails_on}
use Rattle.fe_mail.specs.declared.connection.Connection.{Connection}
use Rattle.fe_mail.specs.declared.mail.Mail.{Mail}
use Rattle.fe_mail.specs.declared.mail.Mail.TheVariants as mail
use Rattle.fe_wire.specs.Stream.{Decoding}
use Rattle.fe_wire.specs.declared.client_message.ClientMessage.{ClientMessage}
use Rattle.fe_wire.specs.declared.server_message.ServerMessage.{ServerMessage}
use Rattle.fe_front.specs.Front.{FrontState, has_room, is_connected}
use Rattle.fe_front.specs.Steps as front
use Rattle.fe_front.specs.Steps.{has_no_cut}
use Rattle.fe_front.specs.Posting as posting
use Rattle.fe_front.proofs.Keeping.{posted_all-keeps, dropped-keeps}
use Rattle.fe_messages.specs.Answers.{IsFinishedAt, AreAnswered}
use Rattle.fe_messages.specs.Taking.{HasOnly}
use Rattle.fe_messages.specs.Mails.{reply_of}
use Rattle.fe_messages.proofs.Answers.{KeepsBelow, answered-append, answered-split, finished_more, kept_stands}
use Rattle.fe_messages.proofs.Boxes.{AllIn, all_append, all_weaker, boxes-connected, boxes-dropped, boxes-posted_all}
use Rattle.fe_messages.proofs.AttachmentLaws.{has_lost, connected_loses, dropped_loses, posted_loses, posted_entry_loses, message_has, first_has, none_some, some_same}
use Rattle.fe_desk.specs.declared.handed.Handed.{Handed}
use Rattle.fe_desk.specs.declared.handed.Handed.TheVariants.{Nothing, Cut, Stored}
use Rattle.fe_desk.specs.declared.step.Step.{Step}
use Rattle.fe_desk.specs.declared.step.Step.TheVariants as step
use Rattle.fe_desk.specs.DeskRunState.{Client, DeskRunState, IsFirstRunState, cut, stored, stored_from, posted, posted_from, cleared}
use Rattle.fe_desk.specs.Room.{MayBegin, StopsMaking, begun_room, is_making, made, roomy, with_room}
use Rattle.fe_desk.proofs.Reading.{committed}
use Rattle.fe_desk.specs.Steps.{find, on_client, new_client, clients_with, with_left, with_decoder, Connects, gone, after_frame, TakesPiece, TakesFrom, TakesBytes, Reads, Acts, TakesOne, TakesAll}
use Rattle.fe_desk.specs.Acknowledged.{StandsOn, IsLast, IsOnItsWay, AsksFor, entries_of, cut_entries, made_entries}
use Rattle.fe_desk.specs.Ends.{TakesFirst, StopsBefore, StopsUnread, StopsBehind}
use Rattle.fe_desk.specs.Messages.{left_of, read_by}
use Rattle.fe_desk.proofs.Emptying.{same_number}
use Rattle.fe_desk.proofs.Answered.{posts_stand}
use Rattle.fe_messages.proofs.Entering.{Leaves, message_leaves}
use Rattle.fe_desk.proofs.Messaging.{MayAsk, KeptStand, StandsTo, message_answered, message_stands}
use Rattle.fe_desk.proofs.Holding.{Tells, AllTell, Holds, HoldsAt, Remains, times_lose, way_remains, remains_hold, first_of}

-- ---- a batch is cut

-- a batch that is on its way is out
out_there : (begun : ServerState) (groups : List (List Entry)) (f : FrontState) (handed : Handed) → IsOnItsWay begun groups f handed → is_some f.out ≡ false → handed ≡ Nothing
out_there begun groups f Nothing way none = refl
out_there begun groups f (Cut batch) way none = absurd (true≢false (sym way.1 ∙ none))
out_there begun groups f (Stored batch) way none = absurd (true≢false (sym way.1 ∙ none))

none_out : (a b : Bool) → (a || b) ≡ false → a ≡ false
none_out true b e = e
none_out false b e = refl

-- the front where all that is pending is cut
abbrev handed_out : FrontState → FrontState
handed_out f = record f { service = record f.service { pending = [] }; out = Some (record { first = f.durable; length = length f.service.pending }) }

cut_holds : (begun : ServerState) (asked : ℕ → ℕ → Bool) (s : DeskRunState) → HoldsAt begun asked s → HoldsAt begun asked (cut s)
cut_holds begun asked s h = by (has_no_cut s.front) refl
  where
    f : FrontState
    f = s.front

    batch : Batch
    batch = record { first = f.durable; entries = f.service.pending }

    from_nothing : Holds begun asked f s.clients Nothing s.groups → Holds begun asked (handed_out f) s.clients (Cut batch) s.groups
    from_nothing n =
        let same : made_entries s.groups Nothing f ≡ made_entries s.groups (Cut batch) (handed_out f) = ap (λ (es : List Entry). entries_of s.groups ++ es) (sym (append-nil f.service.pending)) in
        record {
          state = n.state ∙ ap (λ (es : List Entry). after_all begun es) same;
          answered = subst (λ (es : List Entry). AreAnswered begun es) same n.answered;
          way = (n.way, refl, refl);
          boxes = n.boxes;
          tell = n.tell;
          has = record { holders = n.has.holders; sessions = n.has.sessions };
        }

    by : (b : Bool) → has_no_cut f ≡ b → Holds begun asked (if b then f else handed_out f) s.clients (option_map_or Cut (if b then None else Some batch) s.handed) s.groups
    by true is = h
    by false is =
        from_nothing (subst (λ (x : Handed). Holds begun asked f s.clients x s.groups) (out_there begun s.groups f s.handed h.way (none_out (is_some f.out) (nat_eq (length f.service.pending) 0) is)) h)

-- ---- it is stored

more_entries : (groups : List (List Entry)) (group rest : List Entry) → entries_of (groups ++ group ∷ []) ++ rest ≡ entries_of groups ++ (group ++ rest)
more_entries groups group rest = ap (λ (es : List Entry). es ++ rest) (sym (flat_map_more (λ (g : List Entry). g) [] groups group)) ∙ append_assoc (entries_of groups) group rest

pub entries-append : (front groups : List (List Entry)) → entries_of (front ++ groups) ≡ entries_of front ++ entries_of groups
entries-append front groups = flat_map-append (λ (g : List Entry). g) front groups

-- it stands where more groups come after
pub stands_behind : (begun : ServerState) (groups more : List (List Entry)) (mine : ℕ → Bool) (m : Mail) → StandsOn begun groups mine m → StandsOn begun (groups ++ more) mine m
stands_behind begun groups more mine m is = by m is
  where
    here : (e : Entry) → Contains (entries_of groups) e → Contains (entries_of (groups ++ more)) e
    here e is = subst (λ (es : List Entry). Contains es e) (sym (entries-append groups more)) (Contains-append_left (entries_of groups) (entries_of more) e is)

    by : (m : Mail) → StandsOn begun groups mine m → StandsOn begun (groups ++ more) mine m
    by (mail.Welcome session floor) (may, is) = (may, here (Attached session floor) is)
    by (mail.Refused number refusal) is = tt
    by (mail.Withdrawn number) is = tt
    by (mail.Settled floor) (session, may, is) = (session, may, here (Settled session floor) is)
    by (mail.Goodbye session) (may, is) = (may, here (Closed session) is)
    by (mail.Report text) is = tt
    by (mail.Answer session number answer place) (may, inl kept) = (may, inl kept)
    by (mail.Answer session number answer place) (may, inr is) = (
      may,
      inr (subst (λ (es : List Entry). IsFinishedAt begun es session number answer place) (sym (entries-append groups more))
          (finished_more begun (entries_of groups) (entries_of more) session number answer place is)),
    )

tells_behind : (begun : ServerState) (asked : ℕ → ℕ → Bool) (groups more : List (List Entry)) (c : Client) → Tells begun groups asked c → Tells begun (groups ++ more) asked c
tells_behind begun asked groups more c t = (
  record {
    waits = later c.reply t.0.waits;
    mails = t.0.mails;
    stand = all_weaker (StandsTo begun groups asked c.conn) (StandsTo begun (groups ++ more) asked c.conn) (stands_behind begun groups more (asked c.conn)) t.0.mails t.0.stand;
    spelling = t.0.spelling;
  },
  t.1,
)
  where
    later : (o : Option ServerMessage) → IfSome o (λ r. (m : Mail) × (r ≡ reply_of m) × StandsTo begun groups asked c.conn m) → IfSome o (λ r. (m : Mail) × (r ≡ reply_of m) × StandsTo begun (groups ++ more) asked c.conn m)
    later None waits = tt
    later (Some r) (m, is, stands) = (m, is, stands_behind begun groups more (asked c.conn) m stands)

stored_holds : (begun : ServerState) (asked : ℕ → ℕ → Bool) (s : DeskRunState) → HoldsAt begun asked s → HoldsAt begun asked (stored s)
stored_holds begun asked s h = by s.handed h
  where
    by : (x : Handed) → Holds begun asked s.front s.clients x s.groups → HoldsAt begun asked (stored_from x (record s { handed = x }))
    by Nothing n = n
    by (Stored batch) n = n
    by (Cut batch) n =
        let pending : List Entry = s.front.service.pending in
        let same : made_entries s.groups (Cut batch) s.front ≡ made_entries (s.groups ++ batch.entries ∷ []) (Stored batch) s.front = sym (more_entries s.groups batch.entries pending) in
        record {
          state = n.state ∙ ap (λ (es : List Entry). after_all begun es) same;
          answered = subst (λ (es : List Entry). AreAnswered begun es) same n.answered;
          way = (record { before = s.groups; groups_are = refl; first = n.way.2; mark = n.way.0 }, n.way.1);
          boxes =
              λ conn. all_weaker (StandsTo begun s.groups asked conn) (StandsTo begun (s.groups ++ batch.entries ∷ []) asked conn) (stands_behind begun s.groups (batch.entries ∷ []) (asked conn)) (mails_on s.front.connections conn) (n.boxes conn);
          tell = all_weaker (Tells begun s.groups asked) (Tells begun (s.groups ++ batch.entries ∷ []) asked) (tells_behind begun asked s.groups (batch.entries ∷ [])) s.clients n.tell;
          has = n.has;
        }

-- ---- it is posted

-- the mark after a batch that is posted
mark_moves : (begun : ServerState) (groups : List (List Entry)) (f : FrontState) (batch : Batch) → IsLast begun groups f.durable batch → batch.first + length batch.entries ≡ begun.place + length (entries_of groups)
mark_moves begun groups f batch last =
    let whole : length (entries_of groups) ≡ length (entries_of last.before) + length batch.entries =
    ap (λ (gs : List (List Entry)). length (entries_of gs)) last.groups_are ∙ ap (λ (es : List Entry). length es) (sym (flat_map_more (λ (g : List Entry). g) [] last.before batch.entries))
    ∙ length-append (entries_of last.before) batch.entries in
    omega (arith, whole, last.first, last.mark)

-- the entries of the groups that end with it
ends_with : (begun : ServerState) (groups : List (List Entry)) (f : FrontState) (batch : Batch) → (last : IsLast begun groups f.durable batch) → entries_of groups ≡ entries_of last.before ++ (batch.entries ++ [])
ends_with begun groups f batch last =
    ap (λ (gs : List (List Entry)). entries_of gs) last.groups_are ∙ sym (flat_map_more (λ (g : List Entry). g) [] last.before batch.entries)
    ∙ ap (λ (es : List Entry). entries_of last.before ++ es) (sym (append-nil batch.entries))

posted_front : (begun : ServerState) (asked : ℕ → ℕ → Bool) (f : FrontState) (cs : List Client) (batch : Batch) (groups : List (List Entry)) → Holds begun asked f cs (Stored batch) groups → Holds begun asked (posting.posted f batch) cs Nothing groups
posted_front begun asked f cs batch groups h =
    let last = h.way.0 in
    let g : FrontState = posting.posted f batch in
    let keeps = posted_all-keeps f batch.entries batch.first in
    let same : made_entries groups (Stored batch) f ≡ made_entries groups Nothing g = ap (λ (es : List Entry). entries_of groups ++ es) (sym keeps.pending) in
    let answered : AreAnswered begun (entries_of groups) = (answered-split begun (entries_of groups) f.service.pending h.answered).0 in
    record {
      state = keeps.state ∙ h.state ∙ ap (λ (es : List Entry). after_all begun es) same;
      answered = subst (λ (es : List Entry). AreAnswered begun es) same h.answered;
      way = mark_moves begun groups f batch last;
      boxes = boxes-posted_all (StandsTo begun groups asked) (λ conn session. asked conn session ≡ true) (HasOnly (MayAsk asked)) (λ f has. λ session conn is. has.holders session conn is)
          (λ f e place has. has_lost (MayAsk asked) f (posting.posted_entry f e place) (posted_entry_loses f e place) has) f batch.entries batch.first
          (posts_stand begun asked groups (entries_of last.before) batch.entries [] batch.first answered (ends_with begun groups f batch last) (last.first ∙ last.mark)) h.has h.boxes;
      tell = h.tell;
      has = has_lost (MayAsk asked) f g (posted_loses f batch) h.has;
    }

posted_holds : (begun : ServerState) (asked : ℕ → ℕ → Bool) (s : DeskRunState) → HoldsAt begun asked s → HoldsAt begun asked (posted s)
posted_holds begun asked s h = by s.handed h
  where
    by : (x : Handed) → Holds begun asked s.front s.clients x s.groups → HoldsAt begun asked (posted_from x (record s { handed = x }))
    by Nothing n = n
    by (Cut batch) n = n
    by (Stored batch) n = posted_front begun asked s.front s.clients batch s.groups n

-- ---- room is made

cleared_holds : (begun : ServerState) (asked : ℕ → ℕ → Bool) (s : DeskRunState) → HoldsAt begun asked s → HoldsAt begun asked (cleared s)
cleared_holds begun asked s h = posted_holds begun asked (stored s) (stored_holds begun asked s h)

committed_holds : (begun : ServerState) (asked : ℕ → ℕ → Bool) (s : DeskRunState) → HoldsAt begun asked s → HoldsAt begun asked (committed s)
committed_holds begun asked s h = cleared_holds begun asked (cut s) (cut_holds begun asked s h)

with_room_holds : (begun : ServerState) (asked : ℕ → ℕ → Bool) (s : DeskRunState) → HoldsAt begun asked s → HoldsAt begun asked (with_room s)
with_room_holds begun asked s h = by (has_room s.front)
  where
    by : (b : Bool) → HoldsAt begun asked (if b then s else made (committed (cleared s)))
    by true = h
    by false = committed_holds begun asked (cleared s) (cleared_holds begun asked s h)

begun_room_holds : (begun : ServerState) (asked : ℕ → ℕ → Bool) (s : DeskRunState) (conn : ℕ) → HoldsAt begun asked s → HoldsAt begun asked (begun_room s conn)
begun_room_holds begun asked s conn h = by (is_making s conn)
  where
    by : (b : Bool) → HoldsAt begun asked (if b then made (cleared s) else s)
    by true = cleared_holds begun asked s h
    by false = h

roomy_holds : (begun : ServerState) (asked : ℕ → ℕ → Bool) (s : DeskRunState) (conn : ℕ) → HoldsAt begun asked s → HoldsAt begun asked (roomy s conn)
roomy_holds begun asked s conn h = with_room_holds begun asked (begun_room s conn) (begun_room_holds begun asked s conn h)

-- ---- clients change

changed_tell : (begun : ServerState) (asked : ℕ → ℕ → Bool) (groups : List (List Entry)) (conn : ℕ) (change : Client → Client)
    → ((c : Client) → c.conn ≡ conn → Tells begun groups asked c → Tells begun groups asked (change c)) → (cs : List Client) → AllTell begun groups asked cs → AllTell begun groups asked (on_client conn change cs)
changed_tell begun asked groups conn change keeps [] tell = tt
changed_tell begun asked groups conn change keeps (c ∷ cs) tell = by (nat_eq c.conn conn) refl (changed_tell begun asked groups conn change keeps cs tell.1)
  where
    by : (b : Bool) → nat_eq c.conn conn ≡ b → AllTell begun groups asked (on_client conn change cs) → AllTell begun groups asked (if b then change c ∷ cs else c ∷ on_client conn change cs)
    by true same rest = (keeps c (same_number c.conn conn same) tell.0, tell.1)
    by false other rest = (tell.0, rest)

-- what is true of each client is true of the one that is found
found_one : (P : Client → Type 0) (conn : ℕ) (cs : List Client) (c : Client) → find conn cs ≡ Some c → AllByRecursion P cs → (c.conn ≡ conn) × P c
found_one P conn [] c is all = none_some is
found_one P conn (x ∷ xs) c is all = by (nat_eq x.conn conn) refl is (λ (e : find conn xs ≡ Some c). found_one P conn xs c e all.1)
  where
    by : (b : Bool) → nat_eq x.conn conn ≡ b → (if b then Some x else find conn xs) ≡ Some c → (find conn xs ≡ Some c → (c.conn ≡ conn) × P c) → (c.conn ≡ conn) × P c
    by true same e rest = subst (λ (y : Client). (y.conn ≡ conn) × P y) (some_same e) (same_number x.conn conn same, all.0)
    by false other e rest = rest e

-- the messages that are left of a connection ask for its sessions alone
left_asks : (begun : ServerState) (asked : ℕ → ℕ → Bool) (groups : List (List Entry)) (s : DeskRunState) (conn : ℕ) → AllTell begun groups asked s.clients → AllByRecursion (AsksFor (asked conn)) (left_of s conn)
left_asks begun asked groups s conn tell = by (find conn s.clients) refl
  where
    by : (o : Option Client) → find conn s.clients ≡ o → AllByRecursion (AsksFor (asked conn)) (option_map_or (λ (c : Client). c.left) o [])
    by None is = tt
    by (Some c) is =
        let here = found_one (Tells begun groups asked) conn s.clients c is tell in
        subst (λ (n : ℕ). AllByRecursion (AsksFor (asked n)) c.left) here.0 here.1.1

same_front : (f : FrontState) → Remains f f
same_front f = record { state = refl; pending = refl; out = refl; durable = refl }

with_left_holds : (begun : ServerState) (asked : ℕ → ℕ → Bool) (s : DeskRunState) (conn : ℕ) (left : List ClientMessage) → AllByRecursion (AsksFor (asked conn)) left → HoldsAt begun asked s → HoldsAt begun asked (with_left s conn left)
with_left_holds begun asked s conn left asks h =
    remains_hold begun asked s.front s.front s.clients (with_left s conn left).clients s.handed s.groups (same_front s.front) (times_lose 0 s.front conn) h.boxes
    (changed_tell begun asked s.groups conn (λ c. record c { left = left }) (λ c is t. (t.0, subst (λ (n : ℕ). AllByRecursion (AsksFor (asked n)) left) (sym is) asks)) s.clients h.tell) h

with_decoder_holds : (begun : ServerState) (asked : ℕ → ℕ → Bool) (s : DeskRunState) (conn : ℕ) (d : Decoding) → HoldsAt begun asked s → HoldsAt begun asked (with_decoder s conn d)
with_decoder_holds begun asked s conn d h =
    remains_hold begun asked s.front s.front s.clients (with_decoder s conn d).clients s.handed s.groups (same_front s.front) (times_lose 0 s.front conn) h.boxes
    (changed_tell begun asked s.groups conn (λ c. record c { decoder = d }) (λ c is t. (t.0, t.1)) s.clients h.tell) h

clients_with_tell : (begun : ServerState) (asked : ℕ → ℕ → Bool) (groups : List (List Entry)) (cs : List Client) (conn : ℕ) (d : Decoding) → AllTell begun groups asked cs → AllTell begun groups asked (clients_with cs conn d)
clients_with_tell begun asked groups cs conn d tell = by (is_some (find conn cs))
  where
    first : Tells begun groups asked (new_client conn d)
    first = (record { waits = tt; mails = []; stand = tt; spelling = refl }, tt)

    by : (b : Bool) → AllTell begun groups asked (if b then on_client conn (λ c. record c { decoder = d; left = [] }) cs else cs ++ new_client conn d ∷ [])
    by true = changed_tell begun asked groups conn (λ c. record c { decoder = d; left = [] }) (λ c is t. (t.0, tt)) cs tell
    by false = all_append (Tells begun groups asked) cs (new_client conn d ∷ []) tell (first, tt)

-- ---- connections come and go

connects_holds : (begun : ServerState) (asked : ℕ → ℕ → Bool) (s : DeskRunState) (conn : ℕ) (t : DeskRunState) → Connects s conn t → HoldsAt begun asked s → HoldsAt begun asked t
connects_holds begun asked s conn t c h = subst (λ (x : DeskRunState). HoldsAt begun asked x) (sym c.after) (by (is_making s conn))
  where
    joins : Holds begun asked (front.connected s.front conn) (clients_with s.clients conn c.decoder) s.handed s.groups
    joins = remains_hold begun asked s.front (front.connected s.front conn) s.clients (clients_with s.clients conn c.decoder) s.handed s.groups
        (record { state = refl; pending = refl; out = refl; durable = refl }) (connected_loses s.front conn) (boxes-connected (StandsTo begun s.groups asked) s.front conn h.boxes)
        (clients_with_tell begun asked s.groups s.clients conn c.decoder h.tell) h

    by : (b : Bool) → HoldsAt begun asked (record (if b then record s { making = None } else s) { front = front.connected s.front conn; clients = clients_with s.clients conn c.decoder })
    by true = joins
    by false = joins

gone_holds : (begun : ServerState) (asked : ℕ → ℕ → Bool) (s : DeskRunState) (conn : ℕ) → HoldsAt begun asked s → HoldsAt begun asked (gone s conn)
gone_holds begun asked s conn h = by (is_making s conn)
  where
    leaves : Holds begun asked (front.dropped s.front conn) (on_client conn (λ c. record c { left = [] }) s.clients) s.handed s.groups
    leaves =
        let keeps = dropped-keeps s.front conn in
        remains_hold begun asked s.front (front.dropped s.front conn) s.clients (on_client conn (λ c. record c { left = [] }) s.clients) s.handed s.groups
        (record { state = keeps.state; pending = keeps.pending; out = keeps.out; durable = keeps.durable }) (dropped_loses s.front conn)
        (boxes-dropped (StandsTo begun s.groups asked) s.front conn h.boxes) (changed_tell begun asked s.groups conn (λ c. record c { left = [] }) (λ c is t. (t.0, tt)) s.clients h.tell) h

    by : (b : Bool) → HoldsAt begun asked (record (with_left (if b then record s { making = None } else s) conn []) { front = front.dropped s.front conn })
    by true = leaves
    by false = leaves

-- ---- messages are taken

module _ (begun : ServerState) (asked : ℕ → ℕ → Bool) (below : KeepsBelow begun) where
  mark_within : (groups : List (List Entry)) (f : FrontState) (handed : Handed) → IsOnItsWay begun groups f handed → f.durable ≤ begun.place + length (entries_of groups)
  mark_within groups f Nothing way = omega (arith, way)
  mark_within groups f (Cut batch) way = let mark = way.0 in omega (arith, mark)
  mark_within groups f (Stored batch) way =
      let whole = mark_moves begun groups f batch way.0 in
      let first = way.0.first in
      omega (arith, whole, first)

  kept_stand : (f : FrontState) (cs : List Client) (handed : Handed) (groups : List (List Entry)) → Holds begun asked f cs handed groups → KeptStand begun groups asked f
  kept_stand f cs handed groups h session number k kept durable =
      let most = mark_within groups f handed h.way in
      kept_stands begun (entries_of groups) (cut_entries handed ++ f.service.pending) session number k h.answered (below session number)
      (sym (ap (λ (s : ServerState). kept_in (get s.sessions session) number) h.state) ∙ kept) (omega (arith, most, durable))

  made_holds : (f g : FrontState) (es : List Entry) (cs : List Client) (handed : Handed) (groups : List (List Entry)) → Leaves f es g → AreAnswered f.service.state es → AllIn (StandsTo begun groups asked) g.connections
      → HasOnly (MayAsk asked) g → Holds begun asked f cs handed groups → Holds begun asked g cs handed groups
  made_holds f g es cs handed groups m answered boxes has h =
      let before : List Entry = made_entries groups handed f in
      let same : before ++ es ≡ made_entries groups handed g =
      append_assoc (entries_of groups) (cut_entries handed ++ f.service.pending) es ∙ ap (λ (xs : List Entry). entries_of groups ++ xs) (append_assoc (cut_entries handed) f.service.pending es)
      ∙ ap (λ (xs : List Entry). entries_of groups ++ (cut_entries handed ++ xs)) (sym m.pending) in
      let more : AreAnswered begun (before ++ es) = answered-append begun before es h.answered (subst (λ (s : ServerState). AreAnswered s es) h.state answered) in
      record {
        state = m.state ∙ ap (λ (s : ServerState). after_all s es) h.state ∙ sym (after-append begun before es) ∙ ap (λ (xs : List Entry). after_all begun xs) same;
        answered = subst (λ (xs : List Entry). AreAnswered begun xs) same more;
        way = way_remains begun groups f g handed m.out m.durable h.way;
        boxes = boxes;
        tell = h.tell;
        has = has;
      }

  takes_one_holds : (s : DeskRunState) (conn : ℕ) (m : ClientMessage) (t : DeskRunState) → AsksFor (asked conn) m → TakesOne s conn m t → HoldsAt begun asked s → HoldsAt begun asked t
  takes_one_holds s conn m t asks takes h =
      let u : DeskRunState = roomy s conn in
      let there : HoldsAt begun asked u = roomy_holds begun asked s conn h in
      let kept : KeptStand begun u.groups asked u.front = kept_stand u.front u.clients u.handed u.groups there in
      subst (λ (x : DeskRunState). HoldsAt begun asked x) (sym takes.after)
      (made_holds u.front takes.front takes.entries u.clients u.handed u.groups
      (message_leaves u.front takes.front conn m takes.entries takes.takes) (message_answered u.front takes.front conn m takes.entries takes.takes)
      (message_stands begun u.groups asked u.front takes.front conn m takes.entries there.has kept takes.takes there.boxes)
      (message_has (MayAsk asked) u.front takes.front conn m takes.entries asks takes.takes there.has) there)

  takes_all_holds : (s : DeskRunState) (conn : ℕ) (ms : List ClientMessage) (t : DeskRunState) → AllByRecursion (AsksFor (asked conn)) ms → TakesAll s conn ms t → HoldsAt begun asked s → HoldsAt begun asked t
  takes_all_holds s conn [] t asks takes h = subst (λ (x : DeskRunState). HoldsAt begun asked x) (sym takes) h
  takes_all_holds s conn (m ∷ ms) t asks takes h = takes_all_holds takes.0 conn ms t asks.1 takes.2 (takes_one_holds s conn m takes.0 asks.0 takes.1 h)

  after_frame_holds : (bad : Bool) (s : DeskRunState) (conn : ℕ) → HoldsAt begun asked s → HoldsAt begun asked (after_frame bad s conn)
  after_frame_holds true s conn h = gone_holds begun asked s conn h
  after_frame_holds false s conn h = h

  -- what a piece completes asks for the connection's sessions alone
  abbrev pub PieceAsks : ℕ → Decoding → List ℕ → Type 0
  PieceAsks conn before piece = (after : Decoding) (more : List ClientMessage) → Reads before after piece more → AllByRecursion (AsksFor (asked conn)) more

  piece_holds : (s : DeskRunState) (conn : ℕ) (before : Decoding) (piece : List ℕ) (t : DeskRunState) → PieceAsks conn before piece → TakesPiece s conn before piece t → HoldsAt begun asked s → HoldsAt begun asked t
  piece_holds s conn before piece t asks takes h =
      subst (λ (x : DeskRunState). HoldsAt begun asked x) (sym takes.after)
      (after_frame_holds takes.decoder.is_bad takes.last conn
      (takes_all_holds (with_decoder s conn takes.decoder) conn takes.more takes.last (asks takes.decoder takes.more takes.reads) takes.takes (with_decoder_holds begun asked s conn takes.decoder h)))

  from_holds : (s : DeskRunState) (conn : ℕ) (left : List ClientMessage) (before : Decoding) (piece : List ℕ) (t : DeskRunState) → AllByRecursion (AsksFor (asked conn)) left → PieceAsks conn before piece
      → TakesFrom s conn left before piece t → HoldsAt begun asked s → HoldsAt begun asked t
  from_holds s conn left before piece t first asks takes h = by (is_connected takes.mid.front conn) takes.reading
    where
      mid : HoldsAt begun asked takes.mid
      mid = takes_all_holds (with_left s conn []) conn left takes.mid first takes.leftovers (with_left_holds begun asked s conn [] tt h)

      by : (b : Bool) → MatchBool b (TakesPiece takes.mid conn before piece t) (t ≡ takes.mid) → HoldsAt begun asked t
      by true reads = piece_holds takes.mid conn before piece t asks reads mid
      by false is = subst (λ (x : DeskRunState). HoldsAt begun asked x) (sym is) mid

  -- a step's bytes ask for the connection's sessions alone
  abbrev pub BytesAsk : DeskRunState → ℕ → List ℕ → Type 0
  BytesAsk s conn piece = (before after : Decoding) (more : List ClientMessage) → read_by s conn ≡ Some before → Reads before after piece more → AllByRecursion (AsksFor (asked conn)) more

  bytes_hold : (s : DeskRunState) (conn : ℕ) (piece : List ℕ) (t : DeskRunState) → BytesAsk s conn piece → TakesBytes s (find conn s.clients) piece t → HoldsAt begun asked s → HoldsAt begun asked t
  bytes_hold s conn piece t asks takes h = by (find conn s.clients) refl takes
    where
      by : (o : Option Client) → find conn s.clients ≡ o → TakesBytes s o piece t → HoldsAt begun asked t
      by None is takes = subst (λ (x : DeskRunState). HoldsAt begun asked x) (sym takes) h
      by (Some c) is takes =
          let here = found_one (Tells begun s.groups asked) conn s.clients c is h.tell in
          let read : read_by s conn ≡ Some c.decoder = ap (λ (o : Option Client). option_map (λ (x : Client). x.decoder) o) is in
          let mine : PieceAsks c.conn c.decoder piece = λ after more reads. subst (λ (n : ℕ). AllByRecursion (AsksFor (asked n)) more) (sym here.0) (asks c.decoder after more read reads) in
          from_holds s c.conn c.left c.decoder piece t here.1.1 mine takes h

  -- ---- steps

  abbrev pub StepAsks : DeskRunState → Step → Type 0
  StepAsks s (step.Bytes conn piece) = BytesAsk s conn piece.items
  StepAsks s other = Unit {0}

  pub acts_hold : (s : DeskRunState) (x : Step) (t : DeskRunState) → StepAsks s x → Acts s x t → HoldsAt begun asked s → HoldsAt begun asked t
  acts_hold s (step.Connect conn) t asks acts h = by (is_connected s.front conn) acts
    where
      by : (b : Bool) → MatchBool b (t ≡ s) (Connects s conn t) → HoldsAt begun asked t
      by true is = subst (λ (x : DeskRunState). HoldsAt begun asked x) (sym is) h
      by false connects = connects_holds begun asked s conn t connects h
  acts_hold s (step.Bytes conn piece) t asks acts h = bytes_hold s conn piece.items t asks acts h
  acts_hold s (step.Gone conn) t asks acts h = subst (λ (x : DeskRunState). HoldsAt begun asked x) (sym acts) (gone_holds begun asked s conn h)
  acts_hold s step.Cut t asks acts h = subst (λ (x : DeskRunState). HoldsAt begun asked x) (sym acts) (cut_holds begun asked s h)
  acts_hold s step.Append t asks acts h = subst (λ (x : DeskRunState). HoldsAt begun asked x) (sym acts) (stored_holds begun asked s h)
  acts_hold s step.Post t asks acts h = subst (λ (x : DeskRunState). HoldsAt begun asked x) (sym acts) (posted_holds begun asked s h)
  acts_hold s step.CheckBegin t asks acts h = subst (λ (x : DeskRunState). HoldsAt begun asked x) (sym acts) h
  acts_hold s step.CheckStep t asks acts h = subst (λ (x : DeskRunState). HoldsAt begun asked x) (sym acts) h
  acts_hold s step.CheckFinish t asks acts h = subst (λ (x : DeskRunState). HoldsAt begun asked x) (sym acts) h

  -- ---- a batch that found no memory, or was torn

  may_begin_holds : (s : DeskRunState) (conn : ℕ) (t : DeskRunState) → MayBegin s conn t → HoldsAt begun asked s → HoldsAt begun asked t
  may_begin_holds s conn t (inl is) h = subst (λ (x : DeskRunState). HoldsAt begun asked x) (sym is) h
  may_begin_holds s conn t (inr is) h = subst (λ (x : DeskRunState). HoldsAt begun asked x) (sym is) (cut_holds begun asked (cleared s) (cleared_holds begun asked s h))

  making_holds : (s : DeskRunState) (conn : ℕ) (t : DeskRunState) → StopsMaking s conn t → HoldsAt begun asked s → HoldsAt begun asked t
  making_holds s conn t (inl still) h = subst (λ (x : DeskRunState). HoldsAt begun asked x) (sym still.1) h
  making_holds s conn t (inr begins) h = may_begin_holds (begun_room s conn) conn t begins.1 (begun_room_holds begun asked s conn h)

  first_taken_holds : (s : DeskRunState) (conn : ℕ) (ms : List ClientMessage) (t : DeskRunState) → AllByRecursion (AsksFor (asked conn)) ms → TakesFirst s conn ms t → HoldsAt begun asked s → HoldsAt begun asked t
  first_taken_holds s conn ms t asks takes h =
      let parts = first_of (AsksFor (asked conn)) takes.taken (takes.next ∷ takes.behind) (subst (λ (xs : List ClientMessage). AllByRecursion (AsksFor (asked conn)) xs) takes.all asks) in
      let before : HoldsAt begun asked takes.before = takes_all_holds s conn takes.taken takes.before parts.0 takes.takes h in
      subst (λ (x : DeskRunState). HoldsAt begun asked x) (sym takes.after)
      (with_left_holds begun asked takes.last conn (takes.next ∷ takes.behind) parts.1 (making_holds takes.before conn takes.last takes.stops before))

  pub before_holds : (s : DeskRunState) (conn : ℕ) (t : DeskRunState) → StopsBefore s conn t → HoldsAt begun asked s → HoldsAt begun asked t
  before_holds s conn t stops h =
      first_taken_holds (with_left s conn []) conn (left_of s conn) t (left_asks begun asked s.groups s conn h.tell) stops (with_left_holds begun asked s conn [] tt h)

  pub unread_holds : (s : DeskRunState) (conn : ℕ) (t : DeskRunState) → StopsUnread s conn t → HoldsAt begun asked s → HoldsAt begun asked t
  unread_holds s conn t stops h =
      takes_all_holds (with_left s conn []) conn (left_of s conn) t (left_asks begun asked s.groups s conn h.tell) stops.leftovers (with_left_holds begun asked s conn [] tt h)

  pub behind_holds : (s : DeskRunState) (conn : ℕ) (piece : List ℕ) (t : DeskRunState) → BytesAsk s conn piece → StopsBehind s conn piece t → HoldsAt begun asked s → HoldsAt begun asked t
  behind_holds s conn piece t asks stops h =
      first_taken_holds (with_decoder stops.mid conn stops.decoder) conn stops.more t (asks stops.before stops.decoder stops.more stops.was stops.reads) stops.first
      (with_decoder_holds begun asked stops.mid conn stops.decoder (unread_holds s conn stops.mid stops.unread h))

-- ---- a run from the first standing on

pub first_holds : (begun : ServerState) (asked : ℕ → ℕ → Bool) (s : DeskRunState) → IsFirstRunState begun s → HoldsAt begun asked s
first_holds begun asked s first =
    let f : FrontState = s.front in
    let none : made_entries s.groups s.handed f ≡ [] =
    ap (λ (gs : List (List Entry)). entries_of gs ++ (cut_entries s.handed ++ f.service.pending)) first.groups ∙ ap (λ (x : Handed). cut_entries x ++ f.service.pending) first.handed ∙ first.front.pending in
    let mark : f.durable ≡ begun.place + length (entries_of s.groups) = let few = ap (λ (gs : List (List Entry)). length (entries_of gs)) first.groups in omega (arith, few, first.front.durable) in
    record {
      state = first.front.state ∙ sym (ap (λ (es : List Entry). after_all begun es) none);
      answered = subst (λ (es : List Entry). AreAnswered begun es) (sym none) tt;
      way = subst (λ (x : Handed). IsOnItsWay begun s.groups f x) (sym first.handed) mark;
      boxes = λ conn. subst (λ (m : FinMap nat_cmp Connection). AllByRecursion (StandsTo begun s.groups asked conn) (mails_on m conn)) (sym first.front.connections)
          (subst (λ (o : Option Connection). AllByRecursion (StandsTo begun s.groups asked conn) (option_map_or (λ (c : Connection). c.mails) o [])) (sym (get-empty nat_cmp conn)) tt);
      tell = subst (λ (cs : List Client). AllTell begun s.groups asked cs) (sym first.clients) tt;
      has = first_has (MayAsk asked) begun f first.front;
    }
