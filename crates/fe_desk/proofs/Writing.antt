-- Mails are written as far as memory goes: what is written so far, client by client and mail by mail.
use Rattle.std.proofs.Common.{◌≡◌, ◌≢◌, false, ℕ, zero, suc, ◌+◌, ◌<◌, List, [], ◌∷◌, ◌++◌, Some, None, length, drop, take, map, get_or, slice_set, refl, sym, ap, ◌∙◌, subst, arith, append_assoc, append-nil, add-one, inl, inr, Result, Ok, Err, OnErr}
use Rattle.std.specs.Prelude.{slice_get, is_err}
use Rattle.std.specs.Option.{option_map_or}
use Rattle.fe_memory.specs.declared.OutOfMemory.{OutOfMemory}
use Rattle.std.proofs.lemmas.List.{length-append, drop-set-lt, map-append, take_more_set}
use Rattle.std.proofs.lemmas.List.Concat.{flat_map-append}
use Rattle.fe_wire.specs.Spelling.{reply_spelling}
use Rattle.fe_wire.specs.declared.server_message.ServerMessage.{ServerMessage}
use Rattle.fe_mail.specs.Connections.{mails_on}
use Rattle.fe_mail.specs.declared.mail.Mail.{Mail}
use Rattle.fe_front.specs.Front.{FrontState}
use Rattle.fe_front.specs.Steps.{taken}
use Rattle.fe_messages.specs.Mails.{reply_of, spelled}
use Rattle.fe_desk.specs.declared.desk_inner.DeskInner.{DeskInner}
use Rattle.fe_desk.specs.declared.port.Port.{Port}
use Rattle.fe_desk.specs.DeskRunState.{taken_times, emptied_box, Client, DeskRunState, Extends, unwritten, written_out, all_written_out, all_emptied, emptied}
use Rattle.fe_desk.specs.Ends.{StopsWriting, WritesFirst, WritesSome}
use Rattle.fe_desk.specs.within.Desk.{KeepsFront, client_of, run_state_of}
use Rattle.fe_desk.proofs.Emptying.{all_emptied-keeps, both, box_emptied, box_of, emptied_behind, from_here, itself, left_behind, left_in, quiet_all_emptied, quiet_all_written_out, replaced, still_quiet, taken-keeps, times-keep, AreQuiet}
use Rattle.fe_desk.proofs.Outputs.{extends_itself, output_of}

-- ---- mail by mail

-- the reply that waited and these first mails of a client's box are written
pub record IsWrittenSoFar (f : FrontState) (c : Client) (g : FrontState) (d : Client) : Type 0 where
  pub first : List Mail
  pub box : mails_on f.connections c.conn ≡ first ++ mails_on g.connections c.conn
  pub front : g ≡ taken_times (length first) f c.conn
  pub client : d ≡ record c { reply = None; written = c.written ++ (option_map_or reply_spelling c.reply [] ++ spelled first) }

-- no mail yet
pub none_yet : (f : FrontState) (c d : Client) → d ≡ record c { reply = None; written = c.written ++ option_map_or reply_spelling c.reply [] } → IsWrittenSoFar f c f d
none_yet f c d is = record {
  first = [];
  box = refl;
  front = refl;
  client = is ∙ ap (λ (bytes : List ℕ). record c { reply = None; written = c.written ++ bytes }) (sym (append-nil (option_map_or reply_spelling c.reply [])));
}

times_suc : (n : ℕ) (f : FrontState) (conn : ℕ) → taken_times (suc n) f conn ≡ taken (taken_times n f conn) conn
times_suc zero f conn = refl
times_suc (suc n) f conn = times_suc n (taken f conn) conn

times_more : (n : ℕ) (f : FrontState) (conn : ℕ) → taken_times (n + 1) f conn ≡ taken (taken_times n f conn) conn
times_more n f conn = ap (λ (k : ℕ). taken_times k f conn) (add-one n) ∙ times_suc n f conn

-- the next mail leaves the box
module _ (f : FrontState) (c : Client) (h : FrontState) (e : Client) (g : FrontState) (m : Mail) (r : ServerMessage) (far : IsWrittenSoFar f c h e) (first : Some m ≡ slice_get (mails_on h.connections e.conn) 0)
    (front : g ≡ taken h e.conn) (reply : r ≡ reply_of m) where
  conn_is : e.conn ≡ c.conn
  conn_is = ap (λ (x : Client). x.conn) far.client

  here : mails_on h.connections c.conn ≡ m ∷ drop 1 (mails_on h.connections c.conn)
  here = box_of (mails_on h.connections c.conn) m (subst (λ (n : ℕ). Some m ≡ slice_get (mails_on h.connections n) 0) conn_is first)

  taken_here : g ≡ taken h c.conn
  taken_here = subst (λ (n : ℕ). g ≡ taken h n) conn_is front

  whole : mails_on f.connections c.conn ≡ far.first ++ m ∷ drop 1 (mails_on h.connections c.conn)
  whole = far.box ∙ ap (λ (ms : List Mail). far.first ++ ms) here

  behind : drop 1 (mails_on h.connections c.conn) ≡ mails_on g.connections c.conn
  behind = sym (left_in h c.conn m (drop 1 (mails_on h.connections c.conn)) here) ∙ ap (λ (x : FrontState). mails_on x.connections c.conn) (sym taken_here)

  times : g ≡ taken_times (length far.first + 1) f c.conn
  times = taken_here ∙ ap (λ (x : FrontState). taken x c.conn) far.front ∙ sym (times_more (length far.first) f c.conn)

  -- and is written
  pub one_more : (d : Client) → d ≡ record e { written = e.written ++ reply_spelling r } → IsWrittenSoFar f c g d
  one_more d client =
      let frame : List ℕ = option_map_or reply_spelling c.reply [] in
      let bytes : (c.written ++ (frame ++ spelled far.first)) ++ reply_spelling r ≡ c.written ++ (frame ++ spelled (far.first ++ m ∷ [])) =
      append_assoc c.written (frame ++ spelled far.first) (reply_spelling r)
      ∙ ap (λ (bs : List ℕ). c.written ++ bs) (append_assoc frame (spelled far.first) (reply_spelling r)
      ∙ ap (λ (x : ServerMessage). frame ++ (spelled far.first ++ reply_spelling x)) reply
      ∙ ap (λ (bs : List ℕ). frame ++ (spelled far.first ++ bs)) (sym (append-nil (reply_spelling (reply_of m))))
      ∙ ap (λ (bs : List ℕ). frame ++ bs) (sym (flat_map-append (λ (x : Mail). reply_spelling (reply_of x)) far.first (m ∷ [])))) in
      record {
        first = far.first ++ m ∷ [];
        box = whole ∙ ap (λ (ms : List Mail). far.first ++ m ∷ ms) behind ∙ sym (append_assoc far.first (m ∷ []) (mails_on g.connections c.conn));
        front = times ∙ ap (λ (n : ℕ). taken_times n f c.conn) (sym (length-append far.first (m ∷ [])));
        client = client ∙ ap (λ (x : Client). record x { written = x.written ++ reply_spelling r }) far.client
            ∙ ap (λ (bs : List ℕ). record c { reply = None; written = bs }) bytes;
      }

  -- or its reply waits
  pub stops_here : (d : Client) → d ≡ record e { reply = Some r } → StopsWriting f c g d
  stops_here d client = inr (record {
    first = far.first;
    next = m;
    rest = drop 1 (mails_on h.connections c.conn);
    box = whole;
    front = times;
    client = client ∙ ap (λ (x : Client). record x { reply = Some r }) far.client
        ∙ ap (λ (x : ServerMessage). record c { reply = Some x; written = c.written ++ (option_map_or reply_spelling c.reply [] ++ spelled far.first) }) reply;
  })

-- the reply that waits is not written
pub stops_waiting : (f : FrontState) (c d : Client) → d ≡ c → d.reply ≢ None → StopsWriting f c f d
stops_waiting f c d is waits = inl ((λ (none : c.reply ≡ None). waits (ap (λ (x : Client). x.reply) is ∙ none)), refl, is)

-- ---- client by client

-- these clients are written all their mails, and the others are as they were
pub record AreWrittenSoFar (f : FrontState) (cs : List Client) (g : FrontState) (done left : List Client) : Type 0 where
  pub before : List Client
  pub all : cs ≡ before ++ left
  pub front : g ≡ all_emptied f before
  pub written_out : done ≡ all_written_out f before

-- all clients are written, one after another
emptied_append : (f : FrontState) (cs ds : List Client) → all_emptied f (cs ++ ds) ≡ all_emptied (all_emptied f cs) ds
emptied_append f [] ds = refl
emptied_append f (c ∷ cs) ds = emptied_append (emptied_box f c.conn) cs ds

written_out_append : (f : FrontState) (cs ds : List Client) → all_written_out f (cs ++ ds) ≡ all_written_out f cs ++ all_written_out (all_emptied f cs) ds
written_out_append f [] ds = refl
written_out_append f (c ∷ cs) ds = ap (λ (es : List Client). written_out f c ∷ es) (written_out_append (emptied_box f c.conn) cs ds)

-- a client more
one_done : (f : FrontState) (cs : List Client) (h : FrontState) (done : List Client) (c : Client) (left : List Client) (g : FrontState) (d : Client) → AreWrittenSoFar f cs h done (c ∷ left)
    → g ≡ emptied_box h c.conn → d ≡ written_out h c → AreWrittenSoFar f cs g (done ++ d ∷ []) left
one_done f cs h done c left g d far front client = record {
  before = far.before ++ c ∷ [];
  all = far.all ∙ sym (append_assoc far.before (c ∷ []) left);
  front = front ∙ ap (λ (x : FrontState). emptied_box x c.conn) far.front ∙ sym (emptied_append f far.before (c ∷ []));
  written_out = ap (λ (ds : List Client). ds ++ d ∷ []) far.written_out ∙ ap (λ (x : Client). all_written_out f far.before ++ x ∷ []) (client ∙ ap (λ (x : FrontState). written_out x c) far.front)
      ∙ sym (written_out_append f far.before (c ∷ []));
}

-- a client that is not written all its mails
one_stops : (f : FrontState) (cs : List Client) (h : FrontState) (done : List Client) (c : Client) (left : List Client) (g : FrontState) (d : Client) → AreWrittenSoFar f cs h done (c ∷ left)
    → StopsWriting h c g d → WritesFirst f cs g (done ++ d ∷ left)
one_stops f cs h done c left g d far stops = record {
  before = far.before;
  client = c;
  behind = left;
  last = d;
  all = far.all;
  stops = subst (λ (x : FrontState). StopsWriting x c g d) far.front stops;
  now = ap (λ (ds : List Client). ds ++ d ∷ left) far.written_out;
}

-- ---- port by port

abbrev pub AreWrittenTo : FrontState → List Client → FrontState → List Port → ℕ → Type 0
AreWrittenTo f cs g ports at = AreWrittenSoFar f cs g (map client_of (take at ports)) (map client_of (drop at ports))

pub port_done : (f : FrontState) (cs : List Client) (h g : FrontState) (ports : List Port) (at : ℕ) (p q : Port) → at < length ports → p ≡ get_or ports at p → AreWrittenTo f cs h ports at
    → g ≡ emptied_box h p.conn → client_of q ≡ written_out h (client_of p) → AreWrittenTo f cs g (slice_set ports at q) (at + 1)
port_done f cs h g ports at p q lt is far front client =
    let behind : drop (at + 1) (slice_set ports at q) ≡ drop (at + 1) ports = drop-set-lt (at + 1) ports at q (omega arith) in
    let before : map client_of (take (at + 1) (slice_set ports at q)) ≡ map client_of (take at ports) ++ client_of q ∷ [] =
    ap (λ (ps : List Port). map client_of ps) (take_more_set ports at q lt) ∙ map-append client_of (take at ports) (q ∷ []) in
    let here : AreWrittenSoFar f cs h (map client_of (take at ports)) (client_of p ∷ map client_of (drop (at + 1) ports)) =
    subst (λ (ds : List Client). AreWrittenSoFar f cs h (map client_of (take at ports)) ds) (from_here client_of ports at p lt is) far in
    subst (λ (ps : List Port). AreWrittenSoFar f cs g (map client_of (take (at + 1) (slice_set ports at q))) (map client_of ps)) (sym behind)
    (subst (λ (ds : List Client). AreWrittenSoFar f cs g ds (map client_of (drop (at + 1) ports))) (sym before)
    (one_done f cs h (map client_of (take at ports)) (client_of p) (map client_of (drop (at + 1) ports)) g (client_of q) here front client))

pub port_stops : (f : FrontState) (cs : List Client) (h g : FrontState) (ports : List Port) (at : ℕ) (p q : Port) → at < length ports → p ≡ get_or ports at p → AreWrittenTo f cs h ports at
    → StopsWriting h (client_of p) g (client_of q) → WritesFirst f cs g (map client_of (slice_set ports at q))
port_stops f cs h g ports at p q lt is far stops =
    let here : AreWrittenSoFar f cs h (map client_of (take at ports)) (client_of p ∷ map client_of (drop (at + 1) ports)) =
    subst (λ (ds : List Client). AreWrittenSoFar f cs h (map client_of (take at ports)) ds) (from_here client_of ports at p lt is) far in
    subst (λ (ds : List Client). WritesFirst f cs g ds) (sym (replaced client_of ports at q lt))
    (one_stops f cs h (map client_of (take at ports)) (client_of p) (map client_of (drop (at + 1) ports)) g (client_of q) here stops)

-- ---- what is not written is written later

-- what stays
pub next_keeps : (f : FrontState) (c : Client) (h : FrontState) (e : Client) (g : FrontState) → IsWrittenSoFar f c h e → g ≡ taken h e.conn → KeepsFront f g
next_keeps f c h e g far front =
    both f h g (subst (λ (x : FrontState). KeepsFront f x) (sym far.front) (times-keep (length far.first) f c.conn)) (subst (λ (x : FrontState). KeepsFront h x) (sym front) (taken-keeps h e.conn))

pub stops_keeps : (f : FrontState) (c : Client) (g : FrontState) (d : Client) → StopsWriting f c g d → KeepsFront f g
stops_keeps f c g d (inl stays) = subst (λ (x : FrontState). KeepsFront f x) (sym stays.1) (itself f)
stops_keeps f c g d (inr at) = subst (λ (x : FrontState). KeepsFront f x) (sym at.front) (times-keep (length at.first + 1) f c.conn)

pub stops_number : (f : FrontState) (c : Client) (g : FrontState) (d : Client) → StopsWriting f c g d → d.conn ≡ c.conn
stops_number f c g d (inl stays) = ap (λ (x : Client). x.conn) stays.2
stops_number f c g d (inr at) = ap (λ (x : Client). x.conn) at.client

-- Mails of a client are written, maybe not all: to write the rest later comes to the same as to write all at once.
pub record IsWrittenOutLater (f : FrontState) (c : Client) (g : FrontState) (d : Client) : Type 0 where
  pub conn : d.conn ≡ c.conn
  pub output : (more : List ℕ) × (d.written ≡ c.written ++ more)
  pub front : emptied_box g d.conn ≡ emptied_box f c.conn
  pub client : written_out g d ≡ written_out f c

pub stops_later : (f : FrontState) (c : Client) (g : FrontState) (d : Client) → StopsWriting f c g d → IsWrittenOutLater f c g d
stops_later f c g d (inl stays) =
    let same : IsWrittenOutLater f c f c = record { conn = refl; output = ([], sym (append-nil c.written)); front = refl; client = refl } in
    subst (λ (x : Client). IsWrittenOutLater f c g x) (sym stays.2) (subst (λ (x : FrontState). IsWrittenOutLater f c x c) (sym stays.1) same)
stops_later f c g d (inr at) =
    let frame : List ℕ = option_map_or reply_spelling c.reply [] in
    let done : List ℕ = frame ++ spelled at.first in
    let e : Client = record c { reply = Some (reply_of at.next); written = c.written ++ done } in
    let written : List Mail = at.first ++ at.next ∷ [] in
    let h : FrontState = taken_times (length written) f c.conn in
    let box : mails_on f.connections c.conn ≡ written ++ at.rest = at.box ∙ sym (append_assoc at.first (at.next ∷ []) at.rest) in
    let left : mails_on h.connections c.conn ≡ at.rest = left_behind written at.rest f c.conn box in
    let bytes : (c.written ++ done) ++ spelled (at.next ∷ at.rest) ≡ c.written ++ unwritten f c =
    append_assoc c.written done (spelled (at.next ∷ at.rest))
    ∙ ap (λ (bs : List ℕ). c.written ++ bs) (append_assoc frame (spelled at.first) (spelled (at.next ∷ at.rest))
    ∙ ap (λ (bs : List ℕ). frame ++ bs) (sym (flat_map-append (λ (x : Mail). reply_spelling (reply_of x)) at.first (at.next ∷ at.rest)) ∙ ap spelled (sym at.box))) in
    let here : IsWrittenOutLater f c h e = record {
      conn = refl;
      output = (done, refl);
      front = emptied_behind written at.rest f c.conn box;
      client = ap (λ (ms : List Mail). record c { reply = None; written = (c.written ++ done) ++ spelled (at.next ∷ ms) }) left
          ∙ ap (λ (bs : List ℕ). record c { reply = None; written = bs }) bytes;
    } in
    subst (λ (x : Client). IsWrittenOutLater f c g x) (sym at.client)
    (subst (λ (x : FrontState). IsWrittenOutLater f c x e) (ap (λ (n : ℕ). taken_times n f c.conn) (length-append at.first (at.next ∷ [])) ∙ sym at.front) here)

-- nothing is left to write to the clients whose mails were written
written_quiet : (f : FrontState) (cs : List Client) → AreQuiet (all_emptied f cs) (all_written_out f cs)
written_quiet f [] = tt
written_quiet f (c ∷ cs) = (record { reply = refl; box = (all_emptied-keeps (emptied_box f c.conn) cs).empty c.conn (box_emptied f c.conn) }, written_quiet (emptied_box f c.conn) cs)

extends_there : (f : FrontState) (cs : List Client) (c d : Client) (behind : List Client) → d.conn ≡ c.conn → (more : List ℕ) × (d.written ≡ c.written ++ more)
    → Extends (map output_of (cs ++ c ∷ behind)) (map output_of (all_written_out f cs ++ d ∷ behind))
extends_there f [] c d behind same more = (same, more, extends_itself (map output_of behind))
extends_there f (x ∷ cs) c d behind same more = (refl, (unwritten f x, refl), extends_there (emptied_box f x.conn) cs c d behind same more)

module _ (f : FrontState) (cs : List Client) (g : FrontState) (ds : List Client) (writes : WritesFirst f cs g ds) where
  abbrev mid : FrontState
  mid = all_emptied f writes.before

  abbrev done : List Client
  done = all_written_out f writes.before

  later : IsWrittenOutLater mid writes.client g writes.last
  later = stops_later mid writes.client g writes.last writes.stops

  quiet : AreQuiet g done
  quiet = still_quiet mid g done (stops_keeps mid writes.client g writes.last writes.stops) (written_quiet f writes.before)

  pub front_later : all_emptied g ds ≡ all_emptied f cs
  front_later =
      ap (λ (es : List Client). all_emptied g es) writes.now ∙ quiet_all_emptied g done (writes.last ∷ writes.behind) quiet
      ∙ ap (λ (x : FrontState). all_emptied x writes.behind) later.front
      ∙ sym (ap (λ (es : List Client). all_emptied f es) writes.all ∙ emptied_append f writes.before (writes.client ∷ writes.behind))

  pub clients_later : all_written_out g ds ≡ all_written_out f cs
  clients_later =
      ap (λ (es : List Client). all_written_out g es) writes.now ∙ quiet_all_written_out g done (writes.last ∷ writes.behind) quiet
      ∙ ap (λ (x : Client). done ++ x ∷ all_written_out (emptied_box g writes.last.conn) writes.behind) later.client
      ∙ ap (λ (x : FrontState). done ++ written_out mid writes.client ∷ all_written_out x writes.behind) later.front
      ∙ sym (ap (λ (es : List Client). all_written_out f es) writes.all ∙ written_out_append f writes.before (writes.client ∷ writes.behind))

  pub extends_later : Extends (map output_of cs) (map output_of ds)
  extends_later =
      subst (λ (es : List Client). Extends (map output_of es) (map output_of ds)) (sym writes.all)
      (subst (λ (es : List Client). Extends (map output_of (writes.before ++ writes.client ∷ writes.behind)) (map output_of es)) (sym writes.now)
      (extends_there f writes.before writes.client writes.last writes.behind later.conn later.output))

-- mails that are owed, written later, come to the same
pub owed_later : (s t : DeskRunState) → WritesSome s t → emptied t ≡ emptied s
owed_later s t some =
    let front = front_later s.front s.clients some.front some.clients some.writes in
    let clients = clients_later s.front s.clients some.front some.clients some.writes in
    ap emptied some.after
    ∙ ap (λ (f : FrontState). record s { front = f; clients = all_written_out some.front some.clients; owes = false }) front
    ∙ ap (λ (cs : List Client). record s { front = all_emptied s.front s.clients; clients = cs; owes = false }) clients

-- ---- the boxes of a desk

abbrev clients_in : {D : Type 0} → DeskInner D → List Client
clients_in p = map client_of p.trace.ports.items

pub writes_some : {D : Type 0} (p q : DeskInner D) (r : Result (Unit {0}) OutOfMemory) → OnErr r (WritesFirst p.front (clients_in p) q.front (clients_in q)) → q.owes ≡ is_err r
    → q.handed ≡ p.handed → q.making ≡ p.making → q.trace.groups ≡ p.trace.groups → OnErr r (WritesSome (run_state_of p) (run_state_of q))
writes_some p q (Ok x) writes owes handed making groups = tt
writes_some p q (Err e) writes owes handed making groups = record {
  front = q.front;
  clients = clients_in q;
  writes = writes;
  after =
      let same = ap (λ gs. map (λ g. g.items) gs.items) groups in
      cc;
}
