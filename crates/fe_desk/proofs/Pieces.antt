-- A piece of a connection's stream: what is left of it is taken, and then what the piece completes.
use Rattle.std.proofs.Common.{◌≡◌, inr, ℕ, Bool, true, false, List, [], map, Option, Some, None, refl, sym, ap, ◌∙◌, subst, get_or, MatchBool}
use Rattle.std.specs.Prelude.{is_some, slice_set}
use Rattle.std.specs.Option.{option_map}
use Rattle.std.proofs.lemmas.Option.{same_Some}
use Rattle.fe_wire.specs.Stream.{Decoding, CompletesMessage}
use Rattle.fe_wire.specs.declared.client_message.ClientMessage.{ClientMessage}
use Rattle.fe_front.specs.Front.{is_connected}
use Rattle.fe_desk.specs.declared.port.Port.{Port}
use Rattle.fe_desk.specs.DeskRunState.{Client, DeskRunState}
use Rattle.fe_desk.specs.Steps.{TakesAll, find, on_client, with_left, with_decoder, after_frame, Reads, TakesPiece, TakesFrom, TakesBytes}
use Rattle.fe_desk.specs.Messages.{left_of}
use Rattle.fe_desk.specs.Ends.{TakesFirst, StopsBefore, StopsBehind, StopsShort}
use Rattle.fe_desk.specs.Crash.{DeskState}
use Rattle.fe_desk.specs.within.Desk.{IsFirstAt, IsDesk, client_of}
use Rattle.fe_desk.specs.within.Goes.{TakesLeft, TakesStream}
use Rattle.fe_desk.proofs.Places.{found_first, number_here, client_there, numbers, numbers_changed, first_by_numbers, port_here, port_changed}
use Rattle.fe_desk.proofs.Reading.{on_client-twice, find-on_client, on_client-alike, on_client-stays, found-on_client, relieved, left_among, left_emptied, takes_all-keeps}
use Rattle.fe_desk.proofs.Advancing.{desk_as}
use Rattle.fe_disk.specs.declared.disk.Disk.{Ghosts}

-- ---- the client of a connection number

pub record IsHere (s : DeskRunState) (conn : ℕ) (c : Client) : Type 0 where
  pub found : find conn s.clients ≡ Some c
  pub number : c.conn ≡ conn

same_here : (s : DeskRunState) (conn : ℕ) (c d : Client) → IsHere s conn c → IsHere s conn d → c ≡ d
same_here s conn c d here there = same_Some c d (sym here.found ∙ there.found)

pub here_changed : (s t : DeskRunState) (conn : ℕ) (c : Client) (change : Client → Client) → ((d : Client) → (change d).conn ≡ d.conn) → t.clients ≡ on_client conn change s.clients → IsHere s conn c → IsHere t conn (change c)
here_changed s t conn c change keeps clients here =
    record {
      found = ap (find conn) clients ∙ find-on_client conn change s.clients keeps ∙ ap (option_map change) here.found;
      number = keeps c ∙ here.number;
    }

pub bytes_from : (s : DeskRunState) (conn : ℕ) (c : Client) (piece : List ℕ) (t : DeskRunState) → IsHere s conn c → TakesFrom s conn (left_of s conn) c.decoder piece t → TakesBytes s (find conn s.clients) piece t
bytes_from s conn c piece t here h =
    subst (λ (o : Option Client). TakesBytes s o piece t) (sym here.found)
    (subst (λ (n : ℕ). TakesFrom s n c.left c.decoder piece t) (sym here.number)
    (subst (λ (ms : List ClientMessage). TakesFrom s conn ms c.decoder piece t) (ap left_among here.found) h))

pub from_bytes : (s : DeskRunState) (conn : ℕ) (c : Client) (piece : List ℕ) (t : DeskRunState) → IsHere s conn c → TakesBytes s (find conn s.clients) piece t → TakesFrom s conn (left_of s conn) c.decoder piece t
from_bytes s conn c piece t here h =
    subst (λ (ms : List ClientMessage). TakesFrom s conn ms c.decoder piece t) (sym (ap left_among here.found))
    (subst (λ (n : ℕ). TakesFrom s n c.left c.decoder piece t) here.number (subst (λ (o : Option Client). TakesBytes s o piece t) here.found h))

-- a client that read a piece
abbrev pub reading : Decoding → List ClientMessage → Client → Client
reading decoder more c = record c { decoder = decoder; left = more }

-- ---- the port of the client

pub port_is_here : (s : DeskRunState) (ports : List Port) (conn at : ℕ) (p : Port) → s.clients ≡ map client_of ports → IsFirstAt (map client_of ports) conn at → p ≡ get_or ports at p → IsHere s conn (client_of p)
port_is_here s ports conn at p clients place is =
    let here = port_here ports conn at p place is in
    record {
      found = ap (find conn) clients ∙ found_first (map client_of ports) conn at (client_of p) place here;
      number = number_here (map client_of ports) conn at (client_of p) place here;
    }

pub port_same : (ports : List Port) (conn at : ℕ) (p q : Port) → IsFirstAt (map client_of ports) conn at → p ≡ get_or ports at p → client_of q ≡ client_of p → map client_of (slice_set ports at q) ≡ map client_of ports
port_same ports conn at p q place is same =
    port_changed ports conn at p q (λ c. c) place is same ∙ on_client-stays conn (λ c. c) (map client_of ports) (λ c found. refl)

pub fed_place : (ports : List Port) (conn at : ℕ) (p q : Port) → IsFirstAt (map client_of ports) conn at → p ≡ get_or ports at p → client_of q ≡ reading q.decoder (client_of q).left (client_of p) → IsFirstAt (map client_of (slice_set ports at q)) conn at
fed_place ports conn at p q place is client =
    let change = reading q.decoder (client_of q).left in
    first_by_numbers (map client_of ports) (map client_of (slice_set ports at q)) conn at
    (ap numbers (port_changed ports conn at p q change place is client) ∙ numbers_changed (map client_of ports) conn change (λ c. refl)) place

-- what is always true of a desk does not change with what a client read
pub desk_reads : {D : Type 0} (model : Ghosts D) (b : DeskState D) (conn : ℕ) (change : Client → Client) (cs : List Client) → ((c : Client) → (change c).conn ≡ c.conn)
    → cs ≡ on_client conn change b.run_state.clients → IsDesk model b → IsDesk model (record b { run_state = record b.run_state { clients = cs } })
desk_reads model b conn change cs keeps clients is =
    let new = record b { run_state = record b.run_state { clients = cs } } in
    desk_as model b new is (record { keeper = refl; groups = refl; synced = refl })
    (record { handed = is.tied.handed; legal = is.tied.legal; state = is.tied.state })
    (λ k on. ap (λ (ds : List Client). is_some (find k ds)) clients ∙ found-on_client conn change b.run_state.clients k keeps ∙ is.known k on)

-- ---- the messages that were left are taken

-- the connection's client is there, and messages of it were taken; of the clients nothing else changed
pub record IsRelieved (conn : ℕ) (s u : DeskRunState) : Type 0 where
  pub client : Client
  pub here : IsHere s conn client
  pub clients : u.clients ≡ on_client conn (relieved (left_of u conn)) s.clients

pub relieves : (s u : DeskRunState) (conn at : ℕ) → IsFirstAt s.clients conn at → u.clients ≡ (with_left s conn (left_of u conn)).clients → IsRelieved conn s u
relieves s u conn at place clients =
    let (client, is) = client_there s.clients at place.within in
    record {
      client = client;
      here = record { found = found_first s.clients conn at client place is; number = number_here s.clients conn at client place is };
      clients = clients;
    }

-- all of them
pub all_taken : (conn : ℕ) (s u : DeskRunState) → TakesLeft s conn u → left_of u conn ≡ []
all_taken conn s u taken = ap (λ (cs : List Client). left_among (find conn cs)) (takes_all-keeps (with_left s conn []) conn (left_of s conn) u taken) ∙ left_emptied conn s.clients

pub stream_unknown : (s : DeskRunState) (conn : ℕ) (piece : List ℕ) → find conn s.clients ≡ None → TakesStream s conn piece s
stream_unknown s conn piece none = subst (λ (o : Option Client). TakesBytes s o piece s) (sym none) refl

module _ {conn : ℕ} {s u : DeskRunState} (piece : List ℕ) (is : IsRelieved conn s u) where
  here_left : IsHere u conn (relieved (left_of u conn) is.client)
  here_left = here_changed s u conn is.client (relieved (left_of u conn)) (λ d. refl) is.clients is.here

  -- the port of the client has read what the client had
  pub port_reads : (ports : List Port) (at : ℕ) (p : Port) → u.clients ≡ map client_of ports → IsFirstAt (map client_of ports) conn at → p ≡ get_or ports at p → p.decoder ≡ is.client.decoder
  port_reads ports at p clients place value =
      ap (λ (d : Client). d.decoder) (same_here u conn (client_of p) (relieved (left_of u conn) is.client) (port_is_here u ports conn at p clients place value) here_left)

  -- they were, and the connection is not there
  pub stream_off : TakesLeft s conn u → is_connected u.front conn ≡ false → TakesStream s conn piece u
  stream_off taken off =
      bytes_from s conn is.client piece u is.here
      (record {
        mid = u;
        leftovers = taken;
        reading = subst (λ (on : Bool). MatchBool on (TakesPiece u conn is.client.decoder piece u) (u ≡ u)) (sym off) refl;
      })

  -- they were, and the piece was not read
  pub stream_unread : TakesLeft s conn u → is_connected u.front conn ≡ true → CompletesMessage is.client.decoder piece → StopsShort false s conn piece u
  stream_unread taken on completes =
      inr (record { unread = record { leftovers = taken; there = on }; before = is.client.decoder; was = ap (option_map (λ (d : Client). d.decoder)) is.here.found; completes = completes })

-- ---- the piece is read

-- the messages that were left are taken, the piece was read, and the messages that it completes are left
pub record HasFed (conn : ℕ) (piece : List ℕ) (s u m : DeskRunState) (decoder : Decoding) (more : List ClientMessage) : Type 0 where
  pub relieved_is : IsRelieved conn s u
  pub taken : TakesLeft s conn u
  pub there : is_connected u.front conn ≡ true
  pub reads : Reads relieved_is.client.decoder decoder piece more
  pub run_state_is : m ≡ record u { clients = on_client conn (reading decoder more) u.clients }

pub has_fed : (conn at : ℕ) (piece : List ℕ) (s u : DeskRunState) (ports : List Port) (p q : Port) → IsRelieved conn s u → TakesLeft s conn u → is_connected u.front conn ≡ true
    → u.clients ≡ map client_of ports → IsFirstAt (map client_of ports) conn at → p ≡ get_or ports at p
    → Reads p.decoder q.decoder piece (client_of q).left → client_of q ≡ reading q.decoder (client_of q).left (client_of p)
    → HasFed conn piece s u (record u { clients = map client_of (slice_set ports at q) }) q.decoder (client_of q).left
has_fed conn at piece s u ports p q is taken on clients place value reads client =
    let change = reading q.decoder (client_of q).left in
    record {
      relieved_is = is;
      taken = taken;
      there = on;
      reads = subst (λ (d : Decoding). Reads d q.decoder piece (client_of q).left) (port_reads piece is ports at p clients place value) reads;
      run_state_is =
          ap (λ (cs : List Client). record u { clients = cs }) (port_changed ports conn at p q change place value client ∙ ap (on_client conn change) (sym clients));
    }

module _ {conn : ℕ} {piece : List ℕ} {s u m : DeskRunState} {decoder : Decoding} {more : List ClientMessage} (fed : HasFed conn piece s u m decoder more) where
  abbrev here : Client
  here = fed.relieved_is.client

  clients_are : m.clients ≡ on_client conn (reading decoder more) u.clients
  clients_are = ap (λ (v : DeskRunState). v.clients) fed.run_state_is

  now : IsHere m conn (reading decoder more (relieved (left_of u conn) here))
  now = here_changed u m conn (relieved (left_of u conn) here) (reading decoder more) (λ d. refl) clients_are (here_left piece fed.relieved_is)

  left_now : left_of m conn ≡ more
  left_now = ap left_among now.found

  -- the messages are taken as where only the decoder went on
  begins : with_left m conn [] ≡ with_decoder u conn decoder
  begins =
      let none = all_taken conn s u fed.taken in
      let gave : on_client conn (relieved []) (on_client conn (reading decoder more) u.clients) ≡ on_client conn (reading decoder []) u.clients =
      on_client-twice conn (reading decoder more) (relieved []) u.clients (λ d. refl) in
      let alike : on_client conn (reading decoder []) u.clients ≡ on_client conn (λ c. record c { decoder = decoder }) u.clients =
      on_client-alike conn (reading decoder []) (λ c. record c { decoder = decoder }) u.clients (λ c found. ap (λ (ms : List ClientMessage). reading decoder ms c) (sym (sym (ap left_among found) ∙ none))) in
      ap (λ (v : DeskRunState). with_left v conn []) fed.run_state_is ∙ ap (λ (cs : List Client). record u { clients = cs }) (gave ∙ alike)

  took_more : (v : DeskRunState) → TakesLeft m conn v → TakesAll (with_decoder u conn decoder) conn more v
  took_more v h =
      subst (λ (t : DeskRunState). TakesAll t conn more v) begins (subst (λ (ms : List ClientMessage). TakesAll (with_left m conn []) conn ms v) left_now h)

  pub fed_stops : (v : DeskRunState) → StopsBefore m conn v → StopsBehind s conn piece v
  fed_stops v h = record {
    mid = u;
    before = here.decoder;
    decoder = decoder;
    more = more;
    unread = record { leftovers = fed.taken; there = fed.there };
    was = ap (option_map (λ (d : Client). d.decoder)) fed.relieved_is.here.found;
    reads = fed.reads;
    first = subst (λ (t : DeskRunState). TakesFirst t conn more v) begins (subst (λ (ms : List ClientMessage). TakesFirst (with_left m conn []) conn ms v) left_now h);
  }

  -- all messages of the piece were taken
  pub stream_all : (n p : DeskRunState) → TakesLeft m conn n → p ≡ after_frame decoder.is_bad n conn → TakesStream s conn piece p
  stream_all n p taken after =
      let piece_is : TakesPiece u conn here.decoder piece p = record { decoder = decoder; more = more; last = n; reads = fed.reads; takes = took_more n taken; after = after } in
      bytes_from s conn here piece p fed.relieved_is.here
      (record { mid = u; leftovers = fed.taken; reading = subst (λ (x : Bool). MatchBool x (TakesPiece u conn here.decoder piece p) (p ≡ u)) (sym fed.there) piece_is })
