-- The messages that are left of a connection are taken one after the other.
use Rattle.std.proofs.Common.{◌≡◌, ℕ, ◌<◌, Bool, true, false, true≢false, Ok, List, [], ◌∷◌, ◌++◌, length, map, Option, Some, None, refl, sym, ap, ◌∙◌, subst, append_assoc, get_or, arith}
use Rattle.std.specs.Prelude.{⊤, is_some, slice_set, nat_lt}
use Rattle.std.proofs.lemmas.Bool.Decides.{nat_tests}
use Rattle.std.proofs.lemmas.List.{append-nil}
use Rattle.std.specs.Option.{option_map}
use Rattle.fe_keeper.specs.Keeper.{KeeperState}
use Rattle.fe_disk.specs.declared.disk.Disk.{Ghosts}
use Rattle.fe_state.specs.State.{ServerState, after_all}
use Rattle.fe_state.specs.History.{AreLegal}
use Rattle.fe_state.specs.declared.entry.Entry.{Entry}
use Rattle.fe_state.proofs.Histories.{legal-append, after-append}
use Rattle.fe_wire.specs.declared.client_message.ClientMessage.{ClientMessage}
use Rattle.fe_front.specs.Front.{FrontState}
use Rattle.fe_desk.specs.DeskRunState.{Client, DeskRunState}
use Rattle.fe_desk.specs.Room.{roomy}
use Rattle.fe_messages.specs.Taking.{Takes, Enters}
use Rattle.fe_desk.specs.Steps.{TakesOne, TakesAll, find, on_client, with_left}
use Rattle.fe_desk.specs.Messages.{left_of}
use Rattle.fe_desk.specs.within.Desk.{IsFirstAt, HasStore, Stays, IsAhead, IsDesk, IsReady, IsHanded, unstored, client_of}
use Rattle.fe_desk.specs.Crash.{DeskState}
use Rattle.fe_desk.specs.declared.port.Port.{Port}
use Rattle.fe_desk.specs.Acknowledged.{cut_entries}
use Rattle.fe_desk.proofs.Places.{numbers, numbers_changed, first_by_numbers, found_first, port_here, port_changed}
use Rattle.fe_desk.proofs.Reading.{on_client-twice, find-on_client, found-on_client, relieved, none_left, left_among, with_clients, roomy-clients, roomy-keeps, takes_all-append, on_client-stays}
use Rattle.fe_desk.proofs.Advancing.{desk_as}
use Rattle.fe_desk.specs.within.Goes.{Goes, Is}
use Rattle.fe_desk.proofs.Goes.{OnlyNow, then, stays, stays_itself, after}

-- ---- the store side of a desk whose front entries entered

tied_enters : (s t : DeskRunState) (replica : ServerState) (es : List Entry) → t.handed ≡ s.handed → Enters s.front es t.front → IsAhead s replica → IsAhead t replica
tied_enters s t replica es handed enters tied =
    let more : unstored t ≡ unstored s ++ es =
    ap (λ h. cut_entries h ++ t.front.service.pending) handed ∙ ap (λ (xs : List Entry). cut_entries s.handed ++ xs) enters.pending
    ∙ sym (append_assoc (cut_entries s.handed) s.front.service.pending es) in
    record {
      handed = subst (λ h. IsHanded h t.front.out) (sym handed) (subst (λ o. IsHanded s.handed o) (sym enters.out) tied.handed);
      legal =
          subst (AreLegal replica) (sym more)
          (legal-append replica (unstored s) es tied.legal (subst (λ (x : ServerState). AreLegal x es) tied.state enters.legal));
      state =
          enters.state ∙ ap (λ (x : ServerState). after_all x es) tied.state ∙ sym (after-append replica (unstored s) es)
          ∙ ap (after_all replica) (sym more);
    }

-- a desk where entries entered and a client changed
pub desk_enters : {D : Type 0} (model : Ghosts D) (old new : DeskState D) (es : List Entry) (conn : ℕ) (change : Client → Client)
    → HasStore old new → new.run_state.handed ≡ old.run_state.handed → Enters old.run_state.front es new.run_state.front → new.run_state.clients ≡ on_client conn change old.run_state.clients
    → ((c : Client) → (change c).conn ≡ c.conn) → IsDesk model old → IsDesk model new
desk_enters {D} model old new es conn change same handed enters clients keeps desk =
    let tied : IsAhead new.run_state new.keeper.state =
    subst (λ (k : KeeperState D). IsAhead new.run_state k.state) (sym same.keeper) (tied_enters old.run_state new.run_state old.keeper.state es handed enters desk.tied) in
    desk_as model old new desk same tied
    (λ k on. ap (λ (cs : List Client). is_some (find k cs)) clients ∙ found-on_client conn change old.run_state.clients k keeps ∙ desk.known k (enters.none_comes k on))

-- ---- the port of a client

-- The first message that is left of a connection is taken, maybe refused, by the front; the others are left.
pub record TakesNext (s : DeskRunState) (conn : ℕ) (t : DeskRunState) : Type 0 where
  pub message : ClientMessage
  pub left : List ClientMessage
  pub entries : List Entry
  pub front : FrontState
  pub first : left_of s conn ≡ message ∷ left
  pub takes : Takes s.front conn message entries front
  pub after : t ≡ record (with_left s conn left) { front = front }

pub left_here : (ports : List Port) (conn at : ℕ) (p : Port) → IsFirstAt (map client_of ports) conn at → p ≡ get_or ports at p → left_among (find conn (map client_of ports)) ≡ (client_of p).left
left_here ports conn at p place is = ap left_among (found_first (map client_of ports) conn at (client_of p) place (port_here ports conn at p place is))

some_of : (ms : List ClientMessage) (b : Bool) → b ≡ nat_lt 0 (length ms) → b ≡ true → 0 < length ms
some_of ms b is on = grind (arith, nat_tests)

none_of : (ms : List ClientMessage) (b : Bool) → b ≡ nat_lt 0 (length ms) → b ≡ false → ms ≡ []
none_of [] b is off = refl
none_of (m ∷ ms) b is off = absurd (grind (arith, nat_tests))

-- whether messages are left of a port
pub some_left : (ports : List Port) (conn at : ℕ) (p : Port) (b : Bool) → IsFirstAt (map client_of ports) conn at → p ≡ get_or ports at p → b ≡ nat_lt 0 (length (client_of p).left) → b ≡ true
    → 0 < length (left_among (find conn (map client_of ports)))
some_left ports conn at p b place is has on =
    subst (λ (ms : List ClientMessage). 0 < length ms) (sym (left_here ports conn at p place is)) (some_of (client_of p).left b has on)

pub none_left_here : (ports : List Port) (conn at : ℕ) (p : Port) (b : Bool) → IsFirstAt (map client_of ports) conn at → p ≡ get_or ports at p → b ≡ nat_lt 0 (length (client_of p).left) → b ≡ false
    → left_among (find conn (map client_of ports)) ≡ []
none_left_here ports conn at p b place is has off = left_here ports conn at p place is ∙ none_of (client_of p).left b has off

-- the first message left of a port was taken
pub port_next : (s : DeskRunState) (ports : List Port) (conn at : ℕ) (p q : Port) (m : ClientMessage) (es : List Entry) (g : FrontState) → s.clients ≡ map client_of ports
    → IsFirstAt (map client_of ports) conn at → p ≡ get_or ports at p → (client_of p).left ≡ m ∷ (client_of q).left → client_of q ≡ relieved (client_of q).left (client_of p)
    → Takes s.front conn m es g → TakesNext s conn (record s { front = g; clients = map client_of (slice_set ports at q) })
port_next s ports conn at p q m es g clients place is first client takes =
    record {
      message = m;
      left = (client_of q).left;
      entries = es;
      front = g;
      first = ap (λ (cs : List Client). left_among (find conn cs)) clients ∙ left_here ports conn at p place is ∙ first;
      takes = takes;
      after =
          ap (λ (cs : List Client). record s { front = g; clients = cs })
          (port_changed ports conn at p q (relieved (client_of q).left) place is client ∙ ap (on_client conn (relieved (client_of q).left)) (sym clients));
    }

-- ---- one message

-- a message that is left was taken where room was made
pub next_one : (s r t : DeskRunState) (conn : ℕ) → r ≡ roomy s conn → (next : TakesNext r conn t)
    → TakesOne (with_left s conn []) conn next.message (with_left t conn [])
next_one s r t conn room next =
    let cs = on_client conn (relieved []) s.clients in
    let roomy_is : roomy (with_left s conn []) conn ≡ with_clients r cs = roomy-clients s conn cs ∙ ap (λ (u : DeskRunState). with_clients u cs) (sym room) in
    let clients : on_client conn (relieved []) (on_client conn (relieved next.left) r.clients) ≡ cs =
    on_client-twice conn (relieved next.left) (relieved []) r.clients (λ c. refl)
    ∙ ap (on_client conn (relieved [])) (ap (λ (u : DeskRunState). u.clients) room ∙ roomy-keeps s conn) in
    record {
      entries = next.entries;
      front = next.front;
      takes = subst (λ (u : DeskRunState). Takes u.front conn next.message next.entries next.front) (sym roomy_is) next.takes;
      after =
          ap (λ (u : DeskRunState). with_left u conn []) next.after
          ∙ ap (λ (ds : List Client). record r { clients = ds; front = next.front }) clients
          ∙ ap (λ (u : DeskRunState). record u { front = next.front }) (sym roomy_is);
    }

-- ---- as far as messages were taken

-- The first messages that were left of a connection were taken, up to those that are left now.
pub record IsTaken (conn : ℕ) (s t : DeskRunState) : Type 0 where
  pub clients : t.clients ≡ on_client conn (relieved (left_of t conn)) s.clients
  pub first : List ClientMessage
  pub rest : left_of s conn ≡ first ++ left_of t conn
  pub took : TakesAll (with_left s conn []) conn first (with_left t conn [])

pub left-relieved : (conn : ℕ) (left : List ClientMessage) (cs : List Client) → is_some (find conn cs) ≡ true → left_among (find conn (on_client conn (relieved left) cs)) ≡ left
left-relieved conn left cs here = ap left_among (find-on_client conn (relieved left) cs (λ c. refl)) ∙ by (find conn cs) here
  where
    by : (found : Option Client) → is_some found ≡ true → left_among (option_map (relieved left) found) ≡ left
    by None e = absurd (true≢false (sym e))
    by (Some c) e = refl

pub taken_none : (conn : ℕ) (s : DeskRunState) → IsTaken conn s s
taken_none conn s = record {
  clients = sym (on_client-stays conn (relieved (left_of s conn)) s.clients (λ c here. ap (λ (left : List ClientMessage). relieved left c) (ap left_among here)));
  first = [];
  rest = refl;
  took = refl;
}

-- one message more
pub taken_next : (conn : ℕ) (s a r t : DeskRunState) → is_some (find conn s.clients) ≡ true → r ≡ roomy a conn → IsTaken conn s a → TakesNext r conn t → IsTaken conn s t
taken_next conn s a r t here room taken next =
    let room_clients : r.clients ≡ a.clients = ap (λ (u : DeskRunState). u.clients) room ∙ roomy-keeps a conn in
    let before : left_of a conn ≡ next.message ∷ next.left = ap (λ (cs : List Client). left_among (find conn cs)) (sym room_clients) ∙ next.first in
    let clients : t.clients ≡ on_client conn (relieved next.left) s.clients =
    ap (λ (u : DeskRunState). u.clients) next.after ∙ ap (on_client conn (relieved next.left)) (room_clients ∙ taken.clients)
    ∙ on_client-twice conn (relieved (left_of a conn)) (relieved next.left) s.clients (λ c. refl) in
    let left : left_of t conn ≡ next.left = ap (λ (cs : List Client). left_among (find conn cs)) clients ∙ left-relieved conn next.left s.clients here in
    record {
      clients = clients ∙ ap (λ (ms : List ClientMessage). on_client conn (relieved ms) s.clients) (sym left);
      first = taken.first ++ next.message ∷ [];
      rest = taken.rest ∙ ap (λ (ms : List ClientMessage). taken.first ++ ms) (before ∙ ap (λ (ms : List ClientMessage). next.message ∷ ms) (sym left)) ∙ sym (append_assoc taken.first (next.message ∷ []) (left_of t conn));
      took =
          takes_all-append (with_left s conn []) conn taken.first (next.message ∷ []) (with_left a conn []) (with_left t conn []) taken.took
          (with_left t conn [], next_one a r t conn room next, refl);
    }

-- and one is left less
pub fewer_left : (a r t : DeskRunState) (conn : ℕ) → r.clients ≡ a.clients → is_some (find conn a.clients) ≡ true → TakesNext r conn t → length (left_of t conn) < length (left_of a conn)
fewer_left a r t conn clients here next =
    let before : left_of a conn ≡ next.message ∷ next.left = ap (λ (cs : List Client). left_among (find conn cs)) (sym clients) ∙ next.first in
    let now : left_of t conn ≡ next.left =
    ap (λ (u : DeskRunState). left_of u conn) next.after ∙ left-relieved conn next.left r.clients (ap (λ (cs : List Client). is_some (find conn cs)) clients ∙ here) in
    omega (arith, ap length before, ap length now)

-- no message is left
pub taken_all : (conn : ℕ) (s t : DeskRunState) → left_of t conn ≡ [] → IsTaken conn s t → TakesAll (with_left s conn []) conn (left_of s conn) t
taken_all conn s t none taken =
    subst (λ (u : DeskRunState). TakesAll (with_left s conn []) conn (left_of s conn) u) (none_left t conn none)
    (subst (λ (ms : List ClientMessage). TakesAll (with_left s conn []) conn ms (with_left t conn []))
    (sym (taken.rest ∙ ap (λ (ms : List ClientMessage). taken.first ++ ms) none ∙ append-nil taken.first)) taken.took)

pub clients_then : (conn : ℕ) (s a u : DeskRunState) → u.clients ≡ a.clients → IsTaken conn s a → u.clients ≡ (with_left s conn (left_of u conn)).clients
clients_then conn s a u clients taken =
    clients ∙ taken.clients ∙ ap (λ (cs : List Client). on_client conn (relieved (left_among (find conn cs))) s.clients) (sym clients)

-- ---- the loop

-- messages of the connection whose client is there were taken as far as to a desk
pub record Going {D : Type 0} (k : Ghosts D) (conn at : ℕ) (old new : DeskState D) : Type 0 where
  pub place : IsFirstAt new.run_state.clients conn at
  pub taken : IsTaken conn old.run_state new.run_state
  pub goes : Goes k (λ s. ⊤) (λ d. ⊤) (λ s. ⊤) (Ok tt) old new

pub place_as : (clients others : List Client) (conn at : ℕ) → others ≡ clients → IsFirstAt clients conn at → IsFirstAt others conn at
place_as clients others conn at same place = subst (λ (cs : List Client). IsFirstAt cs conn at) (sym same) place

module _ {D : Type 0} {k : Ghosts D} (conn at : ℕ) where
  pub going_first : (d : DeskState D) → OnlyNow k → IsReady k d → IsFirstAt d.run_state.clients conn at → Going k conn at d d
  going_first d only_now ready place = record { place = place; taken = taken_none conn d.run_state; goes = stays only_now ready stays_itself tt }

  pub going_on : {Q : DeskState D → Type 0} {R : DeskRunState → Type 0} {x : Unit {0}} (old a r t : DeskState D) → is_some (find conn old.run_state.clients) ≡ true → Going k conn at old a
      → Goes k (Is (roomy a.run_state conn)) Q R (Ok x) a r → TakesNext r.run_state conn t.run_state → Stays k r t → Going k conn at old t
  going_on old a r t here going room next same =
      let clients : r.run_state.clients ≡ a.run_state.clients = ap (λ (u : DeskRunState). u.clients) room.ends.1 ∙ roomy-keeps a.run_state conn in
      let changed : numbers t.run_state.clients ≡ numbers a.run_state.clients =
      ap (λ (u : DeskRunState). numbers u.clients) next.after ∙ numbers_changed r.run_state.clients conn (relieved next.left) (λ c. refl) ∙ ap numbers clients in
      record {
        place = first_by_numbers a.run_state.clients t.run_state.clients conn at changed going.place;
        taken = taken_next conn old.run_state a.run_state r.run_state t.run_state here room.ends.1 going.taken next;
        goes = after (then going.goes room) same tt;
      }
