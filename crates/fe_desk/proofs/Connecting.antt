-- What a connection that comes or goes leaves of a desk: the store's side, and what ties the front to it.
use Rattle.std.proofs.Common.{◌≡◌, ℕ, Bool, true, false, inl, inr, List, [], ◌∷◌, ◌++◌, map, Option, None, is_some, slice_set, get_or, refl, sym, ap, subst, ◌∙◌}
use Rattle.std.specs.Prelude.{if◌then◌else◌}
use Rattle.fe_state.proofs.Maps.{get_beside, same_or_other}
use Rattle.fe_state.specs.History.{AreLegal}
use Rattle.fe_state.specs.State.{after_all}
use Rattle.fe_state.specs.declared.entry.Entry.{Entry}
use Rattle.fe_mail.specs.Connections.{first_connection}
use Rattle.fe_mail.specs.declared.connection.Connection.{Connection}
use Rattle.fe_wire.specs.Stream.{Decoding}
use Rattle.fe_keeper.specs.Keeper.{KeeperState}
use Rattle.fe_front.specs.Front.{FrontState, is_connected}
use Rattle.fe_front.specs.Steps.{connected, dropped}
use Rattle.fe_front.proofs.Keeping.{dropped-keeps}
use Rattle.fe_desk.specs.declared.port.Port.{Port}
use Rattle.fe_desk.specs.DeskRunState.{Client, DeskRunState}
use Rattle.fe_desk.specs.Room.{is_making, unmade}
use Rattle.fe_desk.specs.Steps.{find, on_client, with_left, gone, new_client, clients_with, BeginsStream, Connects}
use Rattle.fe_desk.specs.within.Desk.{IsFirstAt, Joins, IsDesk, IsHanded, client_of, Stays}
use Rattle.fe_desk.specs.Crash.{DeskState}
use Rattle.fe_desk.specs.Acknowledged.{cut_entries}
use Rattle.fe_desk.proofs.Places.{numbers_changed, found_by_numbers, found_more, found_last, found_there, port_changed}
use Rattle.fe_disk.specs.declared.disk.Disk.{Ghosts}

-- ---- the front and the clients change, and not the store

-- who is connected is known among the clients
abbrev pub AreKnown : FrontState → List Client → Type 0
AreKnown f clients = (conn : ℕ) → is_connected f conn ≡ true → is_some (find conn clients) ≡ true

-- the state, what is pending and what is out stay
pub record KeepsMade (f g : FrontState) : Type 0 where
  pub state : g.service.state ≡ f.service.state
  pub pending : g.service.pending ≡ f.service.pending
  pub out : g.out ≡ f.out

abbrev moved : DeskRunState → FrontState → List Client → Option ℕ → Bool → DeskRunState
moved s f clients making owes = record s { front = f; clients = clients; making = making; owes = owes }

abbrev desk_at : {D : Type 0} → DeskRunState → KeeperState D → ℕ → DeskState D
desk_at s k n = record { run_state = s; keeper = k; synced = n }

moved_desk : {D : Type 0} (model : Ghosts D) (s : DeskRunState) (k : KeeperState D) (n : ℕ) (f : FrontState) (clients : List Client) (making : Option ℕ) (owes : Bool)
    → IsDesk model (desk_at s k n) → KeepsMade s.front f → AreKnown f clients → IsDesk model (desk_at (moved s f clients making owes) k n)
moved_desk model s k n f clients making owes desk keeps known = record {
  tied = record {
    handed = subst (IsHanded s.handed) (sym keeps.out) desk.tied.handed;
    legal = subst (λ (p : List Entry). AreLegal k.state (cut_entries s.handed ++ p)) (sym keeps.pending) desk.tied.legal;
    state = keeps.state ∙ desk.tied.state ∙ ap (λ (p : List Entry). after_all k.state (cut_entries s.handed ++ p)) (sym keeps.pending);
  };
  known = known;
  few = desk.few;
  all = desk.all;
  upheld = λ honest begun from image may. desk.upheld honest begun (record { history = from.history; replica = from.replica }) image may;
}

-- ---- room is made for nobody

abbrev unmade_for : DeskRunState → ℕ → Option ℕ
unmade_for s conn = if is_making s conn then None else s.making

unmade_apart : (s : DeskRunState) (conn : ℕ) (f : FrontState) (clients : List Client)
    → record (unmade s conn) { front = f; clients = clients } ≡ moved s f clients (unmade_for s conn) s.owes
unmade_apart s conn f clients = by (is_making s conn)
  where
    by : (b : Bool) → record (if b then record s { making = None } else s) { front = f; clients = clients }
        ≡ moved s f clients (if b then None else s.making) s.owes
    by true = refl
    by false = refl

-- ---- a connection comes

came_known : (clients : List Client) (conn : ℕ) (d : Decoding) (q : ℕ) → is_some (find q clients) ≡ true → is_some (find q (clients_with clients conn d)) ≡ true
came_known clients conn d q is = by (is_some (find conn clients))
  where
    by : (b : Bool) → is_some (find q (if b then on_client conn (λ c. record c { decoder = d; left = [] }) clients else clients ++ new_client conn d ∷ [])) ≡ true
    by true = found_by_numbers clients (on_client conn (λ c. record c { decoder = d; left = [] }) clients) q (numbers_changed clients conn (λ c. record c { decoder = d; left = [] }) (λ c. refl)) ∙ is
    by false = found_more clients (new_client conn d) q is

came_itself : (clients : List Client) (conn : ℕ) (d : Decoding) → is_some (find conn (clients_with clients conn d)) ≡ true
came_itself clients conn d = by (is_some (find conn clients)) refl
  where
    by : (b : Bool) → is_some (find conn clients) ≡ b
        → is_some (find conn (if b then on_client conn (λ c. record c { decoder = d; left = [] }) clients else clients ++ new_client conn d ∷ [])) ≡ true
    by true is = found_by_numbers clients (on_client conn (λ c. record c { decoder = d; left = [] }) clients) conn (numbers_changed clients conn (λ c. record c { decoder = d; left = [] }) (λ c. refl)) ∙ is
    by false is = found_last clients (new_client conn d)

came_all : (f : FrontState) (clients : List Client) (conn : ℕ) (d : Decoding) → AreKnown f clients → AreKnown (connected f conn) (clients_with clients conn d)
came_all f clients conn d known q there = elim (same_or_other q conn) [
  | inl e ↦ ap (λ (x : ℕ). is_some (find x (clients_with clients conn d))) e ∙ came_itself clients conn d
  | inr ne ↦ came_known clients conn d q (known q (sym (ap (λ (o : Option Connection). is_some o) (get_beside f.connections conn first_connection q ne)) ∙ there))
]

-- it came, and no room is being made for it then
pub connects : (s : DeskRunState) (f : FrontState) (clients : List Client) (conn : ℕ) → Joins s.front s.clients conn f clients → Connects s conn (moved s f clients (unmade_for s conn) s.owes)
connects s f clients conn joins = record {
  decoder = joins.decoder;
  begins = joins.begins;
  after = ap (λ (g : FrontState). moved s g clients (unmade_for s conn) s.owes) joins.front ∙ ap (λ (cs : List Client). moved s (connected s.front conn) cs (unmade_for s conn) s.owes) joins.clients
      ∙ sym (unmade_apart s conn (connected s.front conn) (clients_with s.clients conn joins.decoder));
}

-- what ties a desk stays
pub connects_stays : {D : Type 0} (model : Ghosts D) (s : DeskRunState) (k : KeeperState D) (n : ℕ) (f : FrontState) (clients : List Client) (conn : ℕ)
    → Joins s.front s.clients conn f clients → Stays model (desk_at s k n) (desk_at (moved s f clients (unmade_for s conn) s.owes) k n)
connects_stays model s k n f clients conn joins =
    let known : AreKnown s.front s.clients → AreKnown f clients = λ known.
    subst (λ (g : FrontState). AreKnown g clients) (sym joins.front) (subst (λ (cs : List Client). AreKnown (connected s.front conn) cs) (sym joins.clients) (came_all s.front s.clients conn joins.decoder known)) in
    record {
      desk = λ desk. moved_desk model s k n f clients (unmade_for s conn) s.owes desk (record { state = ap (λ (g : FrontState). g.service.state) joins.front; pending = ap (λ (g : FrontState). g.service.pending) joins.front; out = ap (λ (g : FrontState). g.out) joins.front }) (known desk.known);
      store = record { keeper = refl; groups = refl; synced = refl };
      owes = refl;
    }

-- and where it did not come
pub refused_same : (s : DeskRunState) (f : FrontState) (clients : List Client) → f ≡ s.front → clients ≡ s.clients → record s { front = f; clients = clients } ≡ s
refused_same s f clients front same = ap (λ (g : FrontState). record s { front = g; clients = clients }) front ∙ ap (λ (cs : List Client). record s { clients = cs }) same

-- whoever room is made for
pub making_stays : {D : Type 0} (model : Ghosts D) (s : DeskRunState) (k : KeeperState D) (n : ℕ) (making : Option ℕ) → Stays model (desk_at s k n) (desk_at (record s { making = making }) k n)
making_stays model s k n making = record {
  desk = λ desk. moved_desk model s k n s.front s.clients making s.owes desk (record { state = refl; pending = refl; out = refl }) desk.known;
  store = record { keeper = refl; groups = refl; synced = refl };
  owes = refl;
}

-- ---- a connection goes

gone_moved : (s : DeskRunState) (conn : ℕ) → gone s conn ≡ moved s (dropped s.front conn) (on_client conn (λ c. record c { left = [] }) s.clients) (unmade_for s conn) s.owes
gone_moved s conn = by (is_making s conn)
  where
    by : (b : Bool) → record (with_left (if b then record s { making = None } else s) conn []) { front = dropped s.front conn }
        ≡ moved s (dropped s.front conn) (on_client conn (λ c. record c { left = [] }) s.clients) (if b then None else s.making) s.owes
    by true = refl
    by false = refl

-- the front lets it go, its messages are forgotten, and no room is being made for it
pub goes : (s : DeskRunState) (f : FrontState) (clients : List Client) (conn : ℕ) → f ≡ dropped s.front conn → clients ≡ on_client conn (λ c. record c { left = [] }) s.clients
    → moved s f clients (unmade_for s conn) s.owes ≡ gone s conn
goes s f clients conn front left =
    ap (λ (g : FrontState). moved s g clients (unmade_for s conn) s.owes) front ∙ ap (λ (cs : List Client). moved s (dropped s.front conn) cs (unmade_for s conn) s.owes) left ∙ sym (gone_moved s conn)

pub gone_stays : {D : Type 0} (model : Ghosts D) (s : DeskRunState) (k : KeeperState D) (n : ℕ) (f : FrontState) (clients : List Client) (conn : ℕ) → f ≡ dropped s.front conn → clients ≡ on_client conn (λ c. record c { left = [] }) s.clients
    → Stays model (desk_at s k n) (desk_at (moved s f clients (unmade_for s conn) s.owes) k n)
gone_stays model s k n f clients conn front left =
    let cs = on_client conn (λ c. record c { left = [] }) s.clients in
    let keeps = dropped-keeps s.front conn in
    let known : AreKnown s.front s.clients → AreKnown (dropped s.front conn) cs = λ known q there. found_by_numbers s.clients cs q (numbers_changed s.clients conn (λ c. record c { left = [] }) (λ c. refl)) ∙ known q (keeps.none_comes q there) in
    let is : KeepsMade s.front (dropped s.front conn) = record { state = keeps.state; pending = keeps.pending; out = keeps.out } in
    record {
      desk = λ desk. moved_desk model s k n f clients (unmade_for s conn) s.owes desk (subst (KeepsMade s.front) (sym front) is)
          (subst (λ (g : FrontState). AreKnown g clients) (sym front) (subst (AreKnown (dropped s.front conn)) (sym left) (known desk.known)));
      store = record { keeper = refl; groups = refl; synced = refl };
      owes = refl;
    }

-- ---- from the calls on ports

-- a number's port begins anew
pub joins_again : (f g : FrontState) (ports : List Port) (conn at : ℕ) (p q : Port) → IsFirstAt (map client_of ports) conn at → p ≡ get_or ports at p
    → client_of q ≡ record (client_of p) { decoder = q.decoder; left = [] } → BeginsStream q.decoder → g ≡ connected f conn
    → Joins f (map client_of ports) conn g (map client_of (slice_set ports at q))
joins_again f g ports conn at p q first is to begins front =
    let change : Client → Client = λ c. record c { decoder = q.decoder; left = [] } in
    let known : is_some (find conn (map client_of ports)) ≡ true = found_there (map client_of ports) conn at first in
    record {
      decoder = q.decoder;
      begins = begins;
      front = front;
      clients = port_changed ports conn at p q change first is to
          ∙ ap (λ (b : Bool). if b then on_client conn change (map client_of ports) else map client_of ports ++ new_client conn q.decoder ∷ []) (sym known);
    }
