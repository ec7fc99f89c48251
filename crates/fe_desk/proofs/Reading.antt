-- Clients by their numbers, and messages taken one after another, whatever stands among the clients.
use Rattle.std.proofs.Common.{◌≡◌, ℕ, Bool, true, false, List, [], ◌∷◌, ◌++◌, map, Option, Some, None, refl, sym, ap, ◌∙◌, subst, if◌then◌else◌}
use Rattle.std.specs.Prelude.{nat_eq, is_some}
use Rattle.std.specs.Option.{option_map, option_map_or}
use Rattle.fe_wire.specs.declared.client_message.ClientMessage.{ClientMessage}
use Rattle.fe_front.specs.Front.{has_room}
use Rattle.fe_desk.specs.declared.handed.Handed.{Handed}
use Rattle.fe_desk.specs.declared.handed.Handed.TheVariants.{Nothing, Cut, Stored}
use Rattle.fe_desk.specs.DeskRunState.{Client, DeskRunState, cut, stored, stored_from, posted, posted_from, cleared}
use Rattle.fe_desk.specs.Room.{begun_room, is_making, made, roomy, with_room}
use Rattle.fe_desk.specs.Steps.{TakesAll, find, on_client, with_left}
use Rattle.fe_desk.specs.Messages.{left_of}

-- ---- one client among others

pub on_client-twice : (conn : ℕ) (f g : Client → Client) (cs : List Client) → ((c : Client) → (f c).conn ≡ c.conn) → on_client conn g (on_client conn f cs) ≡ on_client conn (λ c. g (f c)) cs
on_client-twice conn f g [] same = refl
on_client-twice conn f g (c ∷ cs) same = by (nat_eq c.conn conn) refl (on_client-twice conn f g cs same)
  where
    by : (b : Bool) → nat_eq c.conn conn ≡ b → on_client conn g (on_client conn f cs) ≡ on_client conn (λ d. g (f d)) cs → on_client conn g (if b then f c ∷ cs else c ∷ on_client conn f cs) ≡ (if b then g (f c) ∷ cs else c ∷ on_client conn (λ c. g (f c)) cs)
    by true e rest =
        let here : nat_eq (f c).conn conn ≡ true = ap (λ (n : ℕ). nat_eq n conn) (same c) ∙ e in
        ap (λ (b : Bool). if b then g (f c) ∷ cs else f c ∷ on_client conn g cs) here
    by false e rest =
        ap (λ (b : Bool). if b then g c ∷ on_client conn f cs else c ∷ on_client conn g (on_client conn f cs)) e ∙ ap (λ (ds : List Client). c ∷ ds) rest

pub find-on_client : (conn : ℕ) (f : Client → Client) (cs : List Client) → ((c : Client) → (f c).conn ≡ c.conn) → find conn (on_client conn f cs) ≡ option_map f (find conn cs)
find-on_client conn f [] same = refl
find-on_client conn f (c ∷ cs) same = by (nat_eq c.conn conn) refl (find-on_client conn f cs same)
  where
    by : (b : Bool) → nat_eq c.conn conn ≡ b → find conn (on_client conn f cs) ≡ option_map f (find conn cs) → find conn (if b then f c ∷ cs else c ∷ on_client conn f cs) ≡ option_map f (if b then Some c else find conn cs)
    by true e rest =
        let here : nat_eq (f c).conn conn ≡ true = ap (λ (n : ℕ). nat_eq n conn) (same c) ∙ e in
        ap (λ (b : Bool). if b then Some (f c) else find conn cs) here
    by false e rest = ap (λ (b : Bool). if b then Some c else find conn (on_client conn f cs)) e ∙ rest

found_behind : (c d : Client) (cs ds : List Client) (k : ℕ) → d.conn ≡ c.conn → is_some (find k ds) ≡ is_some (find k cs) → is_some (find k (d ∷ ds)) ≡ is_some (find k (c ∷ cs))
found_behind c d cs ds k same rest = ap (λ (n : ℕ). is_some (if nat_eq n k then Some d else find k ds)) same ∙ by (nat_eq c.conn k)
  where
    by : (b : Bool) → is_some (if b then Some d else find k ds) ≡ is_some (if b then Some c else find k cs)
    by true = refl
    by false = rest

-- no number comes and none goes
pub found-on_client : (conn : ℕ) (f : Client → Client) (cs : List Client) (k : ℕ) → ((c : Client) → (f c).conn ≡ c.conn) → is_some (find k (on_client conn f cs)) ≡ is_some (find k cs)
found-on_client conn f [] k same = refl
found-on_client conn f (c ∷ cs) k same = by (nat_eq c.conn conn) (found-on_client conn f cs k same)
  where
    by : (b : Bool) → is_some (find k (on_client conn f cs)) ≡ is_some (find k cs) → is_some (find k (if b then f c ∷ cs else c ∷ on_client conn f cs)) ≡ is_some (find k (c ∷ cs))
    by true rest = found_behind c (f c) cs cs k (same c) refl
    by false rest = found_behind c c cs (on_client conn f cs) k refl rest

-- where the one client stays, all do
pub on_client-stays : (conn : ℕ) (f : Client → Client) (cs : List Client) → ((c : Client) → find conn cs ≡ Some c → f c ≡ c) → on_client conn f cs ≡ cs
on_client-stays conn f [] stays = refl
on_client-stays conn f (c ∷ cs) stays = by (nat_eq c.conn conn) refl (on_client-stays conn f cs)
  where
    by : (b : Bool) → nat_eq c.conn conn ≡ b → (((d : Client) → find conn cs ≡ Some d → f d ≡ d) → on_client conn f cs ≡ cs) → (if b then f c ∷ cs else c ∷ on_client conn f cs) ≡ c ∷ cs
    by true e rest = ap (λ (d : Client). d ∷ cs) (stays c (ap (λ (b : Bool). if b then Some c else find conn cs) e))
    by false e rest =
        ap (λ (ds : List Client). c ∷ ds) (rest (λ d h. stays d (ap (λ (b : Bool). if b then Some c else find conn cs) e ∙ h)))

-- two changes that do the same to the one client
pub on_client-alike : (conn : ℕ) (f g : Client → Client) (cs : List Client) → ((c : Client) → find conn cs ≡ Some c → f c ≡ g c) → on_client conn f cs ≡ on_client conn g cs
on_client-alike conn f g [] alike = refl
on_client-alike conn f g (c ∷ cs) alike = by (nat_eq c.conn conn) refl (on_client-alike conn f g cs)
  where
    by : (b : Bool) → nat_eq c.conn conn ≡ b → (((d : Client) → find conn cs ≡ Some d → f d ≡ g d) → on_client conn f cs ≡ on_client conn g cs) → (if b then f c ∷ cs else c ∷ on_client conn f cs) ≡ (if b then g c ∷ cs else c ∷ on_client conn g cs)
    by true e rest = ap (λ (d : Client). d ∷ cs) (alike c (ap (λ (b : Bool). if b then Some c else find conn cs) e))
    by false e rest =
        ap (λ (ds : List Client). c ∷ ds) (rest (λ d h. alike d (ap (λ (b : Bool). if b then Some c else find conn cs) e ∙ h)))

-- what a change does not touch is the same in each client
pub each-on_client : {A : Type 0} (part : Client → A) (conn : ℕ) (f : Client → Client) (cs : List Client) → ((c : Client) → part (f c) ≡ part c) → map part (on_client conn f cs) ≡ map part cs
each-on_client {A} part conn f [] same = refl
each-on_client {A} part conn f (c ∷ cs) same = by (nat_eq c.conn conn) (each-on_client part conn f cs same)
  where
    by : (b : Bool) → map part (on_client conn f cs) ≡ map part cs → map part (if b then f c ∷ cs else c ∷ on_client conn f cs) ≡ part c ∷ map part cs
    by true rest = ap (λ (x : A). x ∷ map part cs) (same c)
    by false rest = ap (λ (xs : List A). part c ∷ xs) rest

-- ---- the messages that are left of a client

abbrev pub left_among : Option Client → List ClientMessage
left_among found = option_map_or (λ c. c.left) found []

abbrev pub relieved : List ClientMessage → Client → Client
relieved left c = record c { left = left }

pub none_left : (s : DeskRunState) (conn : ℕ) → left_of s conn ≡ [] → with_left s conn [] ≡ s
none_left s conn none = ap (λ (cs : List Client). record s { clients = cs }) (on_client-stays conn (relieved []) s.clients stays)
  where
    stays : (c : Client) → find conn s.clients ≡ Some c → relieved [] c ≡ c
    stays c here = ap (λ (left : List ClientMessage). relieved left c) (sym (sym (ap left_among here) ∙ none))

pub left_emptied : (conn : ℕ) (cs : List Client) → left_among (find conn (on_client conn (relieved []) cs)) ≡ []
left_emptied conn cs = ap left_among (find-on_client conn (relieved []) cs (λ c. refl)) ∙ by (find conn cs)
  where
    by : (found : Option Client) → left_among (option_map (relieved []) found) ≡ []
    by None = refl
    by (Some c) = refl

-- ---- room is made whatever stands among the clients

-- what is pending is cut, stored and posted
abbrev pub committed : DeskRunState → DeskRunState
committed s = cleared (cut s)

abbrev pub with_clients : DeskRunState → List Client → DeskRunState
with_clients s cs = record s { clients = cs }

stored-clients : (s : DeskRunState) (cs : List Client) → stored (with_clients s cs) ≡ with_clients (stored s) cs
stored-clients s cs = by s.handed
  where
    by : (h : Handed) → stored_from h (with_clients s cs) ≡ with_clients (stored_from h s) cs
    by Nothing = refl
    by (Cut batch) = refl
    by (Stored batch) = refl

posted-clients : (s : DeskRunState) (cs : List Client) → posted (with_clients s cs) ≡ with_clients (posted s) cs
posted-clients s cs = by s.handed
  where
    by : (h : Handed) → posted_from h (with_clients s cs) ≡ with_clients (posted_from h s) cs
    by Nothing = refl
    by (Cut batch) = refl
    by (Stored batch) = refl

pub cleared-clients : (s : DeskRunState) (cs : List Client) → cleared (with_clients s cs) ≡ with_clients (cleared s) cs
cleared-clients s cs = ap posted (stored-clients s cs) ∙ posted-clients (stored s) cs

committed-clients : (s : DeskRunState) (cs : List Client) → committed (with_clients s cs) ≡ with_clients (committed s) cs
committed-clients s cs = cleared-clients (cut s) cs

with_room-clients : (s : DeskRunState) (cs : List Client) → with_room (with_clients s cs) ≡ with_clients (with_room s) cs
with_room-clients s cs = by (has_room s.front)
  where
    by : (b : Bool) → (if b then with_clients s cs else made (committed (cleared (with_clients s cs)))) ≡ with_clients (if b then s else made (committed (cleared s))) cs
    by true = refl
    by false = ap (λ (t : DeskRunState). made (committed t)) (cleared-clients s cs) ∙ ap made (committed-clients (cleared s) cs)

pub begun_room-clients : (s : DeskRunState) (conn : ℕ) (cs : List Client) → begun_room (with_clients s cs) conn ≡ with_clients (begun_room s conn) cs
begun_room-clients s conn cs = by (is_making s conn)
  where
    by : (b : Bool) → (if b then made (cleared (with_clients s cs)) else with_clients s cs) ≡ with_clients (if b then made (cleared s) else s) cs
    by true = ap made (cleared-clients s cs)
    by false = refl

pub roomy-clients : (s : DeskRunState) (conn : ℕ) (cs : List Client) → roomy (with_clients s cs) conn ≡ with_clients (roomy s conn) cs
roomy-clients s conn cs = ap with_room (begun_room-clients s conn cs) ∙ with_room-clients (begun_room s conn) cs

-- and leaves the clients
pub roomy-keeps : (s : DeskRunState) (conn : ℕ) → (roomy s conn).clients ≡ s.clients
roomy-keeps s conn = ap (λ (t : DeskRunState). t.clients) (roomy-clients s conn s.clients)

-- ---- messages are taken

pub takes_all-keeps : (s : DeskRunState) (conn : ℕ) (ms : List ClientMessage) (t : DeskRunState) → TakesAll s conn ms t → t.clients ≡ s.clients
takes_all-keeps s conn [] t h = ap (λ (u : DeskRunState). u.clients) h
takes_all-keeps s conn (m ∷ ms) t h = takes_all-keeps h.0 conn ms t h.2 ∙ ap (λ (u : DeskRunState). u.clients) h.1.after ∙ roomy-keeps s conn

pub takes_all-append : (s : DeskRunState) (conn : ℕ) (ms ns : List ClientMessage) (u t : DeskRunState) → TakesAll s conn ms u → TakesAll u conn ns t → TakesAll s conn (ms ++ ns) t
takes_all-append s conn [] ns u t h k = subst (λ (v : DeskRunState). TakesAll v conn ns t) h k
takes_all-append s conn (m ∷ ms) ns u t h k = (h.0, h.1, takes_all-append h.0 conn ms ns u t h.2 k)
