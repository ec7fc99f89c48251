-- What is always true of a desk (`docs/model.md`, "The desk").
use Rattle.std.specs.Prelude.{◌≡◌, ℕ, ◌<◌, ◌≤◌, true, false, List, ◌∷◌, ◌++◌, length, map, drop, nat_eq}
use Rattle.std.specs.Prelude.{Option, None, is_some, [], ◌≢◌, Some, slice_get, slice_index_or, ◌⊎◌, IsTrue}
use Rattle.std.specs.Prelude.{suc, ◌/◌, ◌%◌}
use Rattle.fe_state.specs.State.{ServerState, after_all}
use Rattle.fe_state.specs.History.{AreLegal}
use Rattle.fe_state.specs.declared.entry.Entry.{Entry}
use Rattle.fe_front.specs.Front.{is_connected, FrontState}
use Rattle.fe_front.specs.Posting.{IsOut, may_have, remainder_count}
use Rattle.fe_front.specs.declared.out.Out.{Out}
use Rattle.fe_keeper.specs.Stands.{LeavesPrefix}
use Rattle.fe_desk.specs.declared.handed.Handed.{Handed}
use Rattle.fe_desk.specs.declared.handed.Handed.TheVariants.{Nothing, Cut, Stored}
use Rattle.fe_desk.specs.declared.desk_inner.DeskInner.{DeskInner}
use Rattle.fe_desk.specs.declared.port.Port.{Port}
use Rattle.fe_desk.specs.declared.port_places.PortPlaces.{PortPlaces}
use Rattle.fe_desk.specs.declared.port_set.PortSet.{PortSet}
use Rattle.fe_desk.specs.Acknowledged.{cut_entries}
use Rattle.fe_desk.specs.DeskRunState.{Client, DeskRunState, emptied_box, Extends}
use Rattle.fe_desk.specs.Steps.{find, BeginsStream, clients_with}
use Rattle.fe_desk.specs.Crash.{DeskState, IsFrom, disk_of}
use Rattle.fe_disk.specs.declared.disk.Disk.{Ghosts}
use Rattle.fe_mail.specs.Connections.{mails_on}
use Rattle.fe_desk.specs.Messages.{outputs}
use Rattle.indexmap.specs.IndexMap.{get}
use Rattle.std.specs.Option.{option_map, option_map_or}
use Rattle.std.specs.Int.{bit_at}
use Rattle.fe_wire.specs.Stream.{Decoding}
use Rattle.fe_front.specs.Steps.{connected}
use Rattle.fe_front.specs.declared.connection_set.ConnectionSet.{ConnectionSet}

-- ---- how the fields give what callers see

abbrev pub client_of : Port → Client
client_of p = record {
  conn = p.conn;
  decoder = p.decoder;
  left = drop p.next p.left.items;
  reply = p.reply;
  written = p.written;
}

abbrev pub run_state_of : {D : Type 0} → DeskInner D → DeskRunState
run_state_of p =
    record {
      front = p.front;
      clients = map client_of p.trace.ports.items;
      handed = p.handed;
      making = p.making;
      groups = map (λ g. g.items) p.trace.groups.items;
      owes = p.owes;
    }

abbrev pub desk_of : {D : Type 0} → DeskInner D → DeskState D
desk_of p = record { run_state = run_state_of p; keeper = p.keeper; synced = p.trace.synced }

-- the run, with this batch on its way to the store
abbrev pub handing : DeskRunState → Handed → DeskRunState
handing s handed = record s { handed = handed }

-- a desk with this batch on its way to the store
abbrev pub with_handed : {D : Type 0} → DeskState D → Handed → DeskState D
with_handed d handed = record d { run_state = handing d.run_state handed }

-- ---- what ties them

-- the entries that are made and not stored
abbrev pub unstored : DeskRunState → List Entry
unstored s = cut_entries s.handed ++ s.front.service.pending

-- the batch that the desk has is the one that is out of the front: it begins at the same place and is as
-- long; and one that is cut is not empty
abbrev pub IsHanded : Handed → Option Out → Type 0
IsHanded Nothing out = out ≡ None
IsHanded (Cut batch) out = IsOut out batch × (0 < length batch.entries)
IsHanded (Stored batch) out = IsOut out batch

-- The front is ahead of the replica by the entries that are not stored.
pub record IsAhead (s : DeskRunState) (replica : ServerState) : Type 0 where
  pub handed : IsHanded s.handed s.front.out
  pub legal : AreLegal replica (unstored s)
  pub state : s.front.service.state ≡ after_all replica (unstored s)

-- The front is ahead of the replica; each connection has a client; all groups are stored unless the device
-- failed; and over an honest disk each image that a stop may leave stands for a prefix of the history that
-- holds the groups that are stored.
pub record IsDesk {D : Type 0} (model : Ghosts D) (d : DeskState D) : Type 0 where
  pub tied : IsAhead d.run_state d.keeper.state
  pub known : (conn : ℕ) → is_connected d.run_state.front conn ≡ true
      → is_some (find conn d.run_state.clients) ≡ true
  pub few : d.synced ≤ length d.run_state.groups
  pub all : d.keeper.store.has_failed ≡ false → d.synced ≡ length d.run_state.groups
  pub upheld : model.honest (disk_of d) → (begun : ServerState) → IsFrom begun d → (image : List ℕ)
      → model.may_leave (disk_of d) image
      → LeavesPrefix begun d.run_state.groups d.synced image

-- a desk whose device works
pub record IsReady {D : Type 0} (model : Ghosts D) (d : DeskState D) : Type 0 where
  pub desk : IsDesk model d
  pub works : d.keeper.store.has_failed ≡ false

-- ---- what stays while mails are taken and connections go

-- the state, what is pending, what is out and what is durable stay, no connection comes, and no empty box
-- gets a mail
pub record KeepsFront (f g : FrontState) : Type 0 where
  pub state : g.service.state ≡ f.service.state
  pub pending : g.service.pending ≡ f.service.pending
  pub out : g.out ≡ f.out
  pub durable : g.durable ≡ f.durable
  pub none_comes : (conn : ℕ) → is_connected g conn ≡ true → is_connected f conn ≡ true
  pub empty : (conn : ℕ) → mails_on f.connections conn ≡ [] → mails_on g.connections conn ≡ []

-- the groups, those that are stored and the keeper stay
pub record HasStore {D : Type 0} (old new : DeskState D) : Type 0 where
  pub keeper : new.keeper ≡ old.keeper
  pub groups : new.run_state.groups ≡ old.run_state.groups
  pub synced : new.synced ≡ old.synced

-- what was a desk is one still: its store is not touched, and it owes mails where it did before
pub record Stays {D : Type 0} (model : Ghosts D) (old new : DeskState D) : Type 0 where
  pub desk : IsDesk model old → IsDesk model new
  pub store : HasStore old new
  pub owes : new.run_state.owes ≡ old.run_state.owes

-- a desk is one still: its store is not touched, and what is written goes on from what was
pub record OnlyWrites {D : Type 0} (model : Ghosts D) (old new : DeskState D) : Type 0 where
  pub desk : IsDesk model new
  pub store : HasStore old new
  pub extends : Extends (outputs old.run_state) (outputs new.run_state)

-- ---- the clients by their connection numbers

-- the number of the client at an index
abbrev pub client_number_at : List Client → ℕ → Option ℕ
client_number_at clients i = option_map (λ c. c.conn) (slice_get clients i)

-- the first client of a number is at this index
pub record IsFirstAt (clients : List Client) (conn at : ℕ) : Type 0 where
  pub within : at < length clients
  pub here : client_number_at clients at ≡ Some conn
  pub first : (i : ℕ) → i < at → client_number_at clients i ≢ Some conn

-- a connection came, with a stream of its own
pub record Joins (f : FrontState) (cs : List Client) (conn : ℕ) (g : FrontState)
    (ds : List Client) : Type 0 where
  pub decoder : Decoding
  pub begins : BeginsStream decoder
  pub front : g ≡ connected f conn
  pub clients : ds ≡ clients_with cs conn decoder

-- 1 if a set of ports has this one, or another one that shares its bit, and else 0
abbrev pub port_bit : PortSet → ℕ → ℕ
port_bit set at = bit_at (slice_index_or set.words ((at / 64) % 16) 0) (at % 64)

-- 1 if the set of a remainder has this port, or is missing
abbrev pub alike_bit : List PortSet → ℕ → ℕ → ℕ
alike_bit sets remainder at = option_map_or (λ set. port_bit set at) (slice_get sets remainder) 1

-- Each index that is known is that of the first client of its number. The clients that are sorted are in the
-- sets of their remainders.
pub record ArePlaces (places : PortPlaces) (clients : List Client) : Type 0 where
  pub known : (conn at : ℕ) → get nat_eq places.indexes conn ≡ Some at → IsFirstAt clients conn at
  pub few : places.sorted ≤ length clients
  pub sorted : (at conn : ℕ) → at < places.sorted → client_number_at clients at ≡ Some conn
      → alike_bit places.alike.items (conn % remainder_count) at ≡ 1

-- ---- which clients something is to be written to

-- nothing is to be written to a client
pub record IsQuiet (f : FrontState) (c : Client) : Type 0 where
  pub reply : c.reply ≡ None
  pub box : mails_on f.connections c.conn ≡ []

-- the clients from this index on: nothing is to be written to one that is not in the set, once the boxes
-- before it are empty
abbrev pub IsMailedFrom : ℕ → FrontState → List Client → PortSet → Type 0
IsMailedFrom at f [] set = Unit {0}
IsMailedFrom at f (c ∷ cs) set =
    ((port_bit set at ≡ 1) ⊎ IsQuiet f c) × IsMailedFrom (suc at) (emptied_box f c.conn) cs set

-- from this index on, nothing was written to a connection number that is not in the set
abbrev pub IsSilentFrom : ℕ → List (ℕ × List ℕ) → PortSet → Type 0
IsSilentFrom at [] set = Unit {0}
IsSilentFrom at (o ∷ os) set = ((port_bit set at ≡ 1) ⊎ (o.1 ≡ [])) × IsSilentFrom (suc at) os set

-- the set has each connection with a mail
abbrev pub HasAllWithMail : FrontState → ConnectionSet → Type 0
HasAllWithMail f set = (conn : ℕ) → IsTrue (may_have set conn) ⊎ (mails_on f.connections conn ≡ [])
