-- How far a connection's messages were taken where a batch found no memory, or the device failed it.
use Rattle.std.proofs.Common.{◌≡◌, inl, inr, ℕ, ◌<◌, Bool, true, false, Option, List, [], ◌∷◌, ◌++◌, length, Some, refl, sym, ap, subst, ◌∙◌, arith}
use Rattle.std.specs.Prelude.{is_some, nat_le, if◌then◌else◌, Result, Ok, Err}
use Rattle.fe_state.specs.declared.entry.Entry.{Entry}
use Rattle.fe_front.specs.Front.{has_room}
use Rattle.fe_wire.specs.declared.client_message.ClientMessage.{ClientMessage}
use Rattle.fe_desk.specs.declared.handed.Handed.{Handed}
use Rattle.fe_desk.specs.declared.handed.Handed.TheVariants.{Nothing, Cut, Stored}
use Rattle.fe_desk.specs.DeskRunState.{Client, DeskRunState, cut, cleared}
use Rattle.fe_desk.specs.Room.{MayBegin, StopsMaking, begun_room, is_making, made, room_begun, roomy}
use Rattle.fe_desk.specs.Steps.{find, on_client, with_left}
use Rattle.fe_desk.specs.Messages.{left_of}
use Rattle.fe_desk.specs.Ends.{HasCut, StopsBefore, Tears, TakesFirst}
use Rattle.fe_desk.specs.Crash.{DeskState}
use Rattle.fe_desk.specs.within.Goes.{GoesTo}
use Rattle.fe_disk.specs.declared.disk.Disk.{Ghosts}
use Rattle.fe_keeper.specs.declared.fault.Fault.{Fault}
use Rattle.fe_keeper.specs.declared.fault.Fault.TheVariants.{Device, Failed, NoMemory, Mismatch, Damaged, Unformatted}
use Rattle.fe_desk.proofs.Making.{cleared_pending}
use Rattle.fe_desk.proofs.Reading.{on_client-twice, on_client-stays, relieved, left_among, with_clients, cleared-clients, begun_room-clients, roomy-keeps, takes_all-keeps}
use Rattle.fe_desk.proofs.Leftovers.{IsTaken, left-relieved}

-- ---- room

-- which connection room is made for tells nothing once it is made
pub made_alike : (s : DeskRunState) (m : Option ℕ) → made (cleared (record s { making = m })) ≡ made (cleared s)
made_alike s m = by s.handed
  where
    by : (h : Handed) → made (cleared (record s { handed = h; making = m })) ≡ made (cleared (record s { handed = h }))
    by Nothing = refl
    by (Cut batch) = refl
    by (Stored batch) = refl

-- what is pending is not touched by room that was begun
pub begun_pending : (s : DeskRunState) (conn : ℕ) → (begun_room s conn).front.service.pending ≡ s.front.service.pending
begun_pending s conn = by (is_making s conn)
  where
    by : (b : Bool) → (if b then made (cleared s) else s).front.service.pending ≡ s.front.service.pending
    by true = cleared_pending s
    by false = refl

-- room was made as far as to there
pub stops_room : (s mid t : DeskRunState) (conn : ℕ) → mid ≡ begun_room s conn → has_room mid.front ≡ false → MayBegin mid conn t → StopsMaking s conn t
stops_room s mid t conn begun none may =
    let pending : mid.front.service.pending ≡ s.front.service.pending = ap (λ (u : DeskRunState). u.front.service.pending) begun ∙ begun_pending s conn in
    let full : has_room s.front ≡ false = ap (λ (es : List Entry). nat_le (length es) 2048) (sym pending) ∙ none in
    inr (full, subst (λ (u : DeskRunState). MayBegin u conn t) begun may)

-- ---- room is made whatever stands among the clients

room_begun-clients : (s : DeskRunState) (conn : ℕ) (cs : List Client) → room_begun (with_clients s cs) conn ≡ with_clients (room_begun s conn) cs
room_begun-clients s conn cs = ap (λ (t : DeskRunState). record (cut t) { making = Some conn }) (cleared-clients s cs)

begins-clients : (s t : DeskRunState) (conn : ℕ) (cs : List Client) → MayBegin s conn t → MayBegin (with_clients s cs) conn (with_clients t cs)
begins-clients s t conn cs (inl is) = inl (ap (λ (u : DeskRunState). with_clients u cs) is)
begins-clients s t conn cs (inr is) = inr (ap (λ (u : DeskRunState). with_clients u cs) is ∙ sym (room_begun-clients s conn cs))

stops-clients : (s t : DeskRunState) (conn : ℕ) (cs : List Client) → StopsMaking s conn t → StopsMaking (with_clients s cs) conn (with_clients t cs)
stops-clients s t conn cs (inl still) = inl (still.0, ap (λ (u : DeskRunState). with_clients u cs) still.1)
stops-clients s t conn cs (inr begins) =
    inr (begins.0, subst (λ (u : DeskRunState). MayBegin u conn (with_clients t cs)) (sym (begun_room-clients s conn cs)) (begins-clients (begun_room s conn) t conn cs begins.1))

pub stops-keep : (s t : DeskRunState) (conn : ℕ) → StopsMaking s conn t → t.clients ≡ s.clients
stops-keep s t conn (inl still) = ap (λ (u : DeskRunState). u.clients) still.1
stops-keep s t conn (inr begins) = by begins.1 ∙ ap (λ (u : DeskRunState). u.clients) (begun_room-clients s conn s.clients)
  where
    by : MayBegin (begun_room s conn) conn t → t.clients ≡ (begun_room s conn).clients
    by (inl is) = ap (λ (u : DeskRunState). u.clients) is
    by (inr is) = ap (λ (u : DeskRunState). u.clients) (is ∙ room_begun-clients (begun_room s conn) conn (begun_room s conn).clients)

-- whatever comes of the making of room, the clients stay
pub room_keeps : {D : Type 0} {k : Ghosts D} {a b : DeskState D} (conn : ℕ) (r : Result (Unit {0}) Fault) → GoesTo k (roomy a.run_state conn) (StopsMaking a.run_state conn) r a b → b.run_state.clients ≡ a.run_state.clients
room_keeps {D} {k} {a} {b} conn (Ok x) h = ap (λ (u : DeskRunState). u.clients) h.ends.1 ∙ roomy-keeps a.run_state conn
room_keeps {D} {k} {a} {b} conn (Err Device) h = ap (λ (u : DeskRunState). u.clients) h.ends.tears.run_state ∙ stops-keep a.run_state h.ends.last conn h.ends.until
room_keeps {D} {k} {a} {b} conn (Err (NoMemory error)) h = stops-keep a.run_state b.run_state conn h.ends.1.until
room_keeps {D} {k} {a} {b} conn (Err Failed) h = absurd h.ends
room_keeps {D} {k} {a} {b} conn (Err (Mismatch place)) h = absurd h.ends
room_keeps {D} {k} {a} {b} conn (Err (Damaged offset)) h = absurd h.ends
room_keeps {D} {k} {a} {b} conn (Err Unformatted) h = absurd h.ends

-- ---- messages

-- the first messages are taken, and the others are left of the client, of which nothing else changed
module _ {conn : ℕ} {s t : DeskRunState} {ms : List ClientMessage} (first : TakesFirst s conn ms t) where
  pub first_kept : first.last.clients ≡ s.clients
  first_kept = stops-keep first.before first.last conn first.stops ∙ takes_all-keeps s conn first.taken first.before first.takes

  pub first_clients : t.clients ≡ on_client conn (relieved (first.next ∷ first.behind)) s.clients
  first_clients = ap (λ (u : DeskRunState). u.clients) first.after ∙ ap (on_client conn (relieved (first.next ∷ first.behind))) first_kept

  pub first_left : is_some (find conn s.clients) ≡ true → left_of t conn ≡ first.next ∷ first.behind
  first_left here = ap (λ (cs : List Client). left_among (find conn cs)) first_clients ∙ left-relieved conn (first.next ∷ first.behind) s.clients here

-- messages were taken as far as to there, and room for the next is not made
pub first_stops : (conn : ℕ) (s a t : DeskRunState) → 0 < length (left_of a conn) → t.clients ≡ a.clients → StopsMaking a conn t → HasCut t → IsTaken conn s a → StopsBefore s conn t
first_stops conn s a t some clients stops at_hand taken = by (left_of a conn) some refl
  where
    emptied : List Client
    emptied = on_client conn (relieved []) a.clients

    back : (ms : List ClientMessage) → left_of a conn ≡ ms → on_client conn (relieved ms) emptied ≡ t.clients
    back ms is =
        on_client-twice conn (relieved []) (relieved ms) a.clients (λ c. refl)
        ∙ on_client-stays conn (relieved ms) a.clients (λ c here. ap (λ (left : List ClientMessage). relieved left c) (sym (sym (ap left_among here) ∙ is)))
        ∙ sym clients

    by : (ms : List ClientMessage) → 0 < length ms → left_of a conn ≡ ms → StopsBefore s conn t
    by [] none is = absurd (omega arith)
    by (m ∷ ms) here is = record {
      taken = taken.first;
      next = m;
      behind = ms;
      before = with_left a conn [];
      last = with_clients t emptied;
      all = taken.rest ∙ ap (λ (left : List ClientMessage). taken.first ++ left) is;
      takes = taken.took;
      stops = stops-clients a t conn emptied stops;
      at_hand = record { batch = at_hand.batch; handed = at_hand.handed };
      after = ap (λ (cs : List Client). with_clients t cs) (sym (back (m ∷ ms) is));
    }

-- the device failed there
pub first_tears : {D : Type 0} (conn : ℕ) (s a last : DeskRunState) (new : DeskState D) → 0 < length (left_of a conn) → new.run_state.clients ≡ a.clients → StopsMaking a conn last → IsTaken conn s a → Tears last new → StopsBefore s conn last
first_tears conn s a last new some clients stops taken tears = first_stops conn s a last some (sym (ap (λ (u : DeskRunState). u.clients) tears.run_state) ∙ clients) stops tears.at_hand taken
