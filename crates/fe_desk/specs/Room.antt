-- Room for a message: what is out and what is pending is stored and posted first. Memory may run out between
-- the two. The desk then notes for which connection it makes room (`making`), and goes on with that before
-- the connection's next message. So a step given again comes to the same (`GivenAgain`). A reader of the
-- crash promise can skip this file (`docs/model.md`, "The desk").
use Rattle.std.specs.Prelude.{◌≡◌, ◌⊎◌, ℕ, Bool, true, false, None, Some, nat_eq, if◌then◌else◌}
use Rattle.std.specs.Option.{option_map_or}
use Rattle.fe_front.specs.Front.{has_room}
use Rattle.fe_desk.specs.DeskRunState.{DeskRunState, cut, cleared}

-- room is not being made any more
abbrev pub made : DeskRunState → DeskRunState
made s = record s { making = None }

-- Room is made for a message: if too much is pending, what is out is stored and posted, and then what is
-- pending.
abbrev pub with_room : DeskRunState → DeskRunState
with_room s = if has_room s.front then s else made (cleared (cut (cleared s)))

-- ---- room that was begun

-- whether room is being made for a message of this connection
abbrev pub is_making : DeskRunState → ℕ → Bool
is_making s conn = option_map_or (nat_eq conn) s.making false

-- if making room was begun for a message of this connection before, that is finished
abbrev pub begun_room : DeskRunState → ℕ → DeskRunState
begun_room s conn = if is_making s conn then made (cleared s) else s

-- Room is made for a message of this connection. If it was begun before, that is finished first.
abbrev pub roomy : DeskRunState → ℕ → DeskRunState
roomy s conn = with_room (begun_room s conn)

-- the connection comes or goes, so room is not being made for it any more
abbrev pub unmade : DeskRunState → ℕ → DeskRunState
unmade s conn = if is_making s conn then made s else s

-- ---- where the making of room stops

-- making room for a message of a connection is begun: what is out is stored and posted, and what is pending
-- is cut
abbrev pub room_begun : DeskRunState → ℕ → DeskRunState
room_begun s conn = record (cut (cleared s)) { making = Some conn }

-- it is begun or not
abbrev pub MayBegin : DeskRunState → ℕ → DeskRunState → Type 0
MayBegin s conn t = (t ≡ s) ⊎ (t ≡ room_begun s conn)

-- Room for a message of a connection is not made yet. Either it was begun for this connection before, and
-- nothing more is done; or there is no room, what was begun is made, and room is begun or not.
abbrev pub StopsMaking : DeskRunState → ℕ → DeskRunState → Type 0
StopsMaking s conn t =
    ((is_making s conn ≡ true) × (t ≡ s)) ⊎ ((has_room s.front ≡ false) × MayBegin (begun_room s conn) conn t)
