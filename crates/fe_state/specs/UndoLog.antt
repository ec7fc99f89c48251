-- Undo logs: what each entry (a step of the history) that was applied changed, and the states before these
-- entries. See `docs/model.md`, "The state of the server".
use Rattle.std.specs.Prelude.{◌≡◌, ℕ, ◌-◌, ◌*◌, ◌≤◌, refl, List, [], ◌∷◌, ◌++◌, length, min, sum_by, drop}
use Rattle.std.specs.Prelude.{reverse, IsSome, IsSomeAnd}
use Rattle.std.specs.Option.{option_map}
use Rattle.std.specs.Ordering.{nat_cmp}
use Rattle.std.specs.Coded.{Coded, code_by, coded×, coded_ℕ, coded_list}
use Rattle.std.specs.FinMap.{FinMap, get, insert, remove}
use Rattle.fe_state.specs.Effect.{restored, CanRestore}
use Rattle.fe_state.specs.DroppedAnswers.{keeping_all, kept_again, AreDropped, MayLower, MayReopen}
use Rattle.fe_state.specs.Sessions.{Session, first_session, forgetting, put_session}
use Rattle.fe_state.specs.State.{ServerState, IsWithinLimits, directory_of}
use Rattle.fe_state.specs.declared.change.Change.{Change}
use Rattle.fe_state.specs.declared.dropped.Dropped.{Dropped}
use Rattle.fe_state.specs.contracts.dropped.Dropped.{the_row as dropped_row}
use Rattle.fe_state.specs.declared.undo.Undo.{Undo}
use Rattle.fe_state.specs.contracts.undo.Undo.{the_row}
use Rattle.fe_state.specs.declared.undo.SessionChange.{SessionChange}
use Rattle.fe_state.specs.declared.undo.SessionChange.TheVariants.{Same, Opened, Closed, Settled, Kept}
use Rattle.fe_state.specs.Limits.{window_length}

-- a log: how many entries it has room for, what each of its entries changed, and the answers that they
-- dropped, both with the latest first
pub record UndoLog : Type 0 where
  pub room : ℕ
  pub undos : List Undo
  pub dropped : List Dropped

-- for proofs, a log is coded as the tuple of its fields
abbrev pub log_code : Coded UndoLog
log_code =
    code_by (ℕ × (List Undo × List Dropped))
    (coded× coded_ℕ (coded× (coded_list the_row.coded) (coded_list dropped_row.coded)))
    (λ l. (l.room, (l.undos, l.dropped))) (λ p. record { room = p.0; undos = p.1.0; dropped = p.1.1 })
    (λ _. refl)

-- a log of no entries
abbrev pub empty_log : ℕ → UndoLog
empty_log room = record { room = room; undos = []; dropped = [] }

-- the log, given its room and, both with the latest last, its undos and dropped answers
abbrev pub log_of : ℕ → List Undo → List Dropped → UndoLog
log_of room undos dropped = record { room = room; undos = reverse undos; dropped = reverse dropped }

-- how many answers a change of a session dropped
abbrev pub answers_of : SessionChange → ℕ
answers_of (Closed floor answers) = answers
answers_of (Settled floor answers) = answers
answers_of _ = 0

-- how many dropped answers a log has room for on behalf of an entry: as many as it dropped, at most a
-- window's
abbrev pub with_room : Undo → ℕ
with_room u = min window_length (answers_of u.session_change)

-- what is always true of a log whose memory has room for this many entries and this many dropped answers
pub record HasMemory (l : UndoLog) (undos dropped : ℕ) : Type 0 where
  -- there are no more entries than the room
  pub few : length l.undos ≤ l.room
  -- there are no more dropped answers than the entries dropped, at most a window's counted for each
  pub paired : length l.dropped ≤ sum_by with_room l.undos
  -- the memory for the whole room is reserved
  pub undos_room : l.room ≤ undos
  pub dropped_room : l.room * window_length ≤ dropped

-- the dropped answers that are left once a change is undone
abbrev pub left : SessionChange → List Dropped → List Dropped
left change dropped = drop (answers_of change) dropped

-- the sessions before a change of one of them, given those after it and the dropped answers
abbrev pub put_back : SessionChange → List Dropped → FinMap nat_cmp Session → ℕ → FinMap nat_cmp Session
put_back Same dropped sessions session = sessions
put_back Opened dropped sessions session = remove sessions session
put_back (Closed floor answers) dropped sessions session =
    insert sessions session (kept_again first_session floor answers dropped)
put_back (Settled floor answers) dropped sessions session =
    put_session sessions session (option_map (λ s. kept_again s floor answers dropped) (get sessions session))
put_back (Kept number) dropped sessions session =
    put_session sessions session (option_map (λ s. forgetting s number) (get sessions session))

-- sessions that a change may have left: what it changed can be put back
abbrev pub CanPutBack : SessionChange → List Dropped → FinMap nat_cmp Session → ℕ → Type 0
CanPutBack Same dropped sessions session = Unit {0}
CanPutBack Opened dropped sessions session = Unit {0}
CanPutBack (Closed floor answers) dropped sessions session = MayReopen floor answers dropped sessions session
CanPutBack (Settled floor answers) dropped sessions session =
    IsSomeAnd (get sessions session) (λ s. MayLower s floor × AreDropped floor answers dropped)
CanPutBack (Kept number) dropped sessions session = IsSome (get sessions session)

-- the state before an entry, given the one after it and the dropped answers
abbrev pub before : Undo → List Dropped → ServerState → ServerState
before u dropped s =
    let d = restored u.change (directory_of s) in
    record {
      arrays = d.arrays;
      sessions = put_back u.session_change dropped s.sessions u.session;
      next_id = d.next_id;
      place = s.place - 1;
    }

-- the entry can be undone in this state, and that leads to a state within the limits
pub record CanUndo (u : Undo) (dropped : List Dropped) (s : ServerState) : Type 0 where
  pub directory : CanRestore u.change (directory_of s)
  pub sessions : CanPutBack u.session_change dropped s.sessions u.session
  pub place : 1 ≤ s.place
  pub limits : IsWithinLimits (before u dropped s)

-- the log without the latest of these undos, which are all that it has
abbrev pub without_latest : UndoLog → List Undo → UndoLog
without_latest l [] = l
without_latest l (u ∷ us) = record { room = l.room; undos = us; dropped = left u.session_change l.dropped }

-- the log without its latest entry
abbrev pub shortened : UndoLog → UndoLog
shortened l = without_latest l l.undos

-- the state before the latest of entries, given the one after it
abbrev pub before_latest : List Undo → List Dropped → ServerState → ServerState
before_latest [] dropped s = s
before_latest (u ∷ us) dropped s = before u dropped s

-- the state before the latest entry of a log, given the one after it
abbrev pub undone : UndoLog → ServerState → ServerState
undone l s = before_latest l.undos l.dropped s

-- the state before the earliest of entries, given the one after the latest; the list has the latest first
abbrev pub before_all : List Undo → List Dropped → ServerState → ServerState
before_all [] dropped s = s
before_all (u ∷ us) dropped s = before_all us (left u.session_change dropped) (before u dropped s)

-- the state at the beginning of a log, given the one after its latest entry
abbrev pub rewound : UndoLog → ServerState → ServerState
rewound l s = before_all l.undos l.dropped s

-- a state that entries may have led to; the list has the latest first, and each can be undone once those
-- before it in the list are
abbrev pub MayFollowAll : List Undo → List Dropped → ServerState → Type 0
MayFollowAll [] dropped s = Unit {0}
MayFollowAll (u ∷ us) dropped s =
    CanUndo u dropped s × MayFollowAll us (left u.session_change dropped) (before u dropped s)

-- a log that a state may have: the entries of the log may have led to it. Every state may have an empty log
abbrev pub IsLogOf : UndoLog → ServerState → Type 0
IsLogOf l s = MayFollowAll l.undos l.dropped s

-- An entry was added to a log: what it changed of one session, and `change`, what it changed of the arrays.
-- From the sessions after it, those before it can be put back.
pub record Remembers (change : Change) (old new : UndoLog)
    (sessions after : FinMap nat_cmp Session) : Type 0 where
  pub session : ℕ
  pub session_change : SessionChange
  pub undos : new.undos ≡ record { session = session; session_change = session_change; change = change }
      ∷ old.undos
  pub dropped : left session_change new.dropped ≡ old.dropped
  pub room : new.room ≡ old.room
  pub undoable : CanPutBack session_change new.dropped after session
  pub undone : put_back session_change new.dropped after session ≡ sessions

-- what an entry that drops answers of a session adds to a log; `made` gives its change of the session, from
-- how many answers it dropped
pub record HasDropped (session : ℕ) (made : ℕ → SessionChange) (change : Change) (old new : UndoLog)
    (before after : Session) : Type 0 where
  pub answers : List Dropped
  pub undos : new.undos ≡ record {
    session = session;
    session_change = made (length answers);
    change = change;
  } ∷ old.undos
  pub dropped : new.dropped ≡ answers ++ old.dropped
  pub room : new.room ≡ old.room
  pub again : keeping_all after.kept answers ≡ before.kept
  pub in_window : AreDropped before.floor (length answers) new.dropped
