-- Sessions. A client numbers its requests in a session, so that one it repeats takes effect once. A session
-- has a window, the 32 numbers from its floor on, and keeps the answer to each request that finished under
-- one of them (`docs/model.md`, "The state of the server").
use Rattle.std.specs.Prelude.{ℕ, ◌+◌, ◌≤◌, ◌<◌, nat_le, refl, Option, Some, None, if◌then◌else◌, ◌≡◌, IsSome}
use Rattle.std.specs.Prelude.{IsSomeAnd, MatchOption}
use Rattle.std.specs.Ordering.{nat_cmp}
use Rattle.std.specs.Coded.{Coded, code_by, coded×, coded_ℕ}
use Rattle.std.specs.FinMap.{FinMap, code, empty, get, insert, remove, retain_keys, contains_key, len}
use Rattle.fe_state.specs.declared.kept.Kept.{Kept}
use Rattle.fe_state.specs.contracts.kept.Kept.{the_row}
use Rattle.fe_state.specs.Limits.{window_length, greatest_floor, most_sessions}
use Rattle.std.specs.Option.{option_map}
use Rattle.fe_state.specs.declared.entry.Entry.{Entry}
use Rattle.fe_state.specs.declared.entry.Entry.TheVariants.{Attached, Closed, Settled, Finished}

-- a session: its floor, and what is kept, by number
pub record Session : Type 0 where
  pub floor : ℕ
  pub kept : FinMap nat_cmp Kept

-- for proofs, a session is coded as the pair of its fields
abbrev pub session_code : Coded Session
session_code =
    code_by (ℕ × FinMap nat_cmp Kept) (coded× coded_ℕ (code coded_ℕ the_row.coded)) (λ s. (s.floor, s.kept))
    (λ p. record { floor = p.0; kept = p.1 }) (λ _. refl)

-- a session that begins: its floor is 1, and nothing is kept
abbrev pub first_session : Session
first_session = record { floor = 1; kept = empty }

-- the number is in the window of a session with this floor: the 32 numbers from the floor on, which it may
-- use once each
pub record IsInWindow (floor number : ℕ) : Type 0 where
  pub not_below : floor ≤ number
  pub not_beyond : number < floor + window_length

-- a floor may rise by a window at the most, and no higher than the greatest floor
pub record MayRise (old new : ℕ) : Type 0 where
  pub no_lower : old ≤ new
  pub within_window : new ≤ old + window_length
  pub within_limit : new ≤ greatest_floor

-- a session with its floor raised: what was kept below the floor is dropped
abbrev pub raised : Session → ℕ → Session
raised s floor = record { floor = floor; kept = retain_keys s.kept (nat_le floor) }

-- a session that keeps this for a number
abbrev pub keeping : Session → ℕ → Kept → Session
keeping s number kept = record { floor = s.floor; kept = insert s.kept number kept }

-- a session with nothing kept for a number any more
abbrev pub forgetting : Session → ℕ → Session
forgetting s number = record { floor = s.floor; kept = remove s.kept number }

-- the sessions with this one put instead of the one that was looked up, if it was there
abbrev pub put_session : FinMap nat_cmp Session → ℕ → Option Session → FinMap nat_cmp Session
put_session sessions session None = sessions
put_session sessions session (Some s) = insert sessions session s

-- the sessions after one is attached: it begins, unless it exists already
abbrev pub opened : FinMap nat_cmp Session → ℕ → FinMap nat_cmp Session
opened sessions session =
    if contains_key sessions session then sessions else insert sessions session first_session

-- what is kept for a number of a session that was looked up
abbrev pub kept_in : Option Session → ℕ → Option Kept
kept_in None number = None
kept_in (Some s) number = get s.kept number

-- what a session keeps for the numbers from this one on
abbrev pub answers_from : Session → ℕ → FinMap nat_cmp Kept
answers_from s number = retain_keys s.kept (nat_le number)

-- ---- what an entry requires of the sessions, and the sessions after it

-- a session that exists may be attached again with the floor that it has; a new one begins with floor 1,
-- while fewer than the most exist
abbrev pub MayAttach : FinMap nat_cmp Session → ℕ → Option Session → Type 0
MayAttach sessions floor here =
    MatchOption here ((floor ≡ 1) × (len sessions < most_sessions)) (λ s. floor ≡ s.floor)

-- a number is usable if it is in the window and no answer is kept for it
pub record IsUsable (s : Session) (number : ℕ) : Type 0 where
  pub in_window : IsInWindow s.floor number
  pub not_kept : get s.kept number ≡ None

-- what each kind of entry requires of the sessions before it
abbrev pub SessionsAllow : FinMap nat_cmp Session → Entry → Type 0
SessionsAllow sessions (Attached session floor) = MayAttach sessions floor (get sessions session)
SessionsAllow sessions (Closed session) = IsSome (get sessions session)
SessionsAllow sessions (Settled session floor) = IsSomeAnd (get sessions session) (λ x. MayRise x.floor floor)
SessionsAllow sessions (Finished session number request answer) =
    IsSomeAnd (get sessions session) (λ x. IsUsable x number)

-- The sessions after an entry; its place is the number of entries before it. An attached session that is new
-- begins with floor 1, and one that exists stays as it is. A raised floor drops the answers below it. Other
-- entries of a session that does not exist change nothing.
abbrev pub sessions_after : FinMap nat_cmp Session → ℕ → Entry → FinMap nat_cmp Session
sessions_after sessions place (Attached session floor) = opened sessions session
sessions_after sessions place (Closed session) = remove sessions session
sessions_after sessions place (Settled session floor) =
    put_session sessions session (option_map (λ s. raised s floor) (get sessions session))
sessions_after sessions place (Finished session number request answer) =
    put_session sessions session (option_map
    (λ s. keeping s number (record { request = request; answer = answer; place = place }))
    (get sessions session))
