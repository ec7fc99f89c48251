-- Answers that sessions dropped when they were settled or closed, and how they are kept again when that is
-- undone. See `docs/model.md`, "The state of the server".
use Rattle.std.specs.Prelude.{◌≡◌, ℕ, ◌+◌, ◌≤◌, ◌<◌, List, [], ◌∷◌, ◌++◌, length, take, reverse}
use Rattle.std.specs.Prelude.{slice_index_or, Option, None, Some}
use Rattle.std.specs.Ordering.{nat_cmp}
use Rattle.std.specs.FinMap.{FinMap, get, insert, len}
use Rattle.fe_state.specs.Sessions.{Session, IsInWindow}
use Rattle.fe_state.specs.declared.dropped.Dropped.{Dropped}
use Rattle.fe_state.specs.declared.kept.Kept.{Kept}
use Rattle.fe_state.specs.Limits.{most_sessions, window_length, greatest_floor}

-- what is dropped for a number, given what is kept for it
abbrev pub answer_at : ℕ → Option Kept → List Dropped
answer_at number None = []
answer_at number (Some k) = record { number = number; kept = k } ∷ []

-- what is kept once dropped answers are kept again, one after another
abbrev pub keeping_all : FinMap nat_cmp Kept → List Dropped → FinMap nat_cmp Kept
keeping_all m [] = m
keeping_all m (d ∷ ds) = keeping_all (insert m d.number d.kept) ds

-- a session with another floor that keeps this many of the dropped answers again
abbrev pub kept_again : Session → ℕ → ℕ → List Dropped → Session
kept_again s floor answers dropped =
    record { floor = floor; kept = keeping_all s.kept (take answers dropped) }

-- there are at least `answers` dropped answers, and the first `answers` of them are for numbers in the window
-- of a floor
pub record AreDropped (floor answers : ℕ) (dropped : List Dropped) : Type 0 where
  pub there : answers ≤ length dropped
  pub in_window : (k : ℕ) (d : Dropped) → k < answers → IsInWindow floor (slice_index_or dropped k d).number

-- a floor may be lowered again, by a window at the most, if nothing is kept beyond the window of the lower
-- floor
pub record MayLower (s : Session) (floor : ℕ) : Type 0 where
  pub least : 1 ≤ floor
  pub no_higher : floor ≤ s.floor
  pub within_window : s.floor ≤ floor + window_length
  pub in_window : (number : ℕ) (k : Kept) → get s.kept number ≡ Some k → number < floor + window_length

-- a session that does not exist may be opened again with this floor and these answers, while fewer than the
-- most sessions exist
pub record MayReopen (floor answers : ℕ) (dropped : List Dropped) (sessions : FinMap nat_cmp Session)
    (session : ℕ) : Type 0 where
  pub least : 1 ≤ floor
  pub most : floor ≤ greatest_floor
  pub answers_there : AreDropped floor answers dropped
  pub free : get sessions session ≡ None
  pub few : len sessions < most_sessions

-- answers for numbers in the window of `floor`, at most `end` - `floor` of them, were dropped: they were
-- added to those dropped earlier, and to keep them again gives what was kept before
pub record WereDropped (floor end : ℕ) (before after : FinMap nat_cmp Kept)
    (old new : List Dropped) : Type 0 where
  -- the answers dropped, the latest first
  pub answers : List Dropped
  pub added : new ≡ old ++ reverse answers
  pub few : length answers + floor ≤ end
  pub again : keeping_all after answers ≡ before
  pub in_window : (k : ℕ) (d : Dropped) → k < length answers
      → IsInWindow floor (slice_index_or answers k d).number
