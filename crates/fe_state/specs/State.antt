-- The state of the server, the answer to a request in it, which entries (steps of the history) are legal in
-- it, and the state after them. `docs/model.md` has the same in words.
use Rattle.std.specs.Prelude.{◌≡◌, ℕ, ◌+◌, ◌^◌, ◌≤◌, ◌<◌, refl, List, [], ◌∷◌, Option, Some}
use Rattle.std.specs.Ordering.{nat_cmp}
use Rattle.std.specs.Coded.{Coded, code_by, coded×, coded_ℕ}
use Rattle.std.specs.FinMap.{FinMap, code, empty, get, len}
use Rattle.fe_state.specs.Directory.{Directory, IsDirectory, answer_in}
use Rattle.fe_state.specs.Effect.{effect_of, performed}
use Rattle.fe_state.specs.Sessions.{Session, session_code, IsInWindow, SessionsAllow, sessions_after}
use Rattle.fe_state.specs.declared.array.Array.{Array}
use Rattle.fe_state.specs.contracts.array.Array.{the_row}
use Rattle.fe_state.specs.declared.kept.Kept.{Kept}
use Rattle.fe_state.specs.declared.answer.Answer.{Answer}
use Rattle.fe_state.specs.declared.answer.Answer.TheVariants as answer
use Rattle.fe_state.specs.declared.effect.Effect.{Effect}
use Rattle.fe_state.specs.declared.effect.Effect.TheVariants.{Nothing}
use Rattle.fe_state.specs.declared.request.Request.{Request}
use Rattle.fe_state.specs.declared.request.Request.TheVariants.{Create}
use Rattle.fe_state.specs.declared.entry.Entry.{Entry}
use Rattle.fe_state.specs.declared.entry.Entry.TheVariants.{Attached, Closed, Settled, Finished}
use Rattle.fe_state.specs.Limits.{most_sessions, greatest_floor, greatest_place}
use Rattle.std.specs.Borrow.{Bor}
use Rattle.fe_words.specs.declared.word.Word.{Word}

-- the arrays by id, the sessions by number, the id that the next array gets, and the number of entries so far
pub record ServerState : Type 0 where
  pub arrays : FinMap nat_cmp Array
  pub sessions : FinMap nat_cmp Session
  pub next_id : ℕ
  pub place : ℕ

-- for proofs, a state is coded as the tuple of its fields
abbrev pub state_code : Coded ServerState
state_code =
    code_by (FinMap nat_cmp Array × (FinMap nat_cmp Session × (ℕ × ℕ)))
    (coded× (code coded_ℕ the_row.coded) (coded× (code coded_ℕ session_code) (coded× coded_ℕ coded_ℕ)))
    (λ s. (s.arrays, (s.sessions, (s.next_id, s.place))))
    (λ p. record { arrays = p.0; sessions = p.1.0; next_id = p.1.1.0; place = p.1.1.1 }) (λ _. refl)

-- the state before the first entry
abbrev pub first_state : ServerState
first_state = record { arrays = empty; sessions = empty; next_id = 1; place = 0 }

-- the arrays of a state, with the id that the next one gets
abbrev pub directory_of : ServerState → Directory
directory_of s = record { arrays = s.arrays; next_id = s.next_id }

-- a state with other arrays
abbrev pub with_arrays : ServerState → FinMap nat_cmp Array → ServerState
with_arrays s arrays = record { arrays = arrays; sessions = s.sessions; next_id = s.next_id; place = s.place }

-- a state with other sessions
abbrev pub with_sessions : ServerState → FinMap nat_cmp Session → ServerState
with_sessions s sessions =
    record { arrays = s.arrays; sessions = sessions; next_id = s.next_id; place = s.place }

-- the answer to a request, or None if it has to wait
abbrev pub reply : ServerState → Request → Option Answer
reply s request = answer_in (directory_of s) request

-- the answer of an entry that finishes a request is the reply to it; the other entries have no answer
abbrev pub IsAnswered : Directory → Entry → Type 0
IsAnswered d (Attached session floor) = Unit {0}
IsAnswered d (Closed session) = Unit {0}
IsAnswered d (Settled session floor) = Unit {0}
IsAnswered d (Finished session number request answer) = answer_in d request ≡ Some answer

-- an entry that may come next; there is no place after the greatest
pub record IsLegal (s : ServerState) (e : Entry) : Type 0 where
  pub has_place : s.place < greatest_place
  pub allowed : SessionsAllow s.sessions e
  pub answered : IsAnswered (directory_of s) e

-- the effect of an entry on the directory
abbrev pub effect_in : Directory → Entry → Effect
effect_in d (Attached session floor) = Nothing
effect_in d (Closed session) = Nothing
effect_in d (Settled session floor) = Nothing
effect_in d (Finished session number request answer) = effect_of d request

-- the directory after an entry: only a request that finishes changes it
abbrev pub directory_after : Directory → Entry → Directory
directory_after d (Attached session floor) = d
directory_after d (Closed session) = d
directory_after d (Settled session floor) = d
directory_after d (Finished session number request answer) = performed d request

-- the state that a legal entry leaves
abbrev pub after : ServerState → Entry → ServerState
after s e =
    let d = directory_after (directory_of s) e in
    record {
      arrays = d.arrays;
      sessions = sessions_after s.sessions s.place e;
      next_id = d.next_id;
      place = s.place + 1;
    }

-- the state after entries, the first of them first
abbrev pub after_all : ServerState → List Entry → ServerState
after_all s [] = s
after_all s (e ∷ es) = after_all (after s e) es

-- a session whose floor and kept numbers are within the limits, at this place of the history
pub record IsSession (place : ℕ) (s : Session) : Type 0 where
  pub floor : 1 ≤ s.floor
  pub most : s.floor ≤ greatest_floor
  pub kept : (number : ℕ) (k : Kept) → get s.kept number ≡ Some k
      → IsInWindow s.floor number × (k.place < place)

-- a state within the limits, which all states of the server are: in format 2 it has exactly one image
pub record IsWithinLimits (s : ServerState) : Type 0 where
  pub place : s.place < 2 ^ 63
  pub directory : IsDirectory (directory_of s)
  pub next_id : s.next_id ≤ s.place + 1
  pub few_sessions : len s.sessions ≤ most_sessions
  pub each : (session : ℕ) (x : Session) → get s.sessions session ≡ Some x → IsSession s.place x

-- an entry that makes an array: a request for one that was answered with its id
abbrev pub MakesArray : Entry → Type 0
MakesArray (Finished session number (Create name size tag) (answer.Array id words)) = Unit {0}
MakesArray _ = ⊥

-- the entry finishes a request, and P holds of the request
abbrev pub OnFinished : Entry → (Request → Type 0) → Type 0
OnFinished (Finished session number request answer) P = P request
OnFinished _ P = ⊥

-- ---- what is shown of arrays and sessions

-- an array: its id, its name and its words
abbrev pub shown_array : ℕ × Bor (List ℕ) × Bor (List Word) → ℕ × Array
shown_array e = (e.0, record { name = e.1.now; words = e.2.now })

-- a session: its number, its floor and what it keeps
abbrev pub shown_session : ℕ × ℕ × FinMap nat_cmp Kept → ℕ × Session
shown_session e = (e.0, record { floor = e.1; kept = e.2 })
