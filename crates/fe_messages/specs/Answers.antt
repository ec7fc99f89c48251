-- Which answers the entries of a history give, so that a mail can be checked against the history.
-- See `docs/model.md`, "Messages and mails".
use Rattle.std.specs.Prelude.{◌≡◌, ◌⊎◌, ℕ, ◌+◌, ◌<◌, List, [], ◌∷◌, ◌++◌, length, Some}
use Rattle.std.specs.FinMap.{get}
use Rattle.fe_state.specs.Sessions.{kept_in}
use Rattle.fe_state.specs.State.{ServerState, IsAnswered, directory_of, reply, after, after_all}
use Rattle.fe_state.specs.declared.answer.Answer.{Answer}
use Rattle.fe_state.specs.declared.entry.Entry.{Entry}
use Rattle.fe_state.specs.declared.entry.Entry.TheVariants.{Finished}
use Rattle.fe_state.specs.declared.request.Request.{Request}

-- The answer is that of the entry at the place: the entry finishes the number with the reply to its request
-- in the state before.
pub record IsFinishedAt (begun : ServerState) (es : List Entry) (session number : ℕ) (answer : Answer)
    (place : ℕ) : Type 0 where
  pub before : List Entry
  pub request : Request
  pub behind : List Entry
  pub entries : es ≡ before ++ Finished session number request answer ∷ behind
  pub at : place ≡ begun.place + length before
  pub replied : reply (after_all begun before) request ≡ Some answer

-- The answer was kept for the number, with its place, when the state was opened.
pub record IsKeptSince (begun : ServerState) (session number : ℕ) (answer : Answer) (place : ℕ) : Type 0 where
  pub request : Request
  pub kept : kept_in (get begun.sessions session) number
      ≡ Some (record { request = request; answer = answer; place = place })
  pub earlier : place < begun.place

-- The answer of a number is that of its entry among these, or it was kept before them.
abbrev pub IsAnswerIn : ServerState → List Entry → ℕ → ℕ → Answer → ℕ → Type 0
IsAnswerIn begun es session number answer place =
    IsKeptSince begun session number answer place ⊎ IsFinishedAt begun es session number answer place

-- Each entry that finishes a request has the reply to it in the state before the entry.
abbrev pub AreAnswered : ServerState → List Entry → Type 0
AreAnswered s [] = Unit {0}
AreAnswered s (e ∷ es) = IsAnswered (directory_of s) e × AreAnswered (after s e) es
