-- The rule of a hall's history, and what the steps say that add to it. The history exists in proofs alone,
-- except for two words that count the batches that were stored and cut (`docs/headline.md`, "Every
-- acknowledged answer").
use Rattle.std.specs.Prelude.{ℕ, ◌≡◌, ◌<◌, ◌==◌, true, List, [], ◌∷◌, ◌++◌, length, Option, None, Some}
use Rattle.std.specs.Prelude.{MatchBool}
use mathlib.Core.List.{IsPrefix}
use Rattle.logbook.specs.Pages.{Cell, Step, View, Book, Named}
use Rattle.fe_state.specs.State.{ServerState}
use Rattle.fe_state.specs.declared.batch.Batch.{Batch}
use Rattle.fe_state.specs.declared.request.Request.{Request}
use Rattle.fe_wire.specs.declared.client_message.ClientMessage.{ClientMessage}
use Rattle.fe_wire.specs.declared.client_message.ClientMessage.TheVariants.{Attach, Call}
use Rattle.fe_front.specs.Front.{FrontState}
use Rattle.fe_history.specs.declared.act.Act.{Act}
use Rattle.fe_history.specs.declared.act.Act.TheVariants.{Asked, Called, Began}
use Rattle.fe_history.specs.Acts.{AreOfCalls, IsLegal, batches_of, cuts_in, entries_in, place_after}
use Rattle.fe_history.specs.Acts.{stores_in}

-- the two words count the batches that were stored and cut, and what happened is legal
pub record IsKept (cells : List Cell) (log : List Act) : Type 0 where
  pub words : cells ≡ (length (stores_in log), true) ∷ (length (cuts_in log), true) ∷ []
  pub legal : IsLegal log

-- the names of the two words of a history
abbrev pub stores_of : Book → Named
stores_of b = record { tracked = true; key = 0; book = b }

abbrev pub cuts_of : Book → Named
cuts_of b = record { tracked = true; key = 1; book = b }

-- a history that has no name yet
pub record Unnamed : Type 0 where
  pub book : Book
  pub acts : List Act

-- all that is pending in a front, as the batch that a cut hands out
abbrev pub pending_batch : FrontState → Batch
pending_batch f = record { first = f.durable; entries = f.service.pending }

-- A batch may be cut after this many others: they were stored in this history, it begins where they end, it
-- is not empty, and it finishes only requests that were called in this history, of sessions that were not
-- closed since.
pub record CutsAfter (acts : List Act) (count : ℕ) (batch : Batch) : Type 0 where
  pub begun : ServerState
  pub begins : IsPrefix (Began begun ∷ []) acts
  pub before : List Batch
  pub stored : IsPrefix before (batches_of (stores_in acts))
  pub counted : count ≡ length before
  pub first : batch.first ≡ place_after begun before
  pub some : 0 < length batch.entries
  pub called : AreOfCalls begun acts (entries_in before) batch.entries

-- the act was added after all of these, and maybe after more
pub record WasAppended (before : List Act) (act : Act) (after : List Act) : Type 0 where
  pub earlier : List Act
  pub seen : IsPrefix before earlier
  pub is : after ≡ earlier ++ act ∷ []

-- what a call of a connection adds: the session that the connection had, if it had one, with the call's
-- number, request and place
abbrev pub HearsCall : List Act → ℕ → Option ℕ → ℕ → ℕ → Request → List Act → Type 0
HearsCall before conn None place number request after = after ≡ before
HearsCall before conn (Some session) place number request after =
    WasAppended before (Called conn session number request place) after

-- what a message of a connection, which had this session or none, adds to a history at this place: that it
-- asks for a session or calls a request, if it does
abbrev pub Hears : List Act → ℕ → Option ℕ → ℕ → ClientMessage → List Act → Type 0
Hears before conn had place (Attach session) after = WasAppended before (Asked conn session) after
Hears before conn had place (Call number request) after = HearsCall before conn had place number request after
Hears before conn had place _ after = after ≡ before

-- the act was added, and the history is legal
abbrev pub Adds : Step Act → View Act ℕ → ℕ → View Act ℕ → Type 0
Adds s v found w = WasAppended v.0 s.ask w.0 × IsLegal w.0

-- the act was added if this count of the acts before it was as expected
abbrev pub AddsNext : (List Act → ℕ) → Step Act → View Act ℕ → ℕ → View Act ℕ → Type 0
AddsNext count s v found w = MatchBool (found == s.old)
    ((c : WasAppended v.0 s.ask w.0) × (count c.earlier ≡ s.old)) (Unit {0}) × IsLegal w.0

-- the answer is how many batches were stored
abbrev pub Counts : Step Act → View Act ℕ → ℕ → View Act ℕ → Type 0
Counts s v found w = (length (stores_in w.0) ≡ found) × IsLegal w.0
